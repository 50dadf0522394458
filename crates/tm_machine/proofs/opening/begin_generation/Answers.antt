use Rattle.std.proofs.Common.{Some}
use Rattle.tm_world.specs.Log.{now}
use Rattle.tm_world.specs.Outside.{disk}
use Rattle.tm_world.specs.declared.world.Side.TheVariants.{Volume as VolumeSide}
use Rattle.tm_volume.specs.Seen.{stored_on}
use Rattle.tm_volume.specs.Stored.{reopened}
use Rattle.tm_machine.proofs.OpeningLemmas.{stays_as_is}
use Rattle.tm_machine.proofs.opening.begin_generation.Goals as goal

pub returns-then-info-clause-any_moment : goal.returns-then-info-clause-any_moment
returns-then-info-clause-any_moment g c told =
    let old = stored_on c.args.volume.now (disk VolumeSide (now (g.W.World.log c.args.world.now))).bytes in
    stays_as_is (g.W.World.log c.args.world.now) (Some old) (Some (reopened old))
