use Rattle.std.proofs.Common.{ap, sym, subst}
use Rattle.tm_world.specs.Disk.{Disk}
use Rattle.tm_world.specs.Outside.{disk}
use Rattle.tm_world.specs.Log.{now}
use Rattle.tm_world.specs.declared.world.Side.{Side}
use Rattle.tm_world.specs.declared.world.Side.TheVariants.{Volume}
use Rattle.tm_image.specs.Seen.{Stands}
use Rattle.device_tests.proofs.Images.{stable}
use Rattle.device_tests.proofs.image.open.Goals as goal

pub load-requires-clause-small : goal.load-requires-clause-small
load-requires-clause-small g c = c.in_ok-blocks.ensures.small

pub returns-clause-stands : goal.returns-clause-stands
returns-clause-stands g c told =
    let m = c.in_ok-image.image in
    let l2 = g.W.World.log c.load.new.world in
    let loose = stable Volume (g.W.World.log c.attach.new.world) (g.W.World.log c.sync.new.self) (c.in_ok-sync.ensures.ok told) in
    subst (λ (s : Side). Stands m (disk s (now l2))) (sym c.in_ok-image.ensures.side)
    (subst (λ (d : Disk). Stands m d) (sym (ap (disk Volume) (c.load.ensures.steps told).ends)) (c.in_ok-image.ensures.stands told loose))
