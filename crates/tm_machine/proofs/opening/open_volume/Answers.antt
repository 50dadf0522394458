use Rattle.std.proofs.Common.{Some, Option, Err, ap, ◌∙◌}
use Rattle.std.specs.Option.{option_map}
use Rattle.tm_world.specs.Log.{now}
use Rattle.tm_world.specs.Outside.{disk}
use Rattle.tm_world.specs.declared.world.Side.TheVariants.{Volume as VolumeSide}
use Rattle.tm_world.specs.Torn.{as_read}
use Rattle.tm_volume.specs.Seen.{stored_on}
use Rattle.tm_volume.specs.Stored.{StoredVolume, reopened}
use Rattle.tm_machine.proofs.OpeningLemmas.{loads_nothing, loads_volume, opened_as, no_volume, any_steps, any_then, unformatted_now, small_side, stands_formatted, volume_opens, unformatted_opens}
use Rattle.tm_machine.proofs.opening.open_volume.Goals as goal

pub returns-in-Ok-begin_generation-clause-any_moment : goal.returns-in-Ok-begin_generation-clause-any_moment
returns-in-Ok-begin_generation-clause-any_moment g c told r reads =
    let old = g.W.World.log c.args.world.now in
    let mid = g.W.World.log c.load.new.world in
    let steps = c.load.ensures.steps told in
    let is = opened_as c.sides_read_as_one.ensures c.standing_volume_is_left.ensures c.in-Ok.volume c.args.blocks old mid r (small_side (disk VolumeSide (now old)) (g.W.World.blocks c.args.world.now VolumeSide) c.args.blocks (g.met.W.World.counts told c.args.world.now VolumeSide) c.requires.count c.requires.small) steps c.begin_generation.ensures.kept.0 c.in-Ok.ensures.ready (c.in-Ok.ensures.stands told) reads in
    loads_volume old mid (g.W.World.log c.begin_generation.new.world) r (stored_on c.in-Ok.volume (disk VolumeSide (now mid)).bytes) (c.requires.stable told) reads steps is (c.begin_generation.ensures.any_moment told)

pub returns-in-Ok-begin_generation-clause-alone : goal.returns-in-Ok-begin_generation-clause-alone
returns-in-Ok-begin_generation-clause-alone g c told =
    any_then _ (g.W.World.log c.args.world.now) (g.W.World.log c.load.new.world) (g.W.World.log c.begin_generation.new.world) (c.load.ensures.steps told) (c.begin_generation.ensures.any_moment told)

pub returns-in-Err-clause-any_moment : goal.returns-in-Err-clause-any_moment
returns-in-Err-clause-any_moment g c told r reads =
    let old = g.W.World.log c.args.world.now in
    let mid = g.W.World.log c.load.new.world in
    let steps = c.load.ensures.steps told in
    let is = opened_as c.sides_read_as_one.ensures c.standing_volume_is_left.ensures c.in-Ok.volume c.args.blocks old mid r (small_side (disk VolumeSide (now old)) (g.W.World.blocks c.args.world.now VolumeSide) c.args.blocks (g.met.W.World.counts told c.args.world.now VolumeSide) c.requires.count c.requires.small) steps c.begin_generation.ensures.kept.0 c.in-Ok.ensures.ready (c.in-Ok.ensures.stands told) reads in
    loads_volume old mid (g.W.World.log c.begin_generation.new.world) r (stored_on c.in-Ok.volume (disk VolumeSide (now mid)).bytes) (c.requires.stable told) reads steps is (c.begin_generation.ensures.any_moment told)

pub returns-in-Err-clause-alone : goal.returns-in-Err-clause-alone
returns-in-Err-clause-alone g c told =
    any_then _ (g.W.World.log c.args.world.now) (g.W.World.log c.load.new.world) (g.W.World.log c.begin_generation.new.world) (c.load.ensures.steps told) (c.begin_generation.ensures.any_moment told)

pub returns-in-Ok-begin_generation-clause-state : goal.returns-in-Ok-begin_generation-clause-state
returns-in-Ok-begin_generation-clause-state g c told r reads =
    let old = g.W.World.log c.args.world.now in
    let mid = g.W.World.log c.load.new.world in
    let is = opened_as c.sides_read_as_one.ensures c.standing_volume_is_left.ensures c.in-Ok.volume c.args.blocks old mid r (small_side (disk VolumeSide (now old)) (g.W.World.blocks c.args.world.now VolumeSide) c.args.blocks (g.met.W.World.counts told c.args.world.now VolumeSide) c.requires.count c.requires.small) (c.load.ensures.steps told) c.begin_generation.ensures.kept.0 c.in-Ok.ensures.ready (c.in-Ok.ensures.stands told) reads in
    ap (λ (s : StoredVolume). Some s) (c.in-Ok-begin_generation.ensures.stored told) ∙ ap (λ (v : Option StoredVolume). option_map reopened v) is

pub returns-in-Err-Unformatted-clause-state : goal.returns-in-Err-Unformatted-clause-state
returns-in-Err-Unformatted-clause-state g c told r reads =
    let d = disk VolumeSide (now (g.W.World.log c.args.world.now)) in
    let many = g.met.W.World.counts told c.args.world.now VolumeSide ∙ c.requires.count in
    ap (λ (v : Option StoredVolume). option_map reopened v)
    (no_volume c.sides_read_as_one.ensures d r (small_side d (g.W.World.blocks c.args.world.now VolumeSide) c.args.blocks (g.met.W.World.counts told c.args.world.now VolumeSide) c.requires.count c.requires.small) (unformatted_now d c.args.blocks many (c.in-Err-Unformatted.ensures.unformatted told (ap Err c.in-Err-Unformatted.field-0-is))) reads)

pub returns-in-Err-Unformatted-clause-any_moment : goal.returns-in-Err-Unformatted-clause-any_moment
returns-in-Err-Unformatted-clause-any_moment g c told r reads =
    loads_nothing (g.W.World.log c.args.world.now) (g.W.World.log c.load.new.world) r (option_map reopened r) (c.requires.stable told) reads (c.load.ensures.steps told)

pub returns-in-Err-Unformatted-clause-alone : goal.returns-in-Err-Unformatted-clause-alone
returns-in-Err-Unformatted-clause-alone g c told = any_steps (g.W.World.log c.args.world.now) (g.W.World.log c.load.new.world) (c.load.ensures.steps told)

pub returns-in-Err-Bad-clause-any_moment : goal.returns-in-Err-Bad-clause-any_moment
returns-in-Err-Bad-clause-any_moment g c told r reads =
    loads_nothing (g.W.World.log c.args.world.now) (g.W.World.log c.load.new.world) r (option_map reopened r) (c.requires.stable told) reads (c.load.ensures.steps told)

pub returns-in-Err-Bad-clause-alone : goal.returns-in-Err-Bad-clause-alone
returns-in-Err-Bad-clause-alone g c told = any_steps (g.W.World.log c.args.world.now) (g.W.World.log c.load.new.world) (c.load.ensures.steps told)

pub returns-in-Err-Fault-clause-any_moment : goal.returns-in-Err-Fault-clause-any_moment
returns-in-Err-Fault-clause-any_moment g c told r reads =
    loads_nothing (g.W.World.log c.args.world.now) (g.W.World.log c.load.new.world) r (option_map reopened r) (c.requires.stable told) reads (c.load.ensures.steps told)

pub returns-in-Err-Fault-clause-alone : goal.returns-in-Err-Fault-clause-alone
returns-in-Err-Fault-clause-alone g c told = any_steps (g.W.World.log c.args.world.now) (g.W.World.log c.load.new.world) (c.load.ensures.steps told)

pub returns-in-Err-Memory-clause-any_moment : goal.returns-in-Err-Memory-clause-any_moment
returns-in-Err-Memory-clause-any_moment g c told r reads =
    loads_nothing (g.W.World.log c.args.world.now) (g.W.World.log c.load.new.world) r (option_map reopened r) (c.requires.stable told) reads (c.load.ensures.steps told)

pub returns-in-Err-Memory-clause-alone : goal.returns-in-Err-Memory-clause-alone
returns-in-Err-Memory-clause-alone g c told = any_steps (g.W.World.log c.args.world.now) (g.W.World.log c.load.new.world) (c.load.ensures.steps told)

pub returns-in-Ok-begin_generation-clause-opens : goal.returns-in-Ok-begin_generation-clause-opens
returns-in-Ok-begin_generation-clause-opens g c told =
    volume_opens c.standing_volume_is_left.ensures c.in-Ok.volume c.args.blocks (disk VolumeSide (now (g.W.World.log c.args.world.now))) c.begin_generation.ensures.kept.0
    c.in-Ok.ensures.ready (c.in-Ok.ensures.stands told) c.in-Ok.ensures.unspent

pub returns-in-Err-Unformatted-clause-opens : goal.returns-in-Err-Unformatted-clause-opens
returns-in-Err-Unformatted-clause-opens g c told =
    let d = disk VolumeSide (now (g.W.World.log c.args.world.now)) in
    let many = g.met.W.World.counts told c.args.world.now VolumeSide ∙ c.requires.count in
    unformatted_opens (as_read d) (unformatted_now d c.args.blocks many (c.in-Err-Unformatted.ensures.unformatted told (ap Err c.in-Err-Unformatted.field-0-is)))

pub returns-in-Ok-begin_generation-clause-blank : goal.returns-in-Ok-begin_generation-clause-blank
returns-in-Ok-begin_generation-clause-blank g c told reads =
    let old = g.W.World.log c.args.world.now in
    absurd (stands_formatted c.sides_read_as_one.ensures c.standing_volume_is_left.ensures c.in-Ok.volume c.args.blocks old (g.W.World.log c.load.new.world)
    (small_side (disk VolumeSide (now old)) (g.W.World.blocks c.args.world.now VolumeSide) c.args.blocks (g.met.W.World.counts told c.args.world.now VolumeSide) c.requires.count c.requires.small)
    (c.load.ensures.steps told) c.begin_generation.ensures.kept.0 c.in-Ok.ensures.ready (c.in-Ok.ensures.stands told) reads)

pub returns-in-Err-clause-blank : goal.returns-in-Err-clause-blank
returns-in-Err-clause-blank g c told reads =
    let old = g.W.World.log c.args.world.now in
    absurd (stands_formatted c.sides_read_as_one.ensures c.standing_volume_is_left.ensures c.in-Ok.volume c.args.blocks old (g.W.World.log c.load.new.world)
    (small_side (disk VolumeSide (now old)) (g.W.World.blocks c.args.world.now VolumeSide) c.args.blocks (g.met.W.World.counts told c.args.world.now VolumeSide) c.requires.count c.requires.small)
    (c.load.ensures.steps told) c.begin_generation.ensures.kept.0 c.in-Ok.ensures.ready (c.in-Ok.ensures.stands told) reads)

pub returns-in-Ok-begin_generation-clause-shut : goal.returns-in-Ok-begin_generation-clause-shut
returns-in-Ok-begin_generation-clause-shut g c told shut =
    absurd (shut (volume_opens c.standing_volume_is_left.ensures c.in-Ok.volume c.args.blocks (disk VolumeSide (now (g.W.World.log c.args.world.now))) c.begin_generation.ensures.kept.0
    c.in-Ok.ensures.ready (c.in-Ok.ensures.stands told) c.in-Ok.ensures.unspent))

pub returns-in-Err-clause-shut : goal.returns-in-Err-clause-shut
returns-in-Err-clause-shut g c told shut =
    absurd (shut (volume_opens c.standing_volume_is_left.ensures c.in-Ok.volume c.args.blocks (disk VolumeSide (now (g.W.World.log c.args.world.now))) c.begin_generation.ensures.kept.0
    c.in-Ok.ensures.ready (c.in-Ok.ensures.stands told) c.in-Ok.ensures.unspent))
