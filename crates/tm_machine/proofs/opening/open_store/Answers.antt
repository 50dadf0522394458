use Rattle.std.proofs.Common.{◌∙◌, Some, Err, ap}
use Rattle.tm_store_records.specs.Held.{store_stored_on}
use Rattle.tm_world.specs.Log.{now}
use Rattle.tm_world.specs.Outside.{Outside, disk}
use Rattle.tm_world.specs.declared.world.Side.TheVariants.{Store as StoreSide}
use Rattle.tm_machine.proofs.OpeningLemmas.{no_store, same_store, small_side, store_opens}
use Rattle.tm_machine.proofs.opening.open_store.Goals as goal

pub returns-in-Ok-clause-state : goal.returns-in-Ok-clause-state
returns-in-Ok-clause-state g c told r reads =
    let d = disk StoreSide (now (g.W.World.log c.args.world.now)) in
    let h = c.in-Ok.store in
    ap (λ (o : Outside). Some (store_stored_on h (disk StoreSide o).bytes)) (c.in-Ok.ensures.steps told).ends
    ∙ same_store c.sides_read_as_one.ensures h d r
    (small_side d (g.W.World.blocks c.args.world.now StoreSide) c.args.blocks (g.met.W.World.counts told c.args.world.now StoreSide) c.requires.count c.requires.small)
    (c.in-Ok.ensures.reads told (c.requires.stable told)) reads

pub returns-in-Ok-clause-opens : goal.returns-in-Ok-clause-opens
returns-in-Ok-clause-opens g c told =
    store_opens c.in-Ok.store (disk StoreSide (now (g.W.World.log c.args.world.now))) (c.in-Ok.ensures.reads told (c.requires.stable told))

pub returns-in-Err-Unformatted-clause-state : goal.returns-in-Err-Unformatted-clause-state
returns-in-Err-Unformatted-clause-state g c told r reads =
    let d = disk StoreSide (now (g.W.World.log c.args.world.now)) in
    no_store c.sides_read_as_one.ensures d r
    (small_side d (g.W.World.blocks c.args.world.now StoreSide) c.args.blocks (g.met.W.World.counts told c.args.world.now StoreSide) c.requires.count c.requires.small)
    (c.in-Err-Unformatted.ensures.unformatted told (ap Err c.in-Err-Unformatted.field-0-is)) reads
