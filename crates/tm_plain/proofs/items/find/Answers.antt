use Rattle.std.proofs.Common.{length, arith, ap, sym, ◌∙◌}
use Rattle.tm_plain.specs.ItemsOf.{items_of}
use Rattle.tm_tree.proofs.WalkSteps.{walk_missing, walk_into, walk_blocked}
use Rattle.tm_plain.proofs.items.find.Goals as goal

pub returns-in-None : goal.returns-in-None
returns-in-None g c =
    walk_missing (items_of g.V.HasItem.item_of c.args.items.now.entries) c.args.path.now c.loop-count.count _
    (omega (arith, ap length c.names-count-end.ensures.names)) c.loop-count.invariant (rw (← c.in_ok-first.ensures) (sym c.in-None.ensures))

pub returns-then-not-is_folder : goal.returns-then-not-is_folder
returns-then-not-is_folder g c =
    walk_blocked (items_of g.V.HasItem.item_of c.args.items.now.entries) c.args.path.now c.loop-count.count c.in-Some.item.now _
    (omega (arith, ap length c.names-count-end.ensures.names)) c.loop-count.invariant (rw (← c.in_ok-first.ensures) (sym c.in-Some.ensures))
    (sym c.is_folder.ensures ∙ c.if-not-is_folder.true)

pub loop-count-preserved : goal.loop-count-preserved
loop-count-preserved g c =
    walk_into (items_of g.V.HasItem.item_of c.args.items.now.entries) c.args.path.now c.loop-count.count c.in-Some.item.now _
    (omega (arith, ap length c.names-count-end.ensures.names)) c.loop-count.invariant (rw (← c.in_ok-first.ensures) (sym c.in-Some.ensures))
    (sym c.is_folder.ensures ∙ c.if-not-is_folder.false)
