use Rattle.std.proofs.Common.{◌∙◌, sym, ap, ◌++◌, take}
use Rattle.tm_tree.specs.declared.node.Child.{Child}
use Rattle.tm_snapshot.specs.Puts.{root_puts, old_puts}
use Rattle.tm_snapshot.proofs.Listing.{old_puts_more, one_step}
use Rattle.tm_snapshot.proofs.records.put_old.Goals as goal

pub loop-child-preserved : goal.loop-child-preserved
loop-child-preserved c =
    let g = c.args.graph.now in
    let last = c.args.last in
    let i = c.loop-child.child-index in
    let child = c.child-item.result in
    one_step _ _ _ _ _ _ c.in_ok-put_if_old.ensures c.loop-child.invariant
    (old_puts_more g last c.args.children.now i child c.loop-child-test.true ∙ ap (λ (x : Child). old_puts g last (take i c.args.children.now) ++ root_puts g last x.node) (sym c.child-item.is))
