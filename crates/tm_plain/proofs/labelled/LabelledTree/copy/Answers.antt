use Rattle.std.proofs.Common.{[], ◌∙◌, subst}
use Rattle.tm_tree.specs.Copies.{copy, copied_label}
use Rattle.tm_tree.specs.Trees.{Tree}
use Rattle.tm_tree.proofs.CopyProofs.{in_order_labelled}
use Rattle.tm_tree.proofs.Order.{InOrder, put_all_in_order}
use Rattle.tm_plain.proofs.labelled.LabelledTree.copy.Goals as goal

pub returns : goal.returns
returns c =
    let now = c.args.now.now in
    let in_order : InOrder now = subst (λ (t : Tree). InOrder t) c.items-path-items.ensures c.into_iter-path-iterator.ensures.into_iter_gives.5 in
    let all_put = rw c.in-None.ensures.steps.0 at c.loop-path.invariant in
    all_put ∙ put_all_in_order [] (copy c.args.label c.args.self.now now) (in_order_labelled (copied_label c.args.label c.args.self.now now) now in_order)
