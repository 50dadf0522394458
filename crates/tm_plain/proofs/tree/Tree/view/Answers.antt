use Rattle.std.proofs.Common.{[], ◌∙◌, not, subst}
use Rattle.tm_tree.specs.Trees.{Tree}
use Rattle.tm_tree.specs.Views.{view, is_hidden, hidden_paths}
use Rattle.tm_tree.proofs.Order.{InOrder, put_all_in_order, in_order_filter}
use Rattle.tm_plain.proofs.tree.Tree.view.Goals as goal

pub returns : goal.returns
returns g c =
    let t = c.args.self.now in
    let hidden = hidden_paths (g.F.FixedPaths.paths c.args.fixed.now) t in
    let in_order : InOrder t = subst (λ (u : Tree). InOrder u) c.items-path-items.ensures c.into_iter-path-iterator.ensures.into_iter_gives.5 in
    let all_put = rw c.in-None.ensures.steps.0 at c.loop-path.invariant in
    c.of.ensures ∙ all_put ∙ put_all_in_order [] (view (g.F.FixedPaths.paths c.args.fixed.now) t) (in_order_filter (λ row. not (is_hidden hidden row.0)) t in_order)
