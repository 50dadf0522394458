use Rattle.std.proofs.Common.{◌≡◌, ap, ◌∙◌}
use Rattle.tm_tree.specs.Copies.{LabelledTree, bare, same_tree}
use Rattle.tm_tree.specs.Trees.{Tree, beneath}
use Rattle.tm_plain.specs.Runs.{run_beneath}
use Rattle.tm_plain.proofs.RunLemmas.{run_is_beneath}
use Rattle.tm_plain.proofs.labelled.LabelledTree.is_same_at.Goals as goal

pub loop-at-init : goal.loop-at-init
loop-at-init c =
    let p = c.args.path.now in
    let olds : run_beneath p c.range-olds.result ≡ beneath c.args.self.now p =
    ap (λ (t : LabelledTree). run_beneath p t) (c.range-olds.ensures.between tt) ∙ run_is_beneath p c.self.inside.items.entries c.range-olds.ensures.ordered
    ∙ ap (λ (t : LabelledTree). beneath t p) c.self.view_is in
    let news : run_beneath p c.range-news.result ≡ beneath c.args.now.now p =
    ap (λ (t : Tree). run_beneath p t) (c.range-news.ensures.between tt) ∙ run_is_beneath p c.items.result.now.entries c.range-news.ensures.ordered
    ∙ ap (λ (t : Tree). beneath t p) c.items.ensures in
    λ i. same_tree (bare (olds i)) (news i)
