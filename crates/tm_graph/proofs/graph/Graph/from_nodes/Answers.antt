use Rattle.std.proofs.Common.{ℕ, ◌≡◌, [], ◌∷◌, ◌++◌, ◌∙◌, sym, ap, subst, append_assoc}
use Rattle.std.specs.Ordering.{nat_cmp}
use Rattle.std.specs.BTreeMap.{insert_entry}
use Rattle.std.specs.Vec.Iter.{into_iter_items}
use Rattle.tm_tree.specs.declared.node.NodeRow.{NodeRow}
use Rattle.tm_graph.specs.Nodes.{Nodes}
use Rattle.tm_graph.proofs.Taken.{Sorted}
use Rattle.tm_graph.proofs.Same.{put_last}
use Rattle.tm_graph.proofs.graph.Graph.from_nodes.Goals as goal

pub loop-number-preserved : goal.loop-number-preserved
loop-number-preserved c =
    let t = c.loop-number.by_number.entries in
    let row : ℕ × NodeRow = (c.in-Some.number, c.in-Some.row) in
    let rest = into_iter_items c.next.new.self in
    let all : t ++ row ∷ rest ≡ c.args.nodes = rw c.in-Some.ensures.steps.0 at c.loop-number.invariant in
    let sorted : Sorted (t ++ row ∷ rest) = subst (λ (g : Nodes). Sorted g) (sym all) c.requires.in_order in
    ap (λ (u : Nodes). u ++ rest) (c.in_ok-put.ensures.ok ∙ ap (λ n. insert_entry nat_cmp t n c.in-Some.row) c.number.view_is ∙ put_last t row rest sorted)
    ∙ append_assoc t (row ∷ []) rest ∙ all
