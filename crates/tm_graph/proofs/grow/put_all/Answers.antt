use Rattle.std.proofs.Common.{◌≡◌, ℕ, [], ◌∷◌, ◌++◌, ◌∙◌, sym, ap, subst, append_assoc, length, take, List, arith}
use Rattle.std.specs.Ordering.{nat_cmp}
use Rattle.std.specs.BTreeMap.{insert_entry}
use Rattle.std.specs.List.Sorted.{IsStrictlySortedBy}
use Rattle.std.specs.Vec.Iter.{into_iter_items}
use Rattle.std.proofs.lemmas.List.{take-append-le, length-append}
use Rattle.tm_tree.specs.declared.node.NodeRow.{NodeRow}
use Rattle.tm_graph.specs.Nodes.{Nodes, with_links}
use Rattle.tm_graph.specs.Growing.{unlinked}
use Rattle.tm_graph.proofs.Taken.{Sorted}
use Rattle.tm_graph.proofs.Same.{put_last}
use Rattle.tm_graph.proofs.Joining.{keys-unlinked}
use Rattle.tm_graph.proofs.grow.put_all.Goals as goal

pub loop-number-preserved : goal.loop-number-preserved
loop-number-preserved c =
    let t = c.loop-number.nodes.entries in
    let row : ℕ × NodeRow = (c.in-Some.number, with_links c.in-Some.row 0) in
    let rest = unlinked (into_iter_items c.next.new.self) in
    let all : t ++ row ∷ rest ≡ c.args.nodes.now.entries ++ unlinked c.args.new.items = rw c.in-Some.ensures.steps.0 at c.loop-number.invariant.all in
    let sorted : Sorted (t ++ row ∷ rest) = subst (λ (g : Nodes). Sorted g) (sym all) (subst (λ (ks : List ℕ). IsStrictlySortedBy nat_cmp ks) (sym (keys-unlinked c.args.nodes.now.entries c.args.new.items)) c.requires) in
    let is : c.put_unlinked.new.nodes.entries ≡ t ++ row ∷ [] = c.in_default.ensures.ok ∙ ap (λ n. insert_entry nat_cmp t n row.1) c.number.view_is ∙ put_last t row rest sorted in
    record {
      first = omega (arith, ap length is, length-append t (row ∷ []), c.loop-number.invariant.first);
      kept = ap (take c.len-count.result) is ∙ take-append-le c.len-count.result t (row ∷ []) c.loop-number.invariant.first ∙ c.loop-number.invariant.kept;
      all = ap (λ (u : Nodes). u ++ rest) is ∙ append_assoc t (row ∷ []) rest ∙ all;
    }
