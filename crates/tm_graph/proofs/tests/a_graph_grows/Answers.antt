use Rattle.std.proofs.Common.{zero, suc, ◌≡◌, ℕ, ◌+◌, ◌<◌, ◌≤◌, ◌^◌, Bool, true, false, cond, ◌==◌, Some, [], ◌∷◌, refl, arith, get_or}
use Rattle.std.specs.Prelude.{slice_get}
use Rattle.std.specs.List.Sorted.{IsStrictlySortedBy}
use Rattle.tm_tree.specs.declared.node.LeafRow.{LeafRow}
use Rattle.tm_tree.specs.declared.node.NodeBody.TheVariants.{Leaf}
use Rattle.tm_tree.specs.declared.node.NodeRow.{NodeRow}
use Rattle.tm_graph.specs.Nodes.{NamesRise, new_node}
use Rattle.tm_graph.specs.Growing.{IsNewNode, MayGrow}
use Rattle.tm_graph.proofs.tests.a_graph_grows.Goals as goal

none : NamesRise []
unfolding IsStrictlySortedBy
none = tt

-- a file may come to an empty graph
leaf_may : (leaf : LeafRow) → MayGrow [] ((1, new_node 1 (Leaf leaf)) ∷ []) 1
leaf_may leaf = record {
  numbered = λ place e is. at_one place e is;
  each = λ k d l. is_new k d l;
  root_there = refl;
  low = omega arith;
  few = λ q. omega (arith, one (q == 1));
}
  where
    at_one : (place : ℕ) (e : ℕ × NodeRow) → slice_get ((1, new_node 1 (Leaf leaf)) ∷ []) place ≡ Some e → e.0 ≡ 1 + place
    at_one zero e is = let same : (1, new_node 1 (Leaf leaf)) ≡ e = cc in rw (← same) refl
    at_one (suc place) e is = absurd (cc is)

    is_new : (k : ℕ) (d : ℕ × NodeRow) → k < 1 → IsNewNode [] ((1, new_node 1 (Leaf leaf)) ∷ []) (get_or ((1, new_node 1 (Leaf leaf)) ∷ []) k d)
    is_new zero d l = record { rises = none; children = λ q h. absurd (omega (arith, h)) }
    is_new (suc k) d l = absurd (omega arith)

    one : (b : Bool) → cond b 1 0 ≤ 1
    one true = omega arith
    one false = omega arith

pub grow-requires : goal.grow-requires
grow-requires g c = rw (c.new-graph.ensures, c.of.ensures, c.in_ok-vec.ensures.items) (leaf_may c.in_ok-file.field-0)
