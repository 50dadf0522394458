-- A snapshot is removed.
use Rattle.std.specs.Prelude.{◌≡◌, ℕ, ◌+◌, true, ◌==◌, nat_eq, if◌then◌else◌, Some, List, count_by}
use Rattle.std.specs.Set.{is_member}
use Rattle.tm_tree.specs.declared.item.Labelled.{Labelled}
use Rattle.tm_tree.specs.declared.node.NodeRow.{NodeRow}
use Rattle.tm_graph.specs.Nodes.{Nodes, node}
use Rattle.tm_graph.specs.Losing.{IsGone, after_loss}
use Rattle.tm_graph.specs.Trees.{rows_of}
use Rattle.tm_identity.specs.Stores.{IsStore}

-- v reads of a node of g what w reads of it in h, where both have it
abbrev pub ReadsAlike : (ℕ → NodeRow → Labelled) → Nodes → (ℕ → NodeRow → Labelled) → Nodes → Type 0
ReadsAlike v g w h = (n : ℕ) (row other : NodeRow) → node g n ≡ Some row → node h n ≡ Some other → v n row ≡ w n other

-- the trees under these roots are the same in both
abbrev pub TreesStay : Nodes → Nodes → List ℕ → Type 0
TreesStay g h roots = (v w : ℕ → NodeRow → Labelled) → ReadsAlike v g w h → (s : ℕ) → is_member nat_eq roots s ≡ true → rows_of v g s ≡ rows_of w h s

-- the roots are the others and one more
abbrev pub OneLess : List ℕ → ℕ → List ℕ → Type 0
OneLess roots root others = (q : ℕ) → count_by (λ r. r == q) roots ≡ count_by (λ r. r == q) others + (if q == root then 1 else 0)

-- what is left of a store is one, and the other trees stay
abbrev pub RemovalKeeps : Type 0
RemovalKeeps = (g : Nodes) (roots others : List ℕ) (root : ℕ) (gone : List ℕ) → IsStore g roots → IsGone g root gone → OneLess roots root others
    → IsStore (after_loss g root gone) others × TreesStay g (after_loss g root gone) others
