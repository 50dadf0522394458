-- Unique bytes are told by links alone.
use Rattle.std.specs.Prelude.{◌≡◌, ◌≤◌, true, nat_eq, ℕ, zero, suc, ◌+◌, ◌==◌, if◌then◌else◌, Option, Some, None, List, [], ◌∷◌, ◌++◌, sum_by}
use Rattle.std.specs.Map.{values_of}
use Rattle.std.specs.Set.{is_member}
use Rattle.tm_base.specs.Paths.{Names}
use Rattle.tm_tree.specs.declared.item.Labelled.{Labelled}
use Rattle.tm_tree.specs.declared.node.NodeRow.{NodeRow}
use Rattle.tm_graph.specs.Nodes.{Nodes, node, entries_of, links_of}
use Rattle.tm_graph.specs.Trees.{child_of, number_at, rows_of}
use Rattle.tm_identity.specs.Sums.{unique_bytes}
use Rattle.tm_identity.specs.Stores.{IsStore, Labels, trees_of}
use Rattle.tm_identity.specs.Stored.{node_length, Lengths}

abbrev pub only_with : Option NodeRow → (ℕ → ℕ) → ℕ
only_with None below = 0
only_with (Some row) below = if row.links == 1 then node_length row + sum_by (λ child. below child.node) (entries_of row) else 0

abbrev pub only_to : ℕ → Nodes → ℕ → ℕ
only_to zero g n = 0
only_to (suc depth) g n = only_with (node g n) (only_to depth g)

-- the bytes at and beneath a node, as far down as each node has one link
abbrev pub only_of : Nodes → ℕ → ℕ
only_of g n = only_to (suc n) g n

abbrev pub only_from : Option ℕ → (ℕ → ℕ) → ℕ
only_from None below = 0
only_from (Some n) below = below n

-- the same at and beneath a path, where each node on the way down to it has one link, and else none
abbrev pub only_at : Nodes → ℕ → Names → ℕ
only_at g n [] = only_of g n
only_at g n (name ∷ p) = if links_of g n == 1 then only_from (child_of (node g n) name) (λ m. only_at g m p) else 0

-- in a snapshot with root r, beside all others, which may have the same root
abbrev pub UniqueIsCounted : Type 0
UniqueIsCounted = (v : ℕ → NodeRow → Labelled) (g : Nodes) (before after : List ℕ) (r n : ℕ) (p : Names)
    → Labels v g → Lengths v g → IsStore g (before ++ r ∷ after) → number_at g r p ≡ Some n
    → unique_bytes (trees_of v g (before ++ after)) (rows_of v g r) p ≡ only_at g r p

-- no more bytes are unique than are stored
abbrev pub UniqueFits : Type 0
UniqueFits = (g : Nodes) (roots : List ℕ) → IsStore g roots → (r : ℕ) (p : Names) → is_member nat_eq roots r ≡ true → only_at g r p ≤ sum_by node_length (values_of g)
