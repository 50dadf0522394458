-- What is answered of the nodes of a store. The nodes know neither the other snapshots nor the bytes of files, so each
-- answer holds for all lists of snapshots under which the nodes are a store, and however nodes are read as items.
use Rattle.std.specs.Prelude.{◌≡◌, ℕ, true, nat_eq, List, ◌∷◌, ◌++◌}
use Rattle.std.specs.Set.{is_member}
use Rattle.tm_base.specs.Paths.{Names}
use Rattle.tm_tree.specs.declared.item.Labelled.{Labelled}
use Rattle.tm_tree.specs.declared.node.NodeRow.{NodeRow}
use Rattle.tm_graph.specs.Nodes.{Nodes}
use Rattle.tm_graph.specs.Trees.{rows_of}
use Rattle.tm_identity.specs.Stores.{IsStore, Labels, trees_of}
use Rattle.tm_identity.specs.Stored.{Lengths}
use Rattle.tm_identity.specs.Sums.{stored_bytes, unique_bytes}

-- the nodes are a store, and the root is that of one of its snapshots
pub record IsSnapshot (g : Nodes) (root : ℕ) : Type 0 where
  pub roots : List ℕ
  pub store : IsStore g roots
  pub listed : is_member nat_eq roots root ≡ true

-- so many bytes are unique at p in the snapshot with this root, beside those before and after it
abbrev pub AreUnique : Nodes → ℕ → Names → ℕ → Type 0
AreUnique g root p bytes = (v : ℕ → NodeRow → Labelled) (before after : List ℕ) → Labels v g → Lengths v g → IsStore g (before ++ root ∷ after)
    → bytes ≡ unique_bytes (trees_of v g (before ++ after)) (rows_of v g root) p

-- so many bytes are stored in all snapshots
abbrev pub AreStored : Nodes → ℕ → Type 0
AreStored g bytes = (v : ℕ → NodeRow → Labelled) (roots : List ℕ) → Labels v g → Lengths v g → IsStore g roots → bytes ≡ stored_bytes (trees_of v g roots)
