-- A snapshot is added.
use Rattle.std.specs.Prelude.{◌≡◌, ℕ, ◌<◌, Option, Some, is_some, true, List, [], ◌∷◌, ◌++◌, count_by, ◌==◌, ◌⊎◌, nat_eq}
use Rattle.std.specs.Set.{is_member}
use Rattle.tm_base.specs.Paths.{Names}
use Rattle.tm_tree.specs.declared.node.NodeRow.{NodeRow}
use Rattle.tm_graph.specs.Nodes.{Nodes, node, root_links, IsGraph, IsLinked, with_links}
use Rattle.tm_graph.specs.Trees.{number_at}
use Rattle.tm_identity.specs.Stores.{IsStore, label_of}
use Rattle.tm_identity.specs.Removals.{TreesStay}

-- h has the nodes of g, but for links, and may have more
abbrev pub HasNodesOf : Nodes → Nodes → Type 0
HasNodesOf g h = (n : ℕ) (row : NodeRow) → node g n ≡ Some row → (links : ℕ) × (node h n ≡ Some (with_links row links))

-- node n, beneath the new root at p, is the base's node at p, or is new and has the label k
abbrev pub IsCopied : Nodes → Nodes → ℕ → Option ℕ → Names → ℕ → Type 0
IsCopied g h k base p n = ((b : ℕ) × (base ≡ Some b) × (number_at g b p ≡ Some n)) ⊎ ((is_some (node g n) ≡ true → ⊥) × (label_of h n ≡ k))

-- h is the store g with a snapshot more: beneath its root stand nodes of the base, each at the base's path, and new ones of
-- a new label, each at one path
pub record IsAddition (g h : Nodes) (roots : List ℕ) (k : ℕ) (base : Option ℕ) (root : ℕ) : Type 0 where
  pub graph : IsGraph h
  pub linked : IsLinked h
  pub rooted : (q : ℕ) → root_links h q ≡ count_by (λ r. r == q) (roots ++ root ∷ [])
  pub keeps : HasNodesOf g h
  pub old_labels : (n : ℕ) → is_some (node g n) ≡ true → label_of g n < k
  pub based : (b : ℕ) → base ≡ Some b → is_member nat_eq roots b ≡ true
  pub copied : (p : Names) (n : ℕ) → number_at h root p ≡ Some n → IsCopied g h k base p n
  pub once : (p q : Names) (n : ℕ) → number_at h root p ≡ Some n → number_at h root q ≡ Some n → label_of h n ≡ k → p ≡ q

-- then it is one, and the other trees stay
abbrev pub AdditionKeeps : Type 0
AdditionKeeps = (g h : Nodes) (roots : List ℕ) (k : ℕ) (base : Option ℕ) (root : ℕ) → IsStore g roots → IsAddition g h roots k base root
    → IsStore h (roots ++ root ∷ []) × TreesStay g h roots
