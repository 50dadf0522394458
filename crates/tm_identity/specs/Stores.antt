-- A graph under the roots of snapshots.
use Rattle.std.specs.Prelude.{◌≡◌, ◌↔◌, ℕ, true, ◌==◌, nat_eq, Some, is_some, List, map, count_by}
use Rattle.std.specs.Option.{option_map, unwrap_or}
use Rattle.std.specs.Set.{is_member}
use Rattle.tm_base.specs.Paths.{Names}
use Rattle.tm_tree.specs.declared.item.Labelled.{Labelled}
use Rattle.tm_tree.specs.declared.node.NodeRow.{NodeRow}
use Rattle.tm_tree.specs.Copies.{LabelledTree}
use Rattle.tm_graph.specs.Nodes.{Nodes, node, root_links, IsGraph, IsLinked}
use Rattle.tm_graph.specs.Trees.{number_at, rows_of}
use Rattle.tm_identity.specs.Identities.{holds}

abbrev pub label_of : Nodes → ℕ → ℕ
label_of g n = unwrap_or (option_map (λ row. row.label) (node g n)) 0

-- node n stands at p beneath r, which is one of the roots
abbrev pub IsUnderRoot : Nodes → List ℕ → ℕ → Names → ℕ → Type 0
IsUnderRoot g roots r p n = (is_member nat_eq roots r ≡ true) × (number_at g r p ≡ Some n)

-- a node has a root link for each time that it is listed as a root; each node stands at one path, and no two of one label
-- at the same, so that each identity has one node
pub record IsStore (g : Nodes) (roots : List ℕ) : Type 0 where
  pub graph : IsGraph g
  pub linked : IsLinked g
  pub rooted : (q : ℕ) → root_links g q ≡ count_by (λ r. r == q) roots
  pub one_path : (r s n : ℕ) (p q : Names) → IsUnderRoot g roots r p n → IsUnderRoot g roots s q n → p ≡ q
  pub one_node : (r s m n : ℕ) (p : Names) → IsUnderRoot g roots r p m → IsUnderRoot g roots s p n → label_of g m ≡ label_of g n → m ≡ n

-- v reads nodes as items with their labels
abbrev pub Labels : (ℕ → NodeRow → Labelled) → Nodes → Type 0
Labels v g = (n : ℕ) (row : NodeRow) → node g n ≡ Some row → (v n row).label ≡ row.label

-- the trees under these roots, as v reads the nodes
abbrev pub trees_of : (ℕ → NodeRow → Labelled) → Nodes → List ℕ → List LabelledTree
trees_of v g roots = map (λ r. rows_of v g r) roots

-- each node stands somewhere
abbrev pub NodesStand : Type 0
NodesStand = (g : Nodes) (roots : List ℕ) → IsStore g roots → (n : ℕ) → is_some (node g n) ≡ true → (r : ℕ) × (p : Names) × IsUnderRoot g roots r p n

-- a tree holds an identity exactly where a node of that label stands there
abbrev pub IdentitiesAreNodes : Type 0
IdentitiesAreNodes = (v : ℕ → NodeRow → Labelled) (g : Nodes) (roots : List ℕ) → Labels v g → IsStore g roots
    → (r label : ℕ) (p : Names) → is_member nat_eq roots r ≡ true → (holds (rows_of v g r) label p ≡ true) ↔ ((n : ℕ) × IsUnderRoot g roots r p n × (label_of g n ≡ label))
