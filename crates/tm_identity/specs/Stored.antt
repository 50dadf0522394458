-- A sum over identities is the sum over the nodes.
use Rattle.std.specs.Prelude.{◌≡◌, ℕ, Some, List, length, sum_by}
use Rattle.std.specs.Map.{values_of}
use Rattle.tm_base.specs.Paths.{Names}
use Rattle.tm_tree.specs.declared.item.Labelled.{Labelled}
use Rattle.tm_tree.specs.declared.node.LeafRow.{LeafRow}
use Rattle.tm_tree.specs.declared.node.LeafRow.TheVariants.{File, Link}
use Rattle.tm_tree.specs.declared.node.NodeBody.{NodeBody}
use Rattle.tm_tree.specs.declared.node.NodeBody.TheVariants.{Folder, Leaf}
use Rattle.tm_tree.specs.declared.node.NodeRow.{NodeRow}
use Rattle.tm_tree.specs.Copies.{LabelledTree}
use Rattle.tm_graph.specs.Nodes.{Nodes, node}
use Rattle.tm_graph.specs.Trees.{rows_of}
use Rattle.tm_identity.specs.Sums.{item_length, stored_bytes, identity_count, sum_over}
use Rattle.tm_identity.specs.Stores.{IsStore, IsUnderRoot, Labels, trees_of}

abbrev pub leaf_length : LeafRow → ℕ
leaf_length (File attrs stamp length) = length
leaf_length (Link attrs stamp target) = 0

abbrev pub body_length : NodeBody → ℕ
body_length (Folder attrs entries) = 0
body_length (Leaf leaf) = leaf_length leaf

-- the bytes of a file's node; none of a folder's or link's
abbrev pub node_length : NodeRow → ℕ
node_length row = body_length row.body

-- w weighs an item that v reads as k weighs its node
abbrev pub Weighs : (ℕ → NodeRow → Labelled) → Nodes → (Labelled → ℕ) → (NodeRow → ℕ) → Type 0
Weighs v g w k = (n : ℕ) (row : NodeRow) → node g n ≡ Some row → w (v n row) ≡ k row

-- v reads files with as many bytes as their nodes say
abbrev pub Lengths : (ℕ → NodeRow → Labelled) → Nodes → Type 0
Lengths v g = Weighs v g item_length node_length

-- the bytes that are stored are those of the nodes, and there are as many identities as nodes
abbrev pub StoredIsCounted : Type 0
StoredIsCounted = (v : ℕ → NodeRow → Labelled) (g : Nodes) (roots : List ℕ) → Labels v g → IsStore g roots
    → (Lengths v g → stored_bytes (trees_of v g roots) ≡ sum_by node_length (values_of g)) × (identity_count (trees_of v g roots) ≡ length g)

-- w weighs what stands at a path of a tree as k weighs the node there
abbrev pub WeighsAt : (ℕ → NodeRow → Labelled) → Nodes → List ℕ → (LabelledTree → Names → Labelled → ℕ) → (NodeRow → ℕ) → Type 0
WeighsAt v g roots w k = (r n : ℕ) (p : Names) (row : NodeRow) → IsUnderRoot g roots r p n → node g n ≡ Some row → w (rows_of v g r) p (v n row) ≡ k row

-- a sum over identities is the sum over the nodes
abbrev pub SumsAreCounted : Type 0
SumsAreCounted = (v : ℕ → NodeRow → Labelled) (g : Nodes) (roots : List ℕ) (w : LabelledTree → Names → Labelled → ℕ) (k : NodeRow → ℕ) → Labels v g → IsStore g roots
    → WeighsAt v g roots w k → sum_over w (trees_of v g roots) ≡ sum_by k (values_of g)
