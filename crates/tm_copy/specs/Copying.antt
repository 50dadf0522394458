-- When the tree under a node is the labelled copy of a tree.
use Rattle.std.specs.Prelude.{◌≡◌, ℕ, ◌≤◌, true, false, Option, Some, None, is_some, List, [], ◌∷◌, ◌++◌}
use Rattle.tm_base.specs.Paths.{Names}
use Rattle.tm_tree.specs.declared.item.Item.{Item}
use Rattle.tm_tree.specs.declared.item.Labelled.{Labelled}
use Rattle.tm_tree.specs.declared.node.NodeRow.{NodeRow}
use Rattle.tm_tree.specs.Trees.{Tree, item_at, IsTree}
use Rattle.tm_tree.specs.Copies.{LabelledTree, is_same_at, copy}
use Rattle.tm_graph.specs.Nodes.{Nodes, node, entries_of, Descends}
use Rattle.tm_graph.specs.Trees.{and_then, number_at, rows_of}
use Rattle.tm_graph.specs.Walks.{child_named}

abbrev pub with_label : ℕ → Item → Labelled
with_label k e = record { label = k; item = e }

-- the tree under the base's root; none where there is no base
abbrev pub tree_under : (ℕ → NodeRow → Labelled) → Nodes → Option ℕ → LabelledTree
tree_under v h None = []
tree_under v h (Some b) = rows_of v h b

-- the base's node at a path
abbrev pub node_under : Nodes → Option ℕ → Names → Option ℕ
node_under h base p = and_then base (λ b. number_at h b p)

-- at p stands a node that v reads as e with the label k, and its entries are what stands at their paths
pub record IsOwn (v : ℕ → NodeRow → Labelled) (h : Nodes) (k : ℕ) (stands : Names → Option ℕ) (p : Names) (e : Item) : Type 0 where
  pub number : ℕ
  pub row : NodeRow
  pub here : stands p ≡ Some number
  pub there : node h number ≡ Some row
  pub reads : v number row ≡ with_label k e
  pub entries : (name : List ℕ) → child_named (entries_of row) name ≡ stands (p ++ name ∷ [])

-- what stands at each path of `now`: the base's node where all at and beneath it is as it was, else an own node of label k
pub record AreNodesOf (v : ℕ → NodeRow → Labelled) (h : Nodes) (k : ℕ) (base : Option ℕ) (now : Tree) (stands : Names → Option ℕ) : Type 0 where
  pub absent : (p : Names) → item_at now p ≡ None → stands p ≡ None
  pub shared : (p : Names) → is_some (item_at now p) ≡ true → is_same_at (tree_under v h base) now p ≡ true → stands p ≡ node_under h base p
  pub own : (p : Names) (e : Item) → item_at now p ≡ Some e → is_same_at (tree_under v h base) now p ≡ false → IsOwn v h k stands p e

-- then the tree under the root's node is the labelled copy
abbrev pub NodesAreCopy : Type 0
NodesAreCopy = (v : ℕ → NodeRow → Labelled) (h : Nodes) (k : ℕ) (base : Option ℕ) (now : Tree) (stands : Names → Option ℕ) (root : ℕ)
    → Descends h → IsTree now → AreNodesOf v h k base now stands → stands [] ≡ Some root → rows_of v h root ≡ copy k (tree_under v h base) now
