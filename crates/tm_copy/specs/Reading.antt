-- Nodes as labelled items.
use Rattle.std.specs.Prelude.{ℕ, List}
use Rattle.tm_tree.specs.declared.item.Item.{Item}
use Rattle.tm_tree.specs.declared.item.Item.TheVariants as item
use Rattle.tm_tree.specs.declared.item.Labelled.{Labelled}
use Rattle.tm_tree.specs.declared.node.LeafRow.{LeafRow}
use Rattle.tm_tree.specs.declared.node.LeafRow.TheVariants.{File, Link}
use Rattle.tm_tree.specs.declared.node.NodeBody.{NodeBody}
use Rattle.tm_tree.specs.declared.node.NodeBody.TheVariants.{Folder, Leaf}
use Rattle.tm_tree.specs.declared.node.NodeRow.{NodeRow}

abbrev pub item_of_leaf : List ℕ → LeafRow → Item
item_of_leaf bytes (File attrs stamp size) = item.File attrs stamp bytes
item_of_leaf bytes (Link attrs stamp target) = item.Link attrs stamp target

-- the item that a node is, a file with these bytes
abbrev pub item_of : List ℕ → NodeBody → Item
item_of bytes (Folder attrs entries) = item.Folder attrs
item_of bytes (Leaf leaf) = item_of_leaf bytes leaf

-- the labelled item that a node is, where each number's bytes are given
abbrev pub labelled : (ℕ → List ℕ) → ℕ → NodeRow → Labelled
labelled files n row = record { label = row.label; item = item_of (files n) row.body }
