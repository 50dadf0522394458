-- When the base's node is kept: told by stamps, attributes and numbers, never by bytes.
use Rattle.std.specs.Prelude.{ℕ, Bool, false, ◌&&◌, ◌==◌, if◌then◌else◌, Option, Some, None, List}
use Rattle.std.specs.Cmp.Lexicographic.{pointwise}
use Rattle.tm_base.specs.Paths.{same_name}
use Rattle.tm_tree.specs.declared.attrs.Attrs.{Attrs}
use Rattle.tm_tree.specs.declared.item.Item.{Item}
use Rattle.tm_tree.specs.declared.item.Item.TheVariants as item
use Rattle.tm_tree.specs.declared.node.Child.{Child}
use Rattle.tm_tree.specs.declared.node.LeafRow.{LeafRow}
use Rattle.tm_tree.specs.declared.node.LeafRow.TheVariants.{File, Link}
use Rattle.tm_tree.specs.declared.node.NodeBody.{NodeBody}
use Rattle.tm_tree.specs.declared.node.NodeBody.TheVariants.{Folder, Leaf}
use Rattle.tm_tree.specs.declared.node.NodeRow.{NodeRow}
use Rattle.tm_tree.specs.Items.{same_attrs}
use Rattle.tm_graph.specs.Nodes.{Nodes, node}

-- ---- what a node is

abbrev pub is_file_leaf : ℕ → LeafRow → Bool
is_file_leaf stamp (File attrs s size) = s == stamp
is_file_leaf stamp (Link attrs s target) = false

-- a file of this stamp
abbrev pub is_file_of : ℕ → NodeBody → Bool
is_file_of stamp (Folder attrs entries) = false
is_file_of stamp (Leaf leaf) = is_file_leaf stamp leaf

abbrev pub is_link_leaf : ℕ → LeafRow → Bool
is_link_leaf stamp (File attrs s size) = false
is_link_leaf stamp (Link attrs s target) = s == stamp

-- a link of this stamp
abbrev pub is_link_of : ℕ → NodeBody → Bool
is_link_of stamp (Folder attrs entries) = false
is_link_of stamp (Leaf leaf) = is_link_leaf stamp leaf

abbrev pub same_child : Child → Child → Bool
same_child a b = same_name a.name b.name && (a.node == b.node)

-- the same names, each with the same node
abbrev pub same_entries : List Child → List Child → Bool
same_entries a b = pointwise same_child a b

-- a folder of these attributes and entries
abbrev pub is_folder_of : Attrs → List Child → NodeBody → Bool
is_folder_of attrs entries (Folder a es) = same_attrs a attrs && same_entries es entries
is_folder_of attrs entries (Leaf leaf) = false

-- ---- which node is kept

abbrev pub passes : (NodeBody → Bool) → Option NodeRow → Bool
passes test None = false
passes test (Some row) = test row.body

abbrev pub kept : (NodeBody → Bool) → Nodes → Option ℕ → Option ℕ
kept test g None = None
kept test g (Some n) = if passes test (node g n) then Some n else None

-- the base's node, where it is a file of this stamp
abbrev pub kept_file : Nodes → Option ℕ → ℕ → Option ℕ
kept_file g base stamp = kept (is_file_of stamp) g base

-- the base's node, where it is a link of this stamp
abbrev pub kept_link : Nodes → Option ℕ → ℕ → Option ℕ
kept_link g base stamp = kept (is_link_of stamp) g base

-- the base's node, where it is a folder of these attributes and entries
abbrev pub kept_folder : Nodes → Option ℕ → Attrs → List Child → Option ℕ
kept_folder g base attrs entries = kept (is_folder_of attrs entries) g base

-- the base's node, where it is a file or link of the kind and stamp of this one
abbrev pub kept_leaf : Nodes → Option ℕ → Item → Option ℕ
kept_leaf g base (item.Folder attrs) = None
kept_leaf g base (item.File attrs stamp bytes) = kept_file g base stamp
kept_leaf g base (item.Link attrs stamp target) = kept_link g base stamp
