-- The record of a node of a store.
use Rattle.std.specs.Prelude.{ℕ, ◌^◌, ◌<◌, List, ◌++◌, length, map, All, flat_map}
use Rattle.std.specs.List.Sorted.{IsStrictlySortedBy}
use Rattle.tm_base.specs.IsName.{IsName}
use Rattle.tm_base.specs.Paths.{name_cmp}
use Rattle.tm_tree.specs.declared.attrs.Attrs.{Attrs}
use Rattle.tm_tree.specs.declared.node.Child.{Child}
use Rattle.tm_tree.specs.declared.node.NodeBody.{NodeBody}
use Rattle.tm_tree.specs.declared.node.NodeBody.TheVariants.{Folder, Leaf}
use Rattle.tm_tree.specs.declared.node.NodeRow.{NodeRow}
use Rattle.tm_codec.specs.Fields.{u32_text, u64_text, short_text}
use Rattle.tm_nodes.specs.declared.kind.Kind.{Kind}
use Rattle.tm_nodes.specs.declared.kind.Kind.TheVariants as kind
use Rattle.tm_nodes.specs.Attrs.{attrs_text, IsAttrs}
use Rattle.tm_nodes.specs.Kinds.{kind_text}
use Rattle.tm_nodes.specs.Leaves.{leaf_kind, leaf_attrs, leaf_tail, IsLeafTail, HasSize}
use Rattle.tm_nodes.specs.Spelled.{IsSpelled}

-- a folder, a file or a link
abbrev pub node_kind : NodeBody → Kind
node_kind (Folder attrs entries) = kind.Folder
node_kind (Leaf leaf) = leaf_kind leaf

-- its attributes
abbrev pub node_attrs : NodeBody → Attrs
node_attrs (Folder attrs entries) = attrs
node_attrs (Leaf leaf) = leaf_attrs leaf

-- an entry: its name and the number of its node
unfoldable pub child_text : Child → List ℕ
child_text child = short_text child.name ++ u64_text child.node

-- the number of entries, and each
unfoldable pub entries_text : List Child → List ℕ
entries_text entries = u32_text (length entries) ++ flat_map child_text entries

-- a name, and a number that fits its field
pub record IsChild (child : Child) : Type 0 where
  pub name : IsName child.name
  pub node : child.node < 2 ^ 64

-- by rising name
pub record AreEntries (entries : List Child) : Type 0 where
  pub few : length entries < 2 ^ 32
  pub each : All IsChild entries
  pub rising : IsStrictlySortedBy name_cmp (map (λ child. child.name) entries)

-- what follows the attributes
abbrev pub node_tail : NodeBody → List ℕ
node_tail (Folder attrs entries) = entries_text entries
node_tail (Leaf leaf) = leaf_tail leaf

-- the rules of what follows the attributes
abbrev pub IsNodeTail : NodeBody → Type 0
IsNodeTail (Folder attrs entries) = AreEntries entries
IsNodeTail (Leaf leaf) = IsLeafTail leaf

-- the kind, the label, the links, the attributes, and a folder's entries or what a leaf has
unfoldable pub node_text : NodeRow → List ℕ
node_text row =
    kind_text (node_kind row.body) ++ u64_text row.label ++ u64_text row.links ++ attrs_text (node_attrs row.body) ++ node_tail row.body

-- a label and links that fit their fields, and what its kind asks for
pub record IsNodeRow (row : NodeRow) : Type 0 where
  pub label : row.label < 2 ^ 64
  pub links : row.links < 2 ^ 64
  pub attrs : IsAttrs (node_attrs row.body)
  pub tail : IsNodeTail row.body

-- if it is a file, it has so many bytes
abbrev pub HasNodeSize : ℕ → NodeBody → Type 0
HasNodeSize n (Folder attrs entries) = Unit {0}
HasNodeSize n (Leaf leaf) = HasSize n leaf

-- such a row, with so many bytes of data if it is a file
pub record IsNodeOfSize (size : ℕ) (row : NodeRow) : Type 0 where
  pub rules : IsNodeRow row
  pub size_is : HasNodeSize size row.body

-- a record with this meta and so many bytes of data is this node
abbrev pub IsNode : List ℕ → ℕ → NodeRow → Type 0
IsNode meta size row = IsSpelled node_text (IsNodeOfSize size) meta row
