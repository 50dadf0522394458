-- The record of an item of a volume.
use Rattle.std.specs.Prelude.{ℕ, ◌^◌, ◌<◌, Option, Some, None, IfSome, List, [], ◌++◌}
use Rattle.tm_base.specs.IsName.{IsName}
use Rattle.tm_tree.specs.declared.attrs.Attrs.{Attrs}
use Rattle.tm_tree.specs.declared.record.ItemBody.{ItemBody}
use Rattle.tm_tree.specs.declared.record.ItemBody.TheVariants.{Folder, Leaf}
use Rattle.tm_tree.specs.declared.record.ItemRow.{ItemRow}
use Rattle.tm_codec.specs.Fields.{u32_text, short_text}
use Rattle.tm_nodes.specs.declared.kind.Kind.{Kind}
use Rattle.tm_nodes.specs.declared.kind.Kind.TheVariants as kind
use Rattle.tm_nodes.specs.Attrs.{attrs_text, IsAttrs}
use Rattle.tm_nodes.specs.Kinds.{kind_text}
use Rattle.tm_nodes.specs.Leaves.{leaf_kind, leaf_attrs, leaf_tail, IsLeafTail, HasSize}
use Rattle.tm_nodes.specs.Spelled.{IsSpelled}

-- a folder, a file or a link
abbrev pub item_kind : ItemBody → Kind
item_kind (Folder attrs) = kind.Folder
item_kind (Leaf leaf) = leaf_kind leaf

-- its attributes
abbrev pub item_attrs : ItemBody → Attrs
item_attrs (Folder attrs) = attrs
item_attrs (Leaf leaf) = leaf_attrs leaf

-- what follows the attributes
abbrev pub item_tail : ItemBody → List ℕ
item_tail (Folder attrs) = []
item_tail (Leaf leaf) = leaf_tail leaf

-- the rules of what follows the attributes
abbrev pub IsItemTail : ItemBody → Type 0
IsItemTail (Folder attrs) = Unit {0}
IsItemTail (Leaf leaf) = IsLeafTail leaf

-- the root's name is written empty
abbrev pub item_name : Option (List ℕ) → List ℕ
item_name None = []
item_name (Some name) = name

-- the kind, the parent's number, the name, the attributes, and what a leaf has
unfoldable pub item_text : ItemRow → List ℕ
item_text row =
    kind_text (item_kind row.body) ++ u32_text row.parent ++ short_text (item_name row.name) ++ attrs_text (item_attrs row.body) ++ item_tail row.body

-- a parent's number that fits its field, a name or none, and what its kind asks for
pub record IsItemRow (row : ItemRow) : Type 0 where
  pub parent : row.parent < 2 ^ 32
  pub name : IfSome row.name IsName
  pub attrs : IsAttrs (item_attrs row.body)
  pub tail : IsItemTail row.body

-- if it is a file, it has so many bytes
abbrev pub HasItemSize : ℕ → ItemBody → Type 0
HasItemSize n (Folder attrs) = Unit {0}
HasItemSize n (Leaf leaf) = HasSize n leaf

-- such a row, with so many bytes of data if it is a file
pub record IsItemOfSize (size : ℕ) (row : ItemRow) : Type 0 where
  pub rules : IsItemRow row
  pub size_is : HasItemSize size row.body

-- a record with this meta and so many bytes of data is this item
abbrev pub IsItem : List ℕ → ℕ → ItemRow → Type 0
IsItem meta size row = IsSpelled item_text (IsItemOfSize size) meta row
