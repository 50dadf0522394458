-- What the items of a volume keep, whatever the bytes of its data.
use Rattle.std.specs.Prelude.{◌≡◌, ℕ, ◌^◌, ◌<◌, ◌≤◌, Some, List, length}
use Rattle.std.specs.List.{All}
use Rattle.tm_base.specs.IsName.{IsName}
use Rattle.tm_base.specs.Paths.{Names}
use Rattle.tm_nodes.specs.Attrs.{IsAttrs}
use Rattle.tm_nodes.specs.Targets.{IsTarget}
use Rattle.tm_tree.specs.declared.item.Item.{Item}
use Rattle.tm_tree.specs.declared.item.Item.TheVariants.{Folder, File, Link}
use Rattle.tm_tree.specs.Items.{attrs_of, bytes_of}
use Rattle.tm_tree.specs.Trees.{IsTree, item_at}
use Rattle.tm_volume.specs.Seen.{Seen, IsKept, tree_on}
use Rattle.tm_base.specs.Limits.{max_items, max_file_bytes, max_names}

-- a stamp that fits its field, and a link's target
abbrev pub HasFields : Item → Type 0
HasFields (Folder attrs) = Unit {0}
HasFields (File attrs stamp bytes) = stamp < 2 ^ 64
HasFields (Link attrs stamp target) = (stamp < 2 ^ 64) × IsTarget target

-- at most as many names lead to it as a path may have, each of which is one; its attributes keep their rules, and so do its fields; it has no more
-- bytes than a file may have
pub record HasBounds (p : Names) (e : Item) : Type 0 where
  pub short : length p ≤ max_names
  pub names : All IsName p
  pub attrs : IsAttrs (attrs_of e)
  pub fields : HasFields e
  pub size : length (bytes_of e) ≤ max_file_bytes

-- the items of a volume are a tree
abbrev pub KeptIsTree : Type 0
KeptIsTree = (m : Seen) (bytes : ℕ → List ℕ) → IsKept m → IsTree (tree_on m bytes)

-- there are at most as many as a volume may have
abbrev pub KeptAreFew : Type 0
KeptAreFew = (m : Seen) (bytes : ℕ → List ℕ) → IsKept m → length (tree_on m bytes) ≤ max_items

-- each keeps the bounds of records
abbrev pub ItemsKeepBounds : Type 0
ItemsKeepBounds = (m : Seen) (bytes : ℕ → List ℕ) (p : Names) (e : Item) → IsKept m → item_at (tree_on m bytes) p ≡ Some e → HasBounds p e
