-- What a backup is made of: the tree as the walk takes it, over the base.
use Rattle.std.specs.Prelude.{ℕ, ◌==◌, if◌then◌else◌, Option, Some, None, List, map}
use Rattle.std.specs.List.{last_or}
use Rattle.tm_tree.specs.declared.item.Item.{Item}
use Rattle.tm_tree.specs.Trees.{Tree, item_at}
use Rattle.tm_tree.specs.Copies.{LabelledTree, bare}
use Rattle.tm_tree.specs.Views.{view}
use Rattle.tm_store_records.specs.declared.snapshot.Snapshot.{Snapshot}
use Rattle.tm_store_records.specs.Held.{Held}
use Rattle.tm_volume.specs.Seen.{Seen, tree_on}
use Rattle.tm_copy.specs.Stamps.{alike}
use Rattle.tm_copy.specs.Reading.{labelled}
use Rattle.tm_copy.specs.Copying.{tree_under}
use Rattle.tm_copy.specs.Building.{Backup}

-- what the walk takes an item for: the base's where that is alike
abbrev pub taken : Option Item → Item → Item
taken None e = e
taken (Some d) e = if alike d e then d else e

-- the tree as the walk takes it
abbrev pub as_taken : LabelledTree → Tree → Tree
as_taken prev t = map (λ row. (row.0, taken (item_at (bare prev) row.0) row.1)) t

-- the view of a volume, whose data are in blocks with these bytes
abbrev pub view_on : Seen → (ℕ → List ℕ) → Tree
view_on v bytes = view v.fixed (tree_on v bytes)

abbrev pub root_of_volume : ℕ → Option Snapshot → Option ℕ
root_of_volume id None = None
root_of_volume id (Some s) = if s.id == id then Some s.root else None

-- the root of the last snapshot, if that is of this volume
abbrev pub base_root : Held → ℕ → Option ℕ
base_root store id = root_of_volume id (last_or None store.snapshots)

-- the base's tree, whose files have these bytes
abbrev pub prev_on : Held → (ℕ → List ℕ) → Option ℕ → LabelledTree
prev_on store files base = tree_under (labelled files) store.nodes base

-- a backup of the tree t into the store, over the base with this root
abbrev pub backup_of : Held → (ℕ → List ℕ) → Option ℕ → Tree → Backup
backup_of store files base t = record { graph = store.nodes; files = files; base = base; label = store.number; now = as_taken (prev_on store files base) t }
