-- What an image of a store reads as.
use Rattle.std.specs.Prelude.{◌≡◌, ◌⊎◌, ℕ, Option, Some, List, [], map}
use Rattle.std.specs.Ordering.{nat_cmp}
use Rattle.std.specs.BTreeMap.{is_at}
use Rattle.std.specs.Map.{lookup}
use Rattle.std.specs.Option.{option_map, unwrap_or}
use Rattle.tm_world.specs.Disk.{Disk, Image, IsLeft}
use Rattle.tm_world.specs.declared.world.Side.TheVariants.{Store}
use Rattle.tm_world.specs.declared.cause.Cause.{Cause}
use Rattle.tm_world.specs.declared.cause.Cause.TheVariants.{Slot, Chain, Table, Pages, Block, Room, Record, Spent}
use Rattle.tm_tree.specs.declared.item.Item.{Item}
use Rattle.tm_tree.specs.declared.item.Item.TheVariants as item
use Rattle.tm_tree.specs.declared.item.Labelled.{Labelled}
use Rattle.tm_tree.specs.declared.node.LeafRow.{LeafRow}
use Rattle.tm_tree.specs.declared.node.LeafRow.TheVariants.{File, Link}
use Rattle.tm_tree.specs.declared.node.NodeBody.{NodeBody}
use Rattle.tm_tree.specs.declared.node.NodeBody.TheVariants.{Folder, Leaf}
use Rattle.tm_tree.specs.declared.node.NodeRow.{NodeRow}
use Rattle.tm_tree.specs.States.{StoreState, Snapshot as StoredSnapshot}
use Rattle.tm_graph.specs.Nodes.{Nodes}
use Rattle.tm_graph.specs.Trees.{rows_of}
use Rattle.tm_image.specs.Reads.{Entries, ReadsAsTable}
use Rattle.tm_image.specs.Load.{Fails}
use Rattle.tm_image.specs.Blank.{LacksMagic}
use Rattle.tm_store_records.specs.declared.snapshot.Snapshot.{Snapshot}
use Rattle.tm_store_records.specs.Heads.{heads_in}
use Rattle.tm_store_records.specs.Found.{node_key, machine_in, snapshots_in, nodes_in}
use Rattle.tm_store_records.specs.Rules.{IsGoodStore, IsLeastBadKey}
use Rattle.tm_store_records.specs.Tags.{tag_of, FitsTag}

-- ---- trees

abbrev pub item_of_leaf : List ℕ → LeafRow → Item
item_of_leaf bytes (File attrs stamp size) = item.File attrs stamp bytes
item_of_leaf bytes (Link attrs stamp target) = item.Link attrs stamp target

-- the item that a node is, a file with these bytes
abbrev pub item_on : List ℕ → NodeBody → Item
item_on bytes (Folder attrs entries) = item.Folder attrs
item_on bytes (Leaf leaf) = item_of_leaf bytes leaf

-- the labelled item that a node is, where each number's bytes are given
abbrev pub labelled_on : (ℕ → List ℕ) → ℕ → NodeRow → Labelled
labelled_on files n row = record { label = row.label; item = item_on (files n) row.body }

-- a snapshot with the tree beneath its root
abbrev pub snapshot_on : (ℕ → List ℕ) → Nodes → Snapshot → StoredSnapshot
snapshot_on files g s = record {
  date = s.date;
  volume = s.volume;
  id = s.id;
  generation = s.mark.generation;
  cursor = s.mark.cursor;
  tree = rows_of (labelled_on files) g s.root;
}

-- the bytes of each node's record
abbrev pub files_in : Entries → ℕ → List ℕ
files_in entries n = unwrap_or (option_map (λ e. e.bytes) (lookup (is_at (nat_cmp (node_key n))) entries)) []

-- ---- a store

-- a store, and the date of a running backup as the tag has it
pub record StoredStore : Type 0 where
  pub store : StoreState
  pub running : Option ℕ

-- the records are this store's
pub record StoreIs (entries : Entries) (s : StoreState) : Type 0 where
  pub good : IsGoodStore (heads_in entries) s.number
  pub machine : machine_in (heads_in entries) ≡ Some s.machine
  pub snapshots : s.snapshots ≡ map (snapshot_on (files_in entries) (nodes_in (heads_in entries))) (snapshots_in (heads_in entries))

-- an image reads as this store
pub record StoreReads (image : Image) (s : StoredStore) : Type 0 where
  pub entries : Entries
  pub reads : ReadsAsTable Store entries (tag_of s.running s.store.number) image
  pub fits : FitsTag s.running s.store.number
  pub is : StoreIs entries s.store

-- an image stands for records of which this key is the first that is wrong
pub record ReadsAsBadStore (image : Image) (key : ℕ) : Type 0 where
  pub entries : Entries
  pub running : Option ℕ
  pub number : ℕ
  pub reads : ReadsAsTable Store entries (tag_of running number) image
  pub fits : FitsTag running number
  pub least : IsLeastBadKey (heads_in entries) number key

-- ---- what a stop leaves

-- the store before, or the store after
abbrev pub LeavesStore : StoredStore → StoredStore → Disk → Type 0
LeavesStore old new disk = (image : Image) → IsLeft disk image → StoreReads image old ⊎ StoreReads image new

-- the one store
abbrev pub LeavesOneStore : StoredStore → Disk → Type 0
LeavesOneStore s disk = (image : Image) → IsLeft disk image → StoreReads image s

-- no store, or this one
abbrev pub LeavesNoneOrStore : StoredStore → Disk → Type 0
LeavesNoneOrStore s disk = (image : Image) → IsLeft disk image → LacksMagic image.bytes ⊎ StoreReads image s

-- ---- a store that doesn't read

-- the image of a disk as it reads
abbrev pub image_of : Disk → Image
image_of disk = record { count = disk.count; bytes = disk.bytes }

-- a step of reading fails, at this place
abbrev pub StoreFails : Image → Cause → ℕ → Type 0
StoreFails image Slot place = Fails Store image.count image.bytes Slot place
StoreFails image Chain place = Fails Store image.count image.bytes Chain place
StoreFails image Table place = Fails Store image.count image.bytes Table place
StoreFails image Pages place = ⊥
StoreFails image Block place = Fails Store image.count image.bytes Block place
StoreFails image Room place = Fails Store image.count image.bytes Room place
StoreFails image Record place = ReadsAsBadStore image place
StoreFails image Spent place = ⊥
