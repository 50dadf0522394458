-- The sizes of a store in plain words: of its table, of its data, and how many nodes it has.
use Rattle.std.specs.Prelude.{◌≡◌, ℕ, ◌+◌, ◌-◌, List, length, map}
use Rattle.std.specs.List.{sum_by}
use Rattle.std.specs.Map.{values_of}
use Rattle.tm_base.specs.Paths.{Names}
use Rattle.tm_chain.specs.Blob.{blob_len}
use Rattle.tm_tree.specs.declared.item.Item.{Item}
use Rattle.tm_tree.specs.declared.item.Item.TheVariants as item
use Rattle.tm_tree.specs.declared.item.Labelled.{Labelled}
use Rattle.tm_tree.specs.declared.node.Child.{Child}
use Rattle.tm_tree.specs.declared.node.LeafRow.TheVariants.{File, Link}
use Rattle.tm_tree.specs.declared.node.NodeBody.{NodeBody}
use Rattle.tm_tree.specs.declared.node.NodeBody.TheVariants.{Folder, Leaf}
use Rattle.tm_tree.specs.declared.node.NodeRow.{NodeRow}
use Rattle.tm_tree.specs.Copies.{LabelledTree}
use Rattle.tm_tree.specs.States.{StoreState, Snapshot as StoredSnapshot}
use Rattle.tm_tree.specs.Trees.{children, last_of}
use Rattle.tm_graph.specs.Nodes.{Nodes}
use Rattle.tm_nodes.specs.declared.snapshot.SnapshotRow.{SnapshotRow}
use Rattle.tm_nodes.specs.Headers.{machine_text, snapshot_text}
use Rattle.tm_identity.specs.Stored.{node_length}
use Rattle.tm_identity.specs.Sums.{item_length, sum_once, sum_over, identity_count}
use Rattle.tm_image.specs.Layout.{blocks_for}
use Rattle.tm_image.specs.Reads.{data_len}
use Rattle.tm_image.specs.Room.{free_of}
use Rattle.tm_store_records.specs.declared.snapshot.Snapshot.{Snapshot}
use Rattle.tm_store_records.specs.Held.{Held}
use Rattle.tm_store_records.specs.Room.{record_len, node_len, store_blocks}
use Rattle.tm_store_records.specs.States.{snapshot_on}

-- ---- records, where each number of a node is 0: numbers take as many bytes

-- the names in the folder at p, as entries
abbrev pub entries_beneath : LabelledTree → Names → List Child
entries_beneath t p = map (λ row. record { name = last_of row.0; node = 0 }) (children t p)

-- what a node says of an item, of a folder with these entries
abbrev pub body_with : List Child → Item → NodeBody
body_with entries (item.Folder attrs) = Folder attrs entries
body_with entries (item.File attrs stamp bytes) = Leaf (File attrs stamp (length bytes))
body_with entries (item.Link attrs stamp target) = Leaf (Link attrs stamp target)

-- what the record of an item at p of a tree says
abbrev pub node_row_at : LabelledTree → Names → Labelled → NodeRow
node_row_at t p l = record { label = l.label; links = 0; body = body_with (entries_beneath t p) l.item }

-- what it takes of the table's text
abbrev pub labelled_len : LabelledTree → Names → Labelled → ℕ
labelled_len t p l = node_len (node_row_at t p l)

-- what the record of a snapshot says
abbrev pub snapshot_row : StoredSnapshot → SnapshotRow
snapshot_row s = record { date = s.date; id = s.id; mark = record { generation = s.generation; cursor = s.cursor }; volume = s.volume; root = 0 }

-- what it takes of the table's text
abbrev pub snapshot_text_len : StoredSnapshot → ℕ
snapshot_text_len s = record_len (length (snapshot_text (snapshot_row s))) 0

-- ---- a store

-- the trees of its snapshots
abbrev pub trees_in : StoreState → List LabelledTree
trees_in s = map (λ snapshot. snapshot.tree) s.snapshots

-- how many bytes the text of the table has: a record for the machine's name, for each snapshot and for each identity
abbrev pub store_text_len : StoreState → ℕ
store_text_len s = record_len (length (machine_text s.machine)) 0 + sum_by snapshot_text_len s.snapshots + sum_over labelled_len (trees_in s)

-- how many blocks the table takes
abbrev pub table_blocks : StoreState → ℕ
table_blocks s = blocks_for (store_text_len s)

-- how many blocks the data take: those of each file identity
abbrev pub data_blocks : StoreState → ℕ
data_blocks s = sum_once (λ l. blob_len (item_length l)) (trees_in s)

-- how many nodes there are: one for each identity
abbrev pub node_count : StoreState → ℕ
node_count s = identity_count (trees_in s)

-- how many blocks of an image of so many are free
abbrev pub free_blocks : ℕ → StoreState → ℕ
free_blocks blocks s = blocks - (3 + table_blocks s + data_blocks s)

-- ---- the same of nodes

-- the store of these snapshots, of which each has the tree beneath its root, files with these bytes
abbrev pub store_of : List ℕ → ℕ → (ℕ → List ℕ) → Nodes → List Snapshot → StoreState
store_of machine number files g snapshots = record { machine = machine; number = number; snapshots = map (snapshot_on files g) snapshots }

-- a store has the sizes of these snapshots and nodes
pub record HasSizes (machine : List ℕ) (snapshots : List Snapshot) (g : Nodes) (s : StoreState) : Type 0 where
  pub table : table_blocks s ≡ store_blocks machine snapshots g
  pub blobs : data_blocks s ≡ sum_by (λ row. blob_len (node_length row)) (values_of g)
  pub nodes : node_count s ≡ length g

-- a store in memory has the sizes of this one, where blocks that are staged count as free
pub record IsSized (h : Held) (s : StoreState) : Type 0 where
  pub table : store_blocks h.machine h.snapshots h.nodes ≡ table_blocks s
  pub blobs : data_len h.image.records ≡ data_blocks s
  pub nodes : length h.nodes ≡ node_count s
  pub free : free_of h.image + length h.staged ≡ free_blocks (length h.image.used) s
