-- What the definitions say together.
use Rattle.std.specs.Prelude.{◌≡◌, ◌≤◌, ◌^◌, ℕ, Some, List, length}
use Rattle.std.specs.List.{All, sum_by}
use Rattle.std.specs.List.Sorted.{IsStrictlySortedBy}
use Rattle.std.specs.Ordering.{nat_cmp}
use Rattle.std.specs.Map.{keys_of, values_of}
use Rattle.tm_base.specs.Limits.{max_blocks}
use Rattle.tm_world.specs.Disk.{Disk, Image, IsLeft}
use Rattle.tm_chain.specs.Blob.{blob_len}
use Rattle.tm_records.specs.Records.{Records}
use Rattle.tm_table.specs.Text.{table_text}
use Rattle.tm_tree.specs.declared.node.NodeRow.{NodeRow}
use Rattle.tm_graph.specs.Nodes.{Nodes, node}
use Rattle.tm_identity.specs.Stored.{node_length, Lengths}
use Rattle.tm_identity.specs.Stores.{IsStore}
use Rattle.tm_image.specs.Reads.{data_len}
use Rattle.tm_image.specs.Seen.{Stands, IsKept}
use Rattle.tm_image.specs.Room.{table_len}
use Rattle.tm_store_records.specs.declared.snapshot.Snapshot.{Snapshot}
use Rattle.tm_store_records.specs.Heads.{RecordHeads, heads_of}
use Rattle.tm_store_records.specs.Found.{machine_in, nodes_in, snapshots_in, roots_of}
use Rattle.tm_store_records.specs.Rules.{IsGoodStore}
use Rattle.tm_store_records.specs.States.{StoredStore, StoreReads, labelled_on}
use Rattle.tm_store_records.specs.Held.{Held, IsWhole, files_of, store_on, store_stored_on}
use Rattle.tm_store_records.specs.Room.{store_len, store_blocks}
use Rattle.tm_store_records.specs.Sizes.{store_of, HasSizes, IsSized}

-- records that keep the rules: each identity has one node, and links are exact
abbrev pub GoodIsStore : Type 0
GoodIsStore = (heads : RecordHeads) (number : ℕ) → number ≤ 2 ^ 40 → IsStrictlySortedBy nat_cmp (keys_of heads) → IsGoodStore heads number
    → IsStore (nodes_in heads) (roots_of (snapshots_in heads))

-- so the nodes of a store in memory are one
abbrev pub HeldIsStore : Type 0
HeldIsStore = (h : Held) → IsWhole h → IsStore h.nodes (roots_of h.snapshots)

-- and each node has as many bytes as it says: a file its own, and others none
abbrev pub HeldFiles : Type 0
HeldFiles = (h : Held) (bytes : ℕ → List ℕ) (n : ℕ) (row : NodeRow) → IsWhole h → node h.nodes n ≡ Some row → length (files_of h.image.records bytes n) ≡ node_length row

-- and so have the items
abbrev pub HeldLengths : Type 0
HeldLengths = (h : Held) (bytes : ℕ → List ℕ) → IsWhole h → Lengths (labelled_on (files_of h.image.records bytes)) h.nodes

-- what stands on a disk is what a stop leaves
abbrev pub HeldReads : Type 0
HeldReads = (h : Held) (disk : Disk) (image : Image) → IsWhole h → Stands h.image disk → IsLeft disk image → StoreReads image (store_stored_on h disk.bytes)

-- an image reads as one store at most
abbrev pub OneStoreReads : Type 0
OneStoreReads = (image : Image) (s t : StoredStore) → image.count ≤ max_blocks → StoreReads image s → StoreReads image t → s ≡ t

-- the length of the table's text is told by what the records stand for
abbrev pub TextIsTold : Type 0
TextIsTold = (records : Records) (number : ℕ) (machine : List ℕ) → IsStrictlySortedBy nat_cmp (keys_of records) → All IsKept (values_of records)
    → IsGoodStore (heads_of records) number → machine_in (heads_of records) ≡ Some machine
    → length (table_text records) ≡ store_len machine (snapshots_in (heads_of records)) (nodes_in (heads_of records))

-- and so is the number of blocks of data
abbrev pub DataIsTold : Type 0
DataIsTold = (records : Records) (number : ℕ) → IsStrictlySortedBy nat_cmp (keys_of records) → All IsKept (values_of records) → IsGoodStore (heads_of records) number
    → data_len records ≡ sum_by (λ row. blob_len (node_length row)) (values_of (nodes_in (heads_of records)))

-- the blocks of the table are told by what the records stand for
abbrev pub TableIsTold : Type 0
TableIsTold = (h : Held) → IsWhole h → table_len h.image.records ≡ store_blocks h.machine h.snapshots h.nodes

-- a store has the sizes of its snapshots and nodes, where files have as many bytes as their nodes say
abbrev pub SizesAreTold : Type 0
SizesAreTold = (machine : List ℕ) (number : ℕ) (files : ℕ → List ℕ) (g : Nodes) (snapshots : List Snapshot) → IsStore g (roots_of snapshots) → Lengths (labelled_on files) g
    → HasSizes machine snapshots g (store_of machine number files g snapshots)

-- a store in memory has the sizes of the store that it is
abbrev pub HeldSizes : Type 0
HeldSizes = (h : Held) (bytes : ℕ → List ℕ) → IsWhole h → IsSized h (store_on h bytes)
