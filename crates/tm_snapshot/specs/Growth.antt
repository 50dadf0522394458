-- What a finished backup makes of the records of a store.
use Rattle.std.specs.Prelude.{◌≡◌, ◌≢◌, ◌<◌, ◌≤◌, ◌+◌, ◌++◌, ◌∷◌, ◌^◌, ℕ, true, is_some, Some, List, [], length, map}
use Rattle.std.specs.List.{All, sum_by}
use Rattle.tm_base.specs.Limits.{max_nodes}
use Rattle.tm_base.specs.IsName.{IsName}
use Rattle.tm_world.specs.declared.bytes.Blob.{Blob}
use Rattle.tm_tree.specs.declared.rows.Mark.{Mark}
use Rattle.tm_tree.specs.declared.node.NodeRow.{NodeRow}
use Rattle.tm_records.specs.declared.record.Put.{Put}
use Rattle.tm_records.specs.Records.{Records}
use Rattle.tm_blockmap.specs.Counts.{times}
use Rattle.tm_image.specs.Reads.{entries_of}
use Rattle.tm_image.specs.Room.{need_of, table_len}
use Rattle.tm_image.specs.Commit.{IsPut, changed, brought_by, released_by}
use Rattle.tm_graph.specs.declared.built.Built.{Built}
use Rattle.tm_graph.specs.Nodes.{Nodes, node, greatest, IsLinked, entries_of as children, times as entry_times}
use Rattle.tm_graph.specs.Growing.{MayGrow, gain, grown}
use Rattle.tm_nodes.specs.Nodes.{IsNodeRow}
use Rattle.tm_store_records.specs.Heads.{heads_of}
use Rattle.tm_store_records.specs.Found.{machine_in, snapshots_in, nodes_in}
use Rattle.tm_store_records.specs.Rules.{IsGoodStore}
use Rattle.tm_store_records.specs.States.{StoreIs, snapshot_on}
use Rattle.tm_store_records.specs.Held.{Held, IsWhole, files_of}
use Rattle.tm_store_records.specs.Built.{IsBuilt, IsMark, all_nodes, store_completed, files_built, snapshot_built}
use Rattle.tm_snapshot.specs.Puts.{all_puts}
use Rattle.tm_snapshot.specs.Completing.{count_after, need_after}

-- a backup of this date may finish with what was built
pub record MayComplete (h : Held) (built : Built) (date : ℕ) (volume : List ℕ) (id : ℕ) (mark : Mark) : Type 0 where
  pub whole : IsWhole h
  pub runs : h.running ≡ Some date
  pub is_built : IsBuilt h built
  pub is_mark : IsMark mark
  pub name : IsName volume
  pub small : id < 2 ^ 128
  pub few : count_after h built ≤ max_nodes

-- ---- in memory

-- what was built may join the graph: no old node is without links, and each new one gains a link
pub record MayJoin (h : Held) (built : Built) : Type 0 where
  pub may : MayGrow h.nodes built.nodes built.root
  pub linked : IsLinked h.nodes
  pub gains : (q : ℕ) → is_some (node built.nodes q) ≡ true → 0 < gain built.nodes built.root q

abbrev pub BuiltMayGrow : Type 0
BuiltMayGrow = (h : Held) (built : Built) (date : ℕ) (volume : List ℕ) (id : ℕ) (mark : Mark) → MayComplete h built date volume id mark → MayJoin h built

-- each node of the grown graph can have a record, and each blob and entry a node
pub record HaveRecords (g : Nodes) (root : ℕ) (blobs : List (ℕ × Blob)) : Type 0 where
  pub rules : (n : ℕ) (row : NodeRow) → node g n ≡ Some row → IsNodeRow row
  pub named : (n q : ℕ) (row : NodeRow) → node g n ≡ Some row → 0 < entry_times q (children row) → is_some (node g q) ≡ true
  pub root_there : is_some (node g root) ≡ true
  pub files : All (λ b. is_some (node g b.0) ≡ true) blobs

abbrev pub GrownHaveRecords : Type 0
GrownHaveRecords = (h : Held) (built : Built) (date : ℕ) (volume : List ℕ) (id : ℕ) (mark : Mark) → MayComplete h built date volume id mark
    → HaveRecords (grown h.nodes built.nodes built.root) built.root built.blobs

-- ---- on the image

-- the records that are put, and those there are then
abbrev pub puts_of : Held → Built → ℕ → List ℕ → ℕ → Mark → List Put
puts_of h built date volume id mark =
    all_puts (grown h.nodes built.nodes built.root) (greatest h.nodes) (length built.nodes) built.blobs (snapshot_built h built date volume id mark)

abbrev pub records_after : Held → Built → ℕ → List ℕ → ℕ → Mark → Records
records_after h built date volume id mark = changed [] (puts_of h built date volume id mark) h.image.records

-- these records are those of the store with the new nodes and the snapshot
pub record AreGrown (h : Held) (built : Built) (date : ℕ) (volume : List ℕ) (id : ℕ) (mark : Mark) (records : Records) : Type 0 where
  pub good : IsGoodStore (heads_of records) (h.number + 1)
  pub machine_is : machine_in (heads_of records) ≡ Some h.machine
  pub nodes_are : nodes_in (heads_of records) ≡ grown h.nodes built.nodes built.root
  pub snapshots_are : snapshots_in (heads_of records) ≡ h.snapshots ++ snapshot_built h built date volume id mark ∷ []
  pub files_are : (bytes : ℕ → List ℕ) (n : ℕ) → is_some (node (all_nodes h built) n) ≡ true → files_of records bytes n ≡ files_built h built bytes n

abbrev pub PutsGrow : Type 0
PutsGrow = (h : Held) (built : Built) (date : ℕ) (volume : List ℕ) (id : ℕ) (mark : Mark) → MayComplete h built date volume id mark
    → AreGrown h built date volume id mark (records_after h built date volume id mark)

-- such puts a commit takes; they bring the blobs, and release nothing
pub record ArePuts (h : Held) (built : Built) (date : ℕ) (volume : List ℕ) (id : ℕ) (mark : Mark) : Type 0 where
  pub each : All (IsPut h.image.records) (puts_of h built date volume id mark)
  pub bring : (b : ℕ) → brought_by b (puts_of h built date volume id mark) ≡ sum_by (λ x. times b x.1.blocks) built.blobs
  pub release : released_by [] (puts_of h built date volume id mark) h.image.records ≡ 0
  pub some : records_after h built date volume id mark ≢ []

abbrev pub PutsFit : Type 0
PutsFit = (h : Held) (built : Built) (date : ℕ) (volume : List ℕ) (id : ℕ) (mark : Mark) → MayComplete h built date volume id mark → ArePuts h built date volume id mark

-- the store with such records is the completed one
abbrev pub GrownIsCompleted : Type 0
GrownIsCompleted = (h : Held) (built : Built) (date : ℕ) (volume : List ℕ) (id : ℕ) (mark : Mark) (records : Records) (bytes : ℕ → List ℕ) → MayComplete h built date volume id mark
    → AreGrown h built date volume id mark records
    → map (snapshot_on (files_of records bytes) (grown h.nodes built.nodes built.root)) (h.snapshots ++ snapshot_built h built date volume id mark ∷ []) ≡ (store_completed h built date volume id mark bytes).snapshots

-- so it is what their entries are on a disk
abbrev pub GrownIsStored : Type 0
GrownIsStored = (h : Held) (built : Built) (date : ℕ) (volume : List ℕ) (id : ℕ) (mark : Mark) (records : Records) (bytes : ℕ → List ℕ) → MayComplete h built date volume id mark
    → AreGrown h built date volume id mark records → StoreIs (entries_of bytes records) (store_completed h built date volume id mark bytes)

-- and the blocks that the commit needs are told by what was built
abbrev pub NeedIsTold : Type 0
NeedIsTold = (h : Held) (built : Built) (date : ℕ) (volume : List ℕ) (id : ℕ) (mark : Mark) → MayComplete h built date volume id mark
    → need_of (table_len h.image.records) (table_len (records_after h built date volume id mark)) (released_by [] (puts_of h built date volume id mark) h.image.records)
    ≡ need_after h built date volume id mark
