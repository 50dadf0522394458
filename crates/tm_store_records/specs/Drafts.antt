-- What is known of records that were read, before their rules are asked.
use Rattle.std.specs.Prelude.{◌≡◌, ◌<◌, ◌≤◌, ◌+◌, ◌-◌, ◌*◌, ◌^◌, ◌==◌, ℕ, Bool, true, false, not, nat_lt, if◌then◌else◌, Result, Ok, Err, is_some, Option, Some, None, IfSome, List, length, slice_get, count_by}
use Rattle.std.specs.declared.cmp.Ordering.{Ordering}
use Rattle.std.specs.Ordering.{nat_cmp, ordering_then}
use Rattle.std.specs.BTreeMap.{is_at}
use Rattle.std.specs.List.Sorted.{IsStrictlySortedBy}
use Rattle.std.specs.Map.{keys_of}
use Rattle.tm_base.specs.Limits.{max_nodes, max_snapshots}
use Rattle.tm_world.specs.declared.cause.Cause.TheVariants.{Record}
use Rattle.tm_image.specs.declared.error.LoadError.{LoadError}
use Rattle.tm_image.specs.declared.error.LoadError.TheVariants as load
use Rattle.tm_tree.specs.declared.node.NodeRow.{NodeRow}
use Rattle.tm_graph.specs.Nodes.{Nodes, node, entries_of, times, named}
use Rattle.tm_store_records.specs.declared.snapshot.Snapshot.{Snapshot}
use Rattle.tm_store_records.specs.declared.draft.Draft.{Draft}
use Rattle.tm_store_records.specs.Heads.{RecordHead, RecordHeads, head_at}
use Rattle.tm_store_records.specs.declared.locations.Location.{Location}
use Rattle.tm_store_records.specs.declared.locations.Location.TheVariants.{At, Misplaced}
use Rattle.tm_store_records.specs.declared.read.StoreError.{StoreError}
use Rattle.tm_store_records.specs.declared.read.StoreError.TheVariants.{Bad, Memory}
use Rattle.tm_store_records.specs.Found.{machine_in, snapshots_in, nodes_in, snapshot_key, node_key}
use Rattle.tm_store_records.specs.Located.{AllRise}
use Rattle.tm_store_records.specs.Rules.{is_record, is_folder_node, IsGoodSnapshot, IsGoodNode}

-- all records below a key are of a store's sections
abbrev pub AreReadBelow : RecordHeads → ℕ → Type 0
AreReadBelow heads key = (k : ℕ) (head : RecordHead) → k < key → head_at k heads ≡ Some head → is_record k head ≡ true

-- the least key whose record is none of a store's, if there is one
abbrev pub IsUnread : RecordHeads → Option ℕ → Type 0
IsUnread heads None = (k : ℕ) (head : RecordHead) → head_at k heads ≡ Some head → is_record k head ≡ true
IsUnread heads (Some key) = (head : RecordHead) × (head_at key heads ≡ Some head) × (is_record key head ≡ false) × AreReadBelow heads key

-- the key that is noted after one more
abbrev pub noted : Option ℕ → ℕ → Bool → Option ℕ
noted None key good = if good then None else Some key
noted (Some first) key good = Some first

-- the rules of a snapshot at a place, after one with this date
pub record IsSnapshotAfter (nodes : Nodes) (before : Option ℕ) (number place : ℕ) (s : Snapshot) : Type 0 where
  pub later : IfSome before (λ date. date < s.date)
  pub few : place < max_snapshots
  pub least : 1 ≤ s.number
  pub most : s.number < number
  pub generation_least : 1 ≤ s.mark.generation
  pub generation_most : s.mark.generation < 2 ^ 62
  pub cursor : s.mark.cursor < 2 ^ 62
  pub root : is_folder_node (node nodes s.root) ≡ true

-- the first snapshot that breaks a rule stands at this place
pub record IsFirstBadSnapshot (nodes : Nodes) (snapshots : List Snapshot) (number place : ℕ) : Type 0 where
  pub snapshot : Snapshot
  pub is : slice_get snapshots place ≡ Some snapshot
  pub bad : IsGoodSnapshot nodes snapshots number place snapshot → ⊥
  pub before : (i : ℕ) (s : Snapshot) → i < place → slice_get snapshots i ≡ Some s → IsGoodSnapshot nodes snapshots number i s

-- ---- nodes

-- the rules of a node but those of where it stands
pub record IsGoodAlone (nodes : Nodes) (roots : List ℕ) (number place n : ℕ) (row : NodeRow) : Type 0 where
  pub few : place < max_nodes
  pub least : 1 ≤ n
  pub most : n ≤ max_nodes * (number - 1)
  pub label_least : 1 ≤ row.label
  pub label_most : row.label < number
  pub children : (q : ℕ) → 0 < times q (entries_of row) → (q < n) × (is_some (node nodes q) ≡ true)
  pub linked : 1 ≤ row.links
  pub counted : row.links ≡ named nodes n + count_by (λ r. r == n) roots

-- labels with numbers of paths, in order
abbrev pub pair_cmp : ℕ × ℕ → ℕ × ℕ → Ordering
pair_cmp a b = ordering_then (nat_cmp a.0 b.0) (nat_cmp a.1 b.1)

-- what is seen has this label and path more, if they were not seen before
abbrev pub IsTaken : (ℕ × ℕ → Bool) → (ℕ × ℕ → Bool) → ℕ → Option Location → Bool → Type 0
IsTaken old new label None good = (good ≡ true) × ((q : ℕ × ℕ) → new q ≡ old q)
IsTaken old new label (Some (At path depth)) good = (good ≡ not (old (label, path))) × ((q : ℕ × ℕ) → new q ≡ (if is_at (pair_cmp (label, path)) q then true else old q))
IsTaken old new label (Some Misplaced) good = good ≡ false

-- the first node that breaks a rule stands at this place
pub record IsFirstBadNode (nodes : Nodes) (roots : List ℕ) (number place : ℕ) : Type 0 where
  pub entry : ℕ × NodeRow
  pub is : slice_get nodes place ≡ Some entry
  pub bad : IsGoodNode nodes roots number place entry.0 entry.1 → ⊥
  pub before : (i : ℕ) (e : ℕ × NodeRow) → i < place → slice_get nodes i ≡ Some e → IsGoodNode nodes roots number i e.0 e.1

-- ---- what is read, whether or not it keeps the rules

-- snapshots by rising number
abbrev pub SnapshotsRise : List Snapshot → Type 0
SnapshotsRise snapshots = (i j : ℕ) (s t : Snapshot) → i < j → slice_get snapshots i ≡ Some s → slice_get snapshots j ≡ Some t → s.number < t.number

-- snapshots and nodes by rising number, entries by rising name, keys of 64 bits, and entries counted in 32
pub record IsOrdered (snapshots : List Snapshot) (nodes : Nodes) : Type 0 where
  pub snapshots_rise : SnapshotsRise snapshots
  pub nodes_rise : IsStrictlySortedBy nat_cmp (keys_of nodes)
  pub names_rise : AllRise nodes
  pub snapshots_low : (place : ℕ) (s : Snapshot) → slice_get snapshots place ≡ Some s → snapshot_key s.number < 2 ^ 62
  pub nodes_low : (place : ℕ) (e : ℕ × NodeRow) → slice_get nodes place ≡ Some e → node_key e.0 < 2 ^ 64
  pub entries_few : (place : ℕ) (e : ℕ × NodeRow) → slice_get nodes place ≡ Some e → length (entries_of e.1) < 2 ^ 32

-- a draft says what these heads stand for
pub record DraftTells (draft : Draft) (heads : RecordHeads) : Type 0 where
  pub machine : draft.machine ≡ machine_in heads
  pub snapshots : draft.snapshots.items ≡ snapshots_in heads
  pub nodes : draft.nodes.items ≡ nodes_in heads
  pub unread : IsUnread heads draft.unread

-- ---- the least key that breaks a rule

-- the lesser of two, if there is any
abbrev pub lesser : Option ℕ → Option ℕ → Option ℕ
lesser None b = b
lesser (Some a) None = Some a
lesser (Some a) (Some b) = if nat_lt b a then Some b else Some a

-- the least key at which a fact fails, if it fails at any
abbrev pub IsLeastFailing : (ℕ → Type 0) → Option ℕ → Type 0
IsLeastFailing Holds None = (key : ℕ) → Holds key
IsLeastFailing Holds (Some key) = (Holds key → ⊥) × ((k : ℕ) → k < key → Holds k)

abbrev pub MachineIsGoodAt : RecordHeads → ℕ → Type 0
MachineIsGoodAt heads key = key ≡ 1 → is_some (machine_in heads) ≡ true

abbrev pub RecordIsGoodAt : RecordHeads → ℕ → Type 0
RecordIsGoodAt heads key = (head : RecordHead) → head_at key heads ≡ Some head → is_record key head ≡ true

abbrev pub SnapshotsAreGoodAt : Nodes → List Snapshot → ℕ → ℕ → Type 0
SnapshotsAreGoodAt nodes snapshots number key = (place : ℕ) (s : Snapshot) → slice_get snapshots place ≡ Some s → snapshot_key s.number ≡ key → IsGoodSnapshot nodes snapshots number place s

abbrev pub NodesAreGoodAt : Nodes → List ℕ → ℕ → ℕ → Type 0
NodesAreGoodAt nodes roots number key = (place : ℕ) (e : ℕ × NodeRow) → slice_get nodes place ≡ Some e → node_key e.0 ≡ key → IsGoodNode nodes roots number place e.0 e.1

-- ---- the answer of reading

-- why the image of a store doesn't load
abbrev pub load_error : StoreError → LoadError
load_error (Bad key) = load.Bad Record key
load_error Memory = load.Memory

-- it is bad, at a key of which this holds
abbrev pub IfBadStore : {X : Type 0} → Result X StoreError → (ℕ → Type 0) → Type 0
IfBadStore (Ok c) P = Unit {0}
IfBadStore (Err (Bad key)) P = P key
IfBadStore (Err Memory) P = Unit {0}
