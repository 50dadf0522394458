-- The rules of a store's records, each a test of one key against all records.
use Rattle.std.specs.Prelude.{◌≡◌, ◌<◌, ◌≤◌, ◌+◌, ◌-◌, ◌*◌, ◌^◌, ◌==◌, ◌&&◌, ℕ, Bool, true, false, nat_le, if◌then◌else◌, is_some, Option, Some, List, length, slice_get, count_by}
use Rattle.std.specs.Option.{option_map, unwrap_or}
use Rattle.tm_base.specs.Limits.{max_file_bytes, max_names, max_nodes, max_snapshots}
use Rattle.tm_base.specs.Paths.{Names}
use Rattle.tm_tree.specs.declared.node.LeafRow.{LeafRow}
use Rattle.tm_tree.specs.declared.node.LeafRow.TheVariants.{File, Link}
use Rattle.tm_tree.specs.declared.node.NodeBody.{NodeBody}
use Rattle.tm_tree.specs.declared.node.NodeBody.TheVariants.{Folder, Leaf}
use Rattle.tm_tree.specs.declared.node.NodeRow.{NodeRow}
use Rattle.tm_graph.specs.Nodes.{Nodes, node, entries_of, named, times, is_folder}
use Rattle.tm_nodes.specs.Records.{machine_of, snapshot_of, node_of}
use Rattle.tm_store_records.specs.declared.snapshot.Snapshot.{Snapshot}
use Rattle.tm_store_records.specs.Heads.{RecordHead, RecordHeads, head_at}
use Rattle.tm_store_records.specs.Found.{is_snapshot_key, is_node_key, snapshot_key, node_key, snapshots_in, nodes_in, machine_in, roots_of}
use Rattle.tm_store_records.specs.Places.{NodeStandsAt}

-- ---- the rules of a record by itself

-- the most bytes of data: of a file `max_file_bytes`, of others none
abbrev pub most_of_leaf : LeafRow → ℕ
most_of_leaf (File attrs stamp size) = max_file_bytes
most_of_leaf (Link attrs stamp target) = 0

abbrev pub most_of : NodeBody → ℕ
most_of (Folder attrs entries) = 0
most_of (Leaf leaf) = most_of_leaf leaf

-- whether the meta is a node's, and the data are no more than it may have
abbrev pub reads_node : RecordHead → Bool
reads_node head = unwrap_or (option_map (λ row. nat_le head.size (most_of row.body)) (node_of head.meta head.size)) false

-- whether a record has a key of a store's section, the meta of that section, and no data but a file's
abbrev pub is_record : ℕ → RecordHead → Bool
is_record key head =
    if key == 1 then is_some (machine_of head.meta) && (head.size == 0)
    else if is_snapshot_key key then is_some (snapshot_of head.meta) && (head.size == 0)
    else if is_node_key key then reads_node head
    else false

-- ---- the rules of a snapshot

abbrev pub is_folder_node : Option NodeRow → Bool
is_folder_node found = unwrap_or (option_map is_folder found) false

-- the snapshot at this place in the list by rising number, where `number` is the next backup's
pub record IsGoodSnapshot (nodes : Nodes) (snapshots : List Snapshot) (number place : ℕ) (s : Snapshot) : Type 0 where
  pub few : place < max_snapshots
  pub least : 1 ≤ s.number
  pub most : s.number < number
  pub later : (i : ℕ) (other : Snapshot) → i < place → slice_get snapshots i ≡ Some other → other.date < s.date
  pub generation_least : 1 ≤ s.mark.generation
  pub generation_most : s.mark.generation < 2 ^ 62
  pub cursor : s.mark.cursor < 2 ^ 62
  pub root : is_folder_node (node nodes s.root) ≡ true

-- ---- the rules of a node

-- the node `n` at this place in the list by rising number
pub record IsGoodNode (nodes : Nodes) (roots : List ℕ) (number place n : ℕ) (row : NodeRow) : Type 0 where
  pub few : place < max_nodes
  pub least : 1 ≤ n
  pub most : n ≤ max_nodes * (number - 1)
  pub label_least : 1 ≤ row.label
  pub label_most : row.label < number
  pub children : (q : ℕ) → 0 < times q (entries_of row) → (q < n) × (is_some (node nodes q) ≡ true)
  pub linked : 1 ≤ row.links
  pub counted : row.links ≡ named nodes n + count_by (λ r. r == n) roots
  pub near : (p : Names) → NodeStandsAt nodes roots p n → length p ≤ max_names
  pub one_path : (p q : Names) → NodeStandsAt nodes roots p n → NodeStandsAt nodes roots q n → p ≡ q
  pub one_node : (m : ℕ) (other : NodeRow) (p : Names) → m < n → node nodes m ≡ Some other → other.label ≡ row.label → NodeStandsAt nodes roots p m → NodeStandsAt nodes roots p n → ⊥

-- ---- the rules of a key

-- nothing is wrong at this key, in a store whose next backup has this number; a key that must be there is
pub record IsGoodKey (heads : RecordHeads) (number key : ℕ) : Type 0 where
  pub machine : key ≡ 1 → is_some (machine_in heads) ≡ true
  pub reads : (head : RecordHead) → head_at key heads ≡ Some head → is_record key head ≡ true
  pub snapshot : (place : ℕ) (s : Snapshot) → slice_get (snapshots_in heads) place ≡ Some s → snapshot_key s.number ≡ key
      → IsGoodSnapshot (nodes_in heads) (snapshots_in heads) number place s
  pub node_rules : (place : ℕ) (e : ℕ × NodeRow) → slice_get (nodes_in heads) place ≡ Some e → node_key e.0 ≡ key
      → IsGoodNode (nodes_in heads) (roots_of (snapshots_in heads)) number place e.0 e.1

abbrev pub IsGoodStore : RecordHeads → ℕ → Type 0
IsGoodStore heads number = (key : ℕ) → IsGoodKey heads number key

-- the first that is wrong
pub record IsLeastBadKey (heads : RecordHeads) (number key : ℕ) : Type 0 where
  pub bad : IsGoodKey heads number key → ⊥
  pub below : (k : ℕ) → k < key → IsGoodKey heads number k
