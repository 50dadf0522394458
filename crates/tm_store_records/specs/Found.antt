-- What the records of a store stand for: a machine's name, snapshots and nodes.
use Rattle.std.specs.Prelude.{ℕ, ◌+◌, ◌-◌, ◌^◌, Bool, ◌&&◌, nat_le, nat_lt, if◌then◌else◌, Option, None, List, map}
use Rattle.std.specs.List.{filter_map}
use Rattle.std.specs.Option.{option_map, option_and_then}
use Rattle.tm_tree.specs.declared.node.NodeRow.{NodeRow}
use Rattle.tm_graph.specs.Nodes.{Nodes}
use Rattle.tm_nodes.specs.declared.snapshot.SnapshotRow.{SnapshotRow}
use Rattle.tm_nodes.specs.Records.{machine_of, snapshot_of, node_of}
use Rattle.tm_store_records.specs.declared.snapshot.Snapshot.{Snapshot}
use Rattle.tm_store_records.specs.Heads.{RecordHead, RecordHeads, head_at}

-- ---- keys

abbrev pub snapshot_key : ℕ → ℕ
snapshot_key number = 2 ^ 40 + number

abbrev pub node_key : ℕ → ℕ
node_key number = 2 ^ 62 + number

abbrev pub is_snapshot_key : ℕ → Bool
is_snapshot_key key = nat_le (2 ^ 40) key && nat_lt key (2 ^ 62)

abbrev pub is_node_key : ℕ → Bool
is_node_key key = nat_le (2 ^ 62) key

-- ---- a record whose meta doesn't read stands for nothing

-- the snapshot of a backup's number that this record is
abbrev pub numbered_snapshot : ℕ → SnapshotRow → Snapshot
numbered_snapshot number row = record { number = number; date = row.date; volume = row.volume; id = row.id; mark = row.mark; root = row.root }

abbrev pub snapshot_in : ℕ × RecordHead → Option Snapshot
snapshot_in e = if is_snapshot_key e.0 then option_map (numbered_snapshot (e.0 - 2 ^ 40)) (snapshot_of e.1.meta) else None

abbrev pub node_in : ℕ × RecordHead → Option (ℕ × NodeRow)
node_in e = if is_node_key e.0 then option_map (λ row. (e.0 - 2 ^ 62, row)) (node_of e.1.meta e.1.size) else None

-- ---- of a whole image

abbrev pub machine_in : RecordHeads → Option (List ℕ)
machine_in heads = option_and_then (λ h. machine_of h.meta) (head_at 1 heads)

-- by rising number
abbrev pub snapshots_in : RecordHeads → List Snapshot
snapshots_in heads = filter_map snapshot_in heads

abbrev pub nodes_in : RecordHeads → Nodes
nodes_in heads = filter_map node_in heads

-- the roots of snapshots, each as often as it is one
abbrev pub roots_of : List Snapshot → List ℕ
roots_of snapshots = map (λ s. s.root) snapshots
