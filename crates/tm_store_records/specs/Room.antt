-- How many bytes the table of a store has, and what a commit needs.
use Rattle.std.specs.Prelude.{ℕ, ◌+◌, ◌*◌, List, length}
use Rattle.std.specs.List.{sum_by}
use Rattle.std.specs.Map.{values_of}
use Rattle.tm_chain.specs.Blob.{blob_len}
use Rattle.tm_tree.specs.declared.node.NodeRow.{NodeRow}
use Rattle.tm_graph.specs.Nodes.{Nodes}
use Rattle.tm_nodes.specs.declared.snapshot.SnapshotRow.{SnapshotRow}
use Rattle.tm_nodes.specs.Headers.{machine_text, snapshot_text}
use Rattle.tm_nodes.specs.Nodes.{node_text}
use Rattle.tm_identity.specs.Stored.{node_length}
use Rattle.tm_image.specs.Layout.{blocks_for}
use Rattle.tm_store_records.specs.declared.snapshot.Snapshot.{Snapshot}

-- a record with a meta and data of so many bytes
abbrev pub record_len : ℕ → ℕ → ℕ
record_len meta size = 20 + meta + 4 * blob_len size

-- what the record of a snapshot says
abbrev pub row_of_snapshot : Snapshot → SnapshotRow
row_of_snapshot s = record { date = s.date; id = s.id; mark = s.mark; volume = s.volume; root = s.root }

abbrev pub snapshot_len : Snapshot → ℕ
snapshot_len s = record_len (length (snapshot_text (row_of_snapshot s))) 0

abbrev pub node_len : NodeRow → ℕ
node_len row = record_len (length (node_text row)) (node_length row)

-- the text of the table
abbrev pub store_len : List ℕ → List Snapshot → Nodes → ℕ
store_len machine snapshots nodes = record_len (length (machine_text machine)) 0 + sum_by snapshot_len snapshots + sum_by node_len (values_of nodes)

-- its blocks
abbrev pub store_blocks : List ℕ → List Snapshot → Nodes → ℕ
store_blocks machine snapshots nodes = blocks_for (store_len machine snapshots nodes)
