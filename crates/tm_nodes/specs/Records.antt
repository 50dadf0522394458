-- What a record is, as a function of its bytes: none where they are no record's spelling. The law
-- `spellings_are_found` says that it finds what the bytes spell, and no more.
use Rattle.std.specs.Prelude.{ℕ, Option, None, List, length}
use Rattle.tm_base.specs.Limits.{max_fixed}
use Rattle.tm_base.specs.Paths.{Names}
use Rattle.tm_tree.specs.declared.node.NodeRow.{NodeRow}
use Rattle.tm_tree.specs.declared.record.ItemRow.{ItemRow}
use Rattle.tm_tree.specs.declared.rows.Row.{Row}
use Rattle.tm_nodes.specs.declared.volume.VolumeHead.{VolumeHead}
use Rattle.tm_nodes.specs.declared.snapshot.SnapshotRow.{SnapshotRow}
use Rattle.tm_nodes.specs.Readers.{to_end, whole}
use Rattle.tm_nodes.specs.Reading.{item_at, node_at, volume_at, name_at, snapshot_at, next_path_at, next_row_at}

-- the item that a record with this meta and so many bytes of data is
unfoldable pub item_of : List ℕ → ℕ → Option ItemRow
item_of meta size = whole (item_at size) meta

-- the node that a record with this meta and so many bytes of data is
unfoldable pub node_of : List ℕ → ℕ → Option NodeRow
node_of meta size = whole (node_at size) meta

-- the head of a volume that has this meta
unfoldable pub volume_of : List ℕ → Option VolumeHead
volume_of meta = whole volume_at meta

-- the machine's name that has this meta
unfoldable pub machine_of : List ℕ → Option (List ℕ)
machine_of meta = whole name_at meta

-- the snapshot that has this meta
unfoldable pub snapshot_of : List ℕ → Option SnapshotRow
snapshot_of meta = whole snapshot_at meta

-- the fixed paths that are these bytes
unfoldable pub paths_of : List ℕ → Option (List Names)
paths_of bytes = whole (to_end next_path_at max_fixed None) bytes

-- the journal rows that are these bytes
unfoldable pub rows_of : List ℕ → Option (List Row)
rows_of bytes = whole (to_end next_row_at (length bytes) None) bytes
