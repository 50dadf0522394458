-- The records of a volume's head, of a machine and of a snapshot.
use Rattle.std.specs.Prelude.{ℕ, ◌^◌, ◌<◌, ◌≤◌, List, ◌++◌}
use Rattle.tm_base.specs.IsName.{IsName}
use Rattle.tm_base.specs.Days.{last_moment}
use Rattle.tm_codec.specs.Fields.{u32_text, u64_text, u128_text, short_text}
use Rattle.tm_nodes.specs.declared.volume.VolumeHead.{VolumeHead}
use Rattle.tm_nodes.specs.declared.snapshot.SnapshotRow.{SnapshotRow}

-- the id, the capacity of the journal and the name
unfoldable pub volume_text : VolumeHead → List ℕ
volume_text head = u128_text head.id ++ u32_text head.capacity ++ short_text head.name

-- numbers that fit their fields, and a name
pub record IsVolumeHead (head : VolumeHead) : Type 0 where
  pub id : head.id < 2 ^ 128
  pub capacity : head.capacity < 2 ^ 32
  pub name : IsName head.name

-- a machine's name
abbrev pub machine_text : List ℕ → List ℕ
machine_text machine = short_text machine

-- the date, the volume's id, the generation, the cursor, the volume's name and the root
unfoldable pub snapshot_text : SnapshotRow → List ℕ
snapshot_text row =
    u64_text row.date ++ u128_text row.id ++ u64_text row.mark.generation ++ u64_text row.mark.cursor ++ short_text row.volume ++ u64_text row.root

-- a date of at most the year 9999, numbers that fit their fields, and a name
pub record IsSnapshotRow (row : SnapshotRow) : Type 0 where
  pub date : row.date ≤ last_moment
  pub id : row.id < 2 ^ 128
  pub generation : row.mark.generation < 2 ^ 64
  pub cursor : row.mark.cursor < 2 ^ 64
  pub volume : IsName row.volume
  pub root : row.root < 2 ^ 64
