-- What a stop makes of a block: torn where it was not synced, and as it reads where it was.
use Rattle.std.specs.Prelude.{◌≡◌, ℕ, List, Ok}
use Rattle.tm_world.specs.Disk.{Disk, Image, IsLeft, written, synced}
use Rattle.tm_world.specs.Outside.{Outside, disk, put_disk}
use Rattle.tm_world.specs.Log.{Log, now, Steps, Writes}
use Rattle.tm_world.specs.declared.world.Side.{Side}
use Rattle.tm_world.specs.declared.world.Failed.{Failed}

-- the image that a disk reads as
abbrev pub as_read : Disk → Image
as_read disk = record { count = disk.count; bytes = disk.bytes }

-- a stop may leave a disk as it reads
abbrev pub ReadsAreLeft : Type 0
ReadsAreLeft = (disk : Disk) → IsLeft disk (as_read disk)

-- a block that was written and not synced may hold anything after a stop
abbrev pub UnsyncedMayTear : Type 0
UnsyncedMayTear = (block : ℕ) (bytes torn : List ℕ) (disk : Disk) → (image : Image) × IsLeft (written block bytes disk) image × (image.bytes block ≡ torn)

-- after a sync a stop leaves what a read gives
abbrev pub SyncedStays : Type 0
SyncedStays = (disk : Disk) (image : Image) → IsLeft (synced disk) image → (block : ℕ) → image.bytes block ≡ disk.bytes block

-- a clock on which a block is written and then synced: in between a stop may leave it torn, and afterwards not
pub record WrittenThenSynced (side : Side) (block : ℕ) (bytes torn : List ℕ) (start : Outside) : Type 0 where
  pub old : Log
  pub mid : Log
  pub new : Log
  pub starts : now old ≡ start
  pub writes : Writes {T = Unit {0}} {E = Failed} side block bytes old mid (Ok tt)
  pub syncs : Steps mid new (put_disk side (synced (disk side (now mid))) (now mid))
  pub may_tear : (image : Image) × IsLeft (disk side (now mid)) image × (image.bytes block ≡ torn)
  pub may_not : (image : Image) → IsLeft (disk side (now new)) image → image.bytes block ≡ bytes

-- the clauses of a write and of a sync can be met from any moment on, whatever is written and whatever tears it
abbrev pub CanBeMet : Type 0
CanBeMet = (side : Side) (block : ℕ) (bytes torn : List ℕ) (start : Outside) → WrittenThenSynced side block bytes torn start
