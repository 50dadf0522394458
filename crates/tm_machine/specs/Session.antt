-- What callers see of a session, and what stands on the disks beneath it.
use Rattle.std.specs.Prelude.{◌≡◌, ◌≤◌, ℕ, false, Option, Some, None, IfSome, Result, Ok, Err, List, [], length}
use Rattle.std.specs.Option.{option_map}
use Rattle.tm_base.specs.declared.refused.LineFault.{LineFault}
use Rattle.tm_base.specs.declared.refused.LineFault.TheVariants.{Refused, Fault, Memory}
use Rattle.tm_base.specs.Limits.{max_blocks}
use Rattle.tm_base.specs.declared.refused.Side.TheVariants as named
use Rattle.tm_reply.specs.declared.row.ReplyRow.{ReplyRow}
use Rattle.tm_tree.specs.Refusing.{Tests, first_refused}
use Rattle.tm_volume.specs.Reads.{IsBlank}
use Rattle.tm_volume.specs.Seen.{Seen as VolumeSeen, IsKept, IsReady, StandsOn, stored_on}
use Rattle.tm_world.specs.Disk.{Disk}
use Rattle.tm_world.specs.Log.{Log, now, Passes}
use Rattle.tm_world.specs.Outside.{Outside, disk, AreApart}
use Rattle.tm_world.specs.declared.world.Part.{Part}
use Rattle.tm_world.specs.declared.world.Part.TheVariants as part
use Rattle.tm_world.specs.declared.world.Side.{Side}
use Rattle.tm_world.specs.declared.world.Side.TheVariants.{Volume as VolumeSide, Store as StoreSide}
use Rattle.tm_image.specs.Seen.{Stands}
use Rattle.tm_store.specs.Sides.{IsStoreBlank}
use Rattle.tm_store_records.specs.Held.{Held, IsWhole, store_stored_on}
use Rattle.tm_text.specs.declared.line.Line.{Line}
use Rattle.tm_machine.specs.Changing.{change_of}
use Rattle.tm_machine.specs.Commits.{done_by, changeless_commits, changeless_undone, undone}
use Rattle.tm_machine.specs.Steps.{after, after_refused, changeless_after, changeless_after_refused, changeless_tests, rows, tests, unless_refused}
use Rattle.tm_machine.specs.States.{State, Stored, kept}
use Rattle.tm_machine.specs.Stops.{LeavesCommits, LeavesPair}

-- the blocks of each image, the volume and the store, each formatted or not, and the moment that was set last
pub record Seen : Type 0 where
  pub volume_blocks : ℕ
  pub store_blocks : ℕ
  pub volume : Option VolumeSeen
  pub store : Option Held
  pub moment : Option ℕ

-- the state of the plain machine, for a session whose data are on these disks
abbrev pub state_on : Seen → Outside → State
state_on m outside = record {
  volume_blocks = m.volume_blocks;
  store_blocks = m.store_blocks;
  volume = option_map (λ v. stored_on v (disk VolumeSide outside).bytes) m.volume;
  store = option_map (λ h. store_stored_on h (disk StoreSide outside).bytes) m.store;
  moment = m.moment;
}

-- the volume stands on the disk, which is unformatted where there is none
abbrev pub VolumeStands : Option VolumeSeen → Disk → Type 0
VolumeStands None disk = IsBlank disk
VolumeStands (Some v) disk = StandsOn v disk

-- and so the store
abbrev pub StoreStands : Option Held → Disk → Type 0
StoreStands None disk = IsStoreBlank disk
StoreStands (Some h) disk = Stands h.image disk

-- the sides are apart, and what the session has stands on its disk
pub record Standing (m : Seen) (outside : Outside) : Type 0 where
  pub apart : AreApart outside
  pub volume_side : VolumeStands m.volume (disk VolumeSide outside)
  pub store_side : StoreStands m.store (disk StoreSide outside)

-- the sides are apart, and nothing of them is unsynced
pub record IsSynced (outside : Outside) : Type 0 where
  pub apart : AreApart outside
  pub volume_stable : (b : ℕ) → (disk VolumeSide outside).loose b ≡ false
  pub store_stable : (b : ℕ) → (disk StoreSide outside).loose b ≡ false

-- a store on so many blocks is what its image has, no backup runs, and nothing is staged
pub record IsIdle (h : Held) (blocks : ℕ) : Type 0 where
  pub whole : IsWhole h
  pub count : length h.image.used ≡ blocks
  pub idle : h.running ≡ None
  pub unstaged : h.staged ≡ []

-- the sides have so many blocks, the volume is sound and may be changed, and so may the store
pub record IsOpen (m : Seen) (blocks : Side → ℕ) : Type 0 where
  pub count : blocks VolumeSide ≡ m.volume_blocks
  pub small : m.volume_blocks ≤ max_blocks
  pub sound : IfSome m.volume IsKept
  pub ready : IfSome m.volume (λ v. IsReady v m.volume_blocks)
  pub store_count : blocks StoreSide ≡ m.store_blocks
  pub store_small : m.store_blocks ≤ max_blocks
  pub idle : IfSome m.store (λ h. IsIdle h m.store_blocks)

-- whatever pair a stop leaves of the disks on which a session stands reads as what is kept of it
abbrev pub SessionLeaves : Type 0
SessionLeaves = (m : Seen) (blocks : Side → ℕ) (o : Outside) → IsOpen m blocks → Standing m o → LeavesPair (kept (state_on m o)) o

-- the same volume, but for its count of looks, on as many blocks
abbrev pub unlooked : Option VolumeSeen → Option VolumeSeen
unlooked None = None
unlooked (Some v) = Some (record v { looks = 0 })

pub record Alike (m new : Seen) : Type 0 where
  pub blocks_same : new.volume_blocks ≡ m.volume_blocks
  pub store_blocks_same : new.store_blocks ≡ m.store_blocks
  pub volume_same : unlooked new.volume ≡ unlooked m.volume
  pub store_same : new.store ≡ m.store
  pub moment_same : new.moment ≡ m.moment

-- ---- what a line does

-- a fact that holds where a line was done or refused
abbrev pub IfReplied : {A : Type 0} → Result A LineFault → Type 0 → Type 0
IfReplied (Ok found) fact = fact
IfReplied (Err (Refused why)) fact = fact
IfReplied (Err (Fault side)) fact = Unit {0}
IfReplied (Err Memory) fact = Unit {0}

-- what a line is to do: its tests, its data lines, the state after it and its commits; and the state and the commits where
-- a test refuses it
pub record Effect : Type 0 where
  pub tested : Tests
  pub rows : List ReplyRow
  pub after : State
  pub commits : List Stored
  pub after_refused : State
  pub undone : List Stored

-- a line that changes nothing where it is refused
abbrev pub effect : Tests → List ReplyRow → State → List Stored → State → Effect
effect tested rows after commits s = record { tested = tested; rows = rows; after = after; commits = commits; after_refused = s; undone = [] }

-- that of a line
abbrev pub changeless_effect : State → Line → Effect
changeless_effect s l = record {
  tested = changeless_tests s l;
  rows = rows s l;
  after = changeless_after s l;
  commits = changeless_commits s l;
  after_refused = changeless_after_refused s l;
  undone = changeless_undone s l;
}

abbrev pub line_effect : State → Line → Effect
line_effect s l = record { tested = tests s l; rows = rows s l; after = after s l; commits = done_by s l (change_of l); after_refused = after_refused s l; undone = undone s l }

-- done exactly where no test refuses it, with its data lines and its state; refused where one does
abbrev pub Replies : Effect → State → Result (List ReplyRow) LineFault → Type 0
Replies d new (Ok found) = (first_refused d.tested ≡ None) × (found ≡ d.rows) × (new ≡ d.after)
Replies d new (Err (Refused why)) = (first_refused d.tested ≡ Some why) × (new ≡ d.after_refused)
Replies d new (Err (Fault side)) = Unit {0}
Replies d new (Err Memory) = Unit {0}

-- a line was done, or refused, or cut short: it replies, what the session has stands on the disks, and at each moment a stop
-- leaves a prefix of the commits
pub record Does (d : Effect) (m new : Seen) (start end : Log) (result : Result (List ReplyRow) LineFault) : Type 0 where
  pub replies : Replies d (state_on new (now end)) result
  pub standing : IfReplied result (Standing new (now end))
  pub moments : Passes start end (LeavesCommits (kept (state_on m (now start))) (unless_refused (first_refused d.tested) d.undone d.commits) (now start))
