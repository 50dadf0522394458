-- What a stop may leave.
use Rattle.std.specs.Prelude.{◌≡◌, false, ℕ, ◌≤◌, Option, None, List, length, take}
use Rattle.std.specs.List.{All}
use Rattle.std.specs.Option.{option_map}
use Rattle.tm_base.specs.declared.refused.Side.{Side as RefusedSide}
use Rattle.tm_base.specs.declared.refused.Side.TheVariants as named
use Rattle.tm_store_records.specs.States.{StoreFails}
use Rattle.tm_volume.specs.Answers.{IsSpent, FailsVolume}
use Rattle.tm_world.specs.declared.cause.Cause.{Cause}
use Rattle.tm_store.specs.Sides.{StoreSideReads}
use Rattle.tm_store_records.specs.States.{StoredStore}
use Rattle.tm_volume.specs.Reads.{LeavesEither, SideReads}
use Rattle.tm_volume.specs.Stored.{StoredVolume, reopened}
use Rattle.tm_world.specs.Disk.{Image, IsLeft}
use Rattle.tm_world.specs.Outside.{Outside, Place, is_place, place, disk, AreApart}
use Rattle.tm_world.specs.declared.world.Side.{Side}
use Rattle.tm_world.specs.Torn.{as_read}
use Rattle.tm_world.specs.declared.world.Side.TheVariants.{Volume as VolumeSide, Store as StoreSide}
use Rattle.tm_machine.specs.Commits.{last_from}
use Rattle.tm_machine.specs.States.{Stored}

-- a pair of images reads as this
pub record PairReads (r : Stored) (v z : Image) : Type 0 where
  pub volume_reads : SideReads v r.volume
  pub store_reads : StoreSideReads z r.store

-- what stands at both sides reads as this
abbrev pub ReadsNow : Stored → Outside → Type 0
ReadsNow r now = PairReads r (as_read (disk VolumeSide now)) (as_read (disk StoreSide now))

-- an image can be opened: it reads as a volume whose generations aren't spent, or is unformatted
pub record CanOpen (image : Image) : Type 0 where
  pub volume : Option StoredVolume
  pub reads : SideReads image volume
  pub unspent : ¬ IsSpent volume

-- the same of the other side
pub record CanOpenStore (image : Image) : Type 0 where
  pub store : Option StoredStore
  pub reads : StoreSideReads image store

-- the pair that is left reads as the last of the first so many of these commits
pub record IsAmong (first : Stored) (later : List Stored) (v z : Image) : Type 0 where
  pub made : ℕ
  pub few : made ≤ length later
  pub reads : PairReads (last_from first (take made later)) v z

-- the sides are attached where they were, and all that stands elsewhere is as it was
pub record IsFramed (start now : Outside) : Type 0 where
  pub places : (side : Side) → place side now ≡ place side start
  pub elsewhere : (at : Place) → is_place (place VolumeSide start) at ≡ false → is_place (place StoreSide start) at ≡ false → now.stands at ≡ start.stands at

-- none of these has a volume, or a store
abbrev pub HaveNoVolume : List Stored → Type 0
HaveNoVolume made = All (λ x. x.volume ≡ None) made

abbrev pub HaveNoStore : List Stored → Type 0
HaveNoStore made = All (λ x. x.store ≡ None) made

-- a side that was unformatted, and that none of these commits formats, is byte for byte as it was
pub record KeepsBlank (first : Stored) (made : List Stored) (start now : Outside) : Type 0 where
  pub volume : first.volume ≡ None → HaveNoVolume made → disk VolumeSide now ≡ disk VolumeSide start
  pub store : first.store ≡ None → HaveNoStore made → disk StoreSide now ≡ disk StoreSide start

-- a moment within these commits, of which nothing was said
pub record LeavesCommits (first : Stored) (later : List Stored) (start now : Outside) : Type 0 where
  pub apart : AreApart now
  pub framed : IsFramed start now
  pub said : now.said ≡ start.said
  pub blank : KeepsBlank first later start now
  pub among : (v z : Image) → IsLeft (disk VolumeSide now) v → IsLeft (disk StoreSide now) z → IsAmong first later v z

-- whatever pair a stop leaves reads as this
abbrev pub LeavesPair : Stored → Outside → Type 0
LeavesPair r now = (v z : Image) → IsLeft (disk VolumeSide now) v → IsLeft (disk StoreSide now) z → PairReads r v z

-- a check of a side's image fails; the store's is read where the volume can be opened
abbrev pub IsBadSide : RefusedSide → Cause → ℕ → ℕ → ℕ → Type 0 → Outside → Type 0
IsBadSide named.Volume cause place volume_blocks store_blocks told o = (3 ≤ volume_blocks) × (told → FailsVolume (as_read (disk VolumeSide o)) cause place)
IsBadSide named.Store cause place volume_blocks store_blocks told o =
    (3 ≤ store_blocks) × (told → CanOpen (as_read (disk VolumeSide o)) × StoreFails (as_read (disk StoreSide o)) cause place)

-- a moment at which a volume is being opened: nothing else is touched, and nothing is said
pub record IsOpening (start now : Outside) : Type 0 where
  pub framed : IsFramed start now
  pub said : now.said ≡ start.said
  pub store_same : disk StoreSide now ≡ disk StoreSide start

-- what a stop leaves of a volume that reads so while it is being opened: what it was, or that with its generation begun
abbrev pub LeavesBegun : Option StoredVolume → Outside → Type 0
LeavesBegun volume now = LeavesEither volume (option_map reopened volume) (disk VolumeSide now)
