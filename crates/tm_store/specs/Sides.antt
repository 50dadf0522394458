-- What the side of a store reads as, formatted or not, and what a stop leaves of it.
use Rattle.std.specs.Prelude.{◌≡◌, ◌⊎◌, ℕ, ◌<◌, ◌≤◌, false, Option, Some, None}
use Rattle.tm_base.specs.Limits.{max_blocks}
use Rattle.tm_gate.specs.Load.{IsUnformatted}
use Rattle.tm_image.specs.Blank.{IsBlank as MayBeFormatted}
use Rattle.tm_world.specs.Disk.{Disk, Image, IsLeft}
use Rattle.tm_world.specs.declared.cause.Cause.{Cause}
use Rattle.tm_store_records.specs.States.{StoredStore, StoreReads, StoreFails, LeavesNoneOrStore}

-- an image has fewer than 3 blocks, or its named slot lacks the magic
abbrev pub IsUnformattedStore : Image → Type 0
IsUnformattedStore image = (image.count < 3) ⊎ ((named : ℕ) × IsUnformatted image.bytes named)

-- an image reads as a store, or is unformatted
abbrev pub StoreSideReads : Image → Option StoredStore → Type 0
StoreSideReads image None = IsUnformattedStore image
StoreSideReads image (Some s) = StoreReads image s

-- whatever a stop leaves reads as this
abbrev pub LeavesStoreSide : Option StoredStore → Disk → Type 0
LeavesStoreSide s disk = (image : Image) → IsLeft disk image → StoreSideReads image s

-- whatever a stop leaves reads as the one or the other
abbrev pub LeavesEitherStore : Option StoredStore → Option StoredStore → Disk → Type 0
LeavesEitherStore old new disk = (image : Image) → IsLeft disk image → StoreSideReads image old ⊎ StoreSideReads image new

-- an unformatted disk, of which nothing is unsynced
pub record IsStoreBlank (disk : Disk) : Type 0 where
  pub unformatted : (disk.count < 3) ⊎ ((named : ℕ) × IsUnformatted disk.bytes named)
  pub stable : (b : ℕ) → disk.loose b ≡ false

-- ---- laws

-- an image reads as at most one store, and as none where it is unformatted
abbrev pub OneStoreSide : Type 0
OneStoreSide = (image : Image) (s t : Option StoredStore) → image.count ≤ max_blocks → StoreSideReads image s → StoreSideReads image t → s ≡ t

-- a stop leaves an unformatted disk unformatted
abbrev pub StoreBlankLeaves : Type 0
StoreBlankLeaves = (disk : Disk) → IsStoreBlank disk → LeavesStoreSide None disk

-- it may be formatted, where it is an image
abbrev pub StoreBlankMayBeFormatted : Type 0
StoreBlankMayBeFormatted = (disk : Disk) → IsStoreBlank disk → 3 ≤ disk.count → MayBeFormatted disk

-- while it is formatted, a stop leaves it unformatted, or with the store
abbrev pub NoneOrStore : Type 0
NoneOrStore = (s : StoredStore) (disk : Disk) → LeavesNoneOrStore s disk → LeavesEitherStore None (Some s) disk

-- one check fails, at one place
abbrev pub OneStoreFailure : Type 0
OneStoreFailure = (image : Image) (why why2 : Cause) (place place2 : ℕ) → image.count ≤ max_blocks
    → StoreFails image why place → StoreFails image why2 place2 → (why2 ≡ why) × (place2 ≡ place)

-- no check fails of an image that reads as something
abbrev pub StoreReadsOrFails : Type 0
StoreReadsOrFails = (image : Image) (s : Option StoredStore) (why : Cause) (place : ℕ) → 3 ≤ image.count → image.count ≤ max_blocks
    → StoreSideReads image s → StoreFails image why place → ⊥
