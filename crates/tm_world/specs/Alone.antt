-- What a call leaves alone.
use Rattle.std.specs.Prelude.{◌≡◌, ◌↔◌, ◌⊎◌, ◌+◌, ℕ, List, Option, Some, Result, true, false, OnOk}
use Rattle.tm_world.specs.Disk.{Disk, Image, IsLeft, DiffersAt, synced}
use Rattle.tm_world.specs.Outside.{Outside, Place, is_place, place, disk, put_disk, took, spoke, attached, part_of, AreApart}
use Rattle.tm_world.specs.Log.{Log, now, Passes, Steps, Writes}
use Rattle.tm_world.specs.Runs.{Runs, other}
use Rattle.tm_world.specs.Pairs.{Pair, MayHaveLeft, LeftBy}
use Rattle.tm_world.specs.declared.world.Side.{Side}
use Rattle.tm_world.specs.declared.world.Part.TheVariants.{Script}
use Rattle.tm_world.specs.declared.world.Failed.{Failed}

-- a side is attached as it was, reads as it did, and a stop may leave there what it might
pub record KeepsSide (side : Side) (old new : Outside) : Type 0 where
  pub place_same : place side new ≡ place side old
  pub disk_same : disk side new ≡ disk side old
  pub left_same : (image : Image) → IsLeft (disk side new) image ↔ IsLeft (disk side old) image

-- both sides, what stands at any path, and the scripts are as they were
pub record KeepsImages (old new : Outside) : Type 0 where
  pub sides : (side : Side) → KeepsSide side old new
  pub stands : (at : Place) → new.stands at ≡ old.stands at
  pub scripts : new.scripts ≡ old.scripts

-- all but the image of this side is as it was
pub record KeepsRest (side : Side) (old new : Outside) : Type 0 where
  pub places : (any : Side) → place any new ≡ place any old
  pub elsewhere : (at : Place) → is_place (place side old) at ≡ false → new.stands at ≡ old.stands at
  pub scripts : new.scripts ≡ old.scripts
  pub unread : new.unread ≡ old.unread
  pub said : new.said ≡ old.said

-- attaching a side: what stands already, what is elsewhere and the other side's place are as they were
pub record AttachKeeps (side : Side) (path : List ℕ) (old new : Outside) : Type 0 where
  pub standing : (at : Place) → (old.stands at).there ≡ true → new.stands at ≡ old.stands at
  pub elsewhere : (at : Place) → is_place (Some path) at ≡ false → new.stands at ≡ old.stands at
  pub other_place : place (other side) new ≡ place (other side) old
  pub scripts : new.scripts ≡ old.scripts
  pub unread : new.unread ≡ old.unread
  pub said : new.said ≡ old.said

-- a call on one side leaves all else at each moment
abbrev pub RestStays : (Disk → Type 0) → Type 0
RestStays P = (side : Side) (old new : Log) → Runs side P old new → Passes old new (KeepsRest side (now old))

-- a call on one side leaves the other side at each moment, where the two are apart
abbrev pub OtherSideStays : (Disk → Type 0) → Type 0
OtherSideStays P = (side : Side) (old new : Log) → AreApart (now old) → Runs side P old new → Passes old new (KeepsSide (other side) (now old))

-- of a run on one side, then one on the other: a pair that a stop may have left within them
pub record InTurn (P Q : Disk → Type 0) (side : Side) (old mid : Outside) (pair : Pair) : Type 0 where
  pub one : (LeftBy P (pair side) × IsLeft (disk (other side) old) (pair (other side))) ⊎ (IsLeft (disk side mid) (pair side) × LeftBy Q (pair (other side)))

-- two clauses, each about one side, give one about the pair: within the first run the other side is as it was, within the
-- second this side is as the first run left it, and nothing is said
abbrev pub SidesCompose : (Disk → Type 0) → (Disk → Type 0) → Type 0
SidesCompose P Q = (side : Side) (old mid new : Log) → AreApart (now old) → Runs side P old mid → Runs (other side) Q mid new
    → (pair : Pair) (said : List ℕ) → MayHaveLeft new (old.moment + 1) pair said → InTurn P Q side (now old) (now mid) pair × (said ≡ (now old).said)

-- a read leaves its side as it was
abbrev pub ReadRuns : Type 0
ReadRuns = (side : Side) (old new : Log) → Steps old new (now old) → Runs side (λ d. d ≡ disk side (now old)) old new

-- a write leaves all blocks of its side but one as they were
abbrev pub WriteRuns : Type 0
WriteRuns = (side : Side) (block : ℕ) (bytes : List ℕ) (old new : Log) (result : Result (Unit {0}) Failed) → Writes side block bytes old new result
    → Runs side (DiffersAt block (disk side (now old))) old new × OnOk result ((disk side (now new)).bytes block ≡ bytes)

-- a sync leaves what a read gives as it was
abbrev pub SyncRuns : Type 0
SyncRuns = (side : Side) (old new : Log) → Steps old new (put_disk side (synced (disk side (now old))) (now old))
    → Runs side (λ d. d ≡ synced (disk side (now old))) old new × ((block : ℕ) → (disk side (now new)).bytes block ≡ (disk side (now old)).bytes block)

abbrev pub AttachSideKeeps : Type 0
AttachSideKeeps = (side : Side) (path : List ℕ) (create : Option ℕ) (s : Outside) → AttachKeeps side path s (attached (part_of side) path create s)

abbrev pub AttachScriptKeeps : Type 0
AttachScriptKeeps = (path : List ℕ) (create : Option ℕ) (s : Outside) → KeepsImages s (attached Script path create s) × ((attached Script path create s).said ≡ s.said)

abbrev pub TakeKeeps : Type 0
TakeKeeps = (n : ℕ) (s : Outside) → KeepsImages s (took n s) × ((took n s).said ≡ s.said)

abbrev pub SayKeeps : Type 0
SayKeeps = (bytes : List ℕ) (s : Outside) → KeepsImages s (spoke bytes s) × ((spoke bytes s).unread ≡ s.unread)
