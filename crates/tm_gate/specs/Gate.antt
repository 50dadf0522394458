-- The gate of a disk, and what a stop leaves of it while it is turned.
use Rattle.std.specs.Prelude.{◌≡◌, ◌≢◌, ◌⊎◌, ℕ, false, List}
use Rattle.tm_world.specs.Disk.{Disk, Image, IsLeft}
use Rattle.tm_gate.specs.Selector.{named_by}

-- the gate is at rest: the selector and the slot that it names are stable
pub record IsGate (disk : Disk) (named : ℕ) (slot : List ℕ) : Type 0 where
  pub selected : named_by (disk.bytes 0) ≡ named
  pub holds : disk.bytes named ≡ slot
  pub selector_stable : disk.loose 0 ≡ false
  pub slot_stable : disk.loose named ≡ false

-- the old slot is named, and what was stable is as it was, but for the other slot and the selector's other bits
pub record IsBefore (old : Disk) (target : ℕ) (image : Image) : Type 0 where
  pub count : image.count ≡ old.count
  pub selected : named_by (image.bytes 0) ≡ named_by (old.bytes 0)
  pub others : (b : ℕ) → b ≢ 0 → b ≢ target → old.loose b ≡ false → image.bytes b ≡ old.bytes b

-- the new slot is named, and all else is as it was
pub record IsAfter (old : Disk) (target : ℕ) (slot : List ℕ) (image : Image) : Type 0 where
  pub count : image.count ≡ old.count
  pub selected : named_by (image.bytes 0) ≡ target
  pub holds : image.bytes target ≡ slot
  pub others : (b : ℕ) → b ≢ 0 → b ≢ target → image.bytes b ≡ old.bytes b

-- whatever a stop leaves of this disk names the old slot or the new
abbrev pub LeavesOldOrNew : Disk → ℕ → List ℕ → Disk → Type 0
LeavesOldOrNew old target slot disk = (image : Image) → IsLeft disk image → IsBefore old target image ⊎ IsAfter old target slot image

-- after the turn: the new slot is named, nothing is unsynced, and no other block differs
pub record IsTurned (old : Disk) (target : ℕ) (slot : List ℕ) (new : Disk) : Type 0 where
  pub gate : IsGate new target slot
  pub count : new.count ≡ old.count
  pub stable : (b : ℕ) → new.loose b ≡ false
  pub others : (b : ℕ) → b ≢ 0 → b ≢ target → new.bytes b ≡ old.bytes b
