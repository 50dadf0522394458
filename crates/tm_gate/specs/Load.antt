-- What the gate of an image says to a reader.
use Rattle.std.specs.Prelude.{◌≡◌, ℕ, List}
use Rattle.tm_world.specs.declared.world.Side.{Side}
use Rattle.tm_gate.specs.declared.gate.Gate.{Gate}
use Rattle.tm_gate.specs.Selector.{named_by, named_slot}
use Rattle.tm_gate.specs.Slot.{HasMagic, slot_of}
use Rattle.tm_gate.specs.Fields.{IsGoodSlot, IsBadSlot}

-- the selector names this slot, which lacks the magic
pub record IsUnformatted (bytes : ℕ → List ℕ) (named : ℕ) : Type 0 where
  pub selected : named_by (bytes 0) ≡ named
  pub lacks : ¬ HasMagic (bytes named)

-- the named slot has the magic, and its first bad field is at this offset
pub record IsBadGate (side : Side) (blocks : ℕ) (bytes : ℕ → List ℕ) (place : ℕ) : Type 0 where
  pub formatted : HasMagic (named_slot bytes)
  pub bad : IsBadSlot side blocks (named_slot bytes) place

-- the named slot has the magic, and none of its fields is bad
pub record IsGoodGate (side : Side) (blocks : ℕ) (bytes : ℕ → List ℕ) : Type 0 where
  pub formatted : HasMagic (named_slot bytes)
  pub good : IsGoodSlot side blocks (named_slot bytes)

-- the selector names this slot, which spells this root
pub record Shows (bytes : ℕ → List ℕ) (gate : Gate) : Type 0 where
  pub selected : named_by (bytes 0) ≡ gate.named
  pub holds : bytes gate.named ≡ slot_of gate.root
