-- What a reader may rely on.
use Rattle.std.specs.Prelude.{◌≡◌, ◌⊎◌, ℕ, ◌<◌, ◌^◌, List}
use Rattle.tm_world.specs.declared.world.Side.{Side}
use Rattle.tm_world.specs.Disk.{Disk, Image, IsLeft}
use Rattle.tm_gate.specs.declared.root.Root.{Root}
use Rattle.tm_gate.specs.Selector.{named_slot, other_slot}
use Rattle.tm_gate.specs.Slot.{HasMagic, slot_of}
use Rattle.tm_gate.specs.Fields.{IsGoodSlot}
use Rattle.tm_gate.specs.Gate.{IsGate, LeavesOldOrNew}
use Rattle.tm_gate.specs.Root.{IsRoot, after_root}

-- of two slots, one is always whole: whatever a stop leaves while the gate is turned, the named slot is the old one or the new
abbrev pub OneSlotIsWhole : Type 0
OneSlotIsWhole = (old now : Disk) (named : ℕ) (old_slot new_slot : List ℕ) → IsGate old named old_slot → LeavesOldOrNew old (other_slot named) new_slot now
    → (image : Image) → IsLeft now image → (named_slot image.bytes ≡ old_slot) ⊎ (named_slot image.bytes ≡ new_slot)

-- a root whose fields are within their bounds is spelled by a good slot
abbrev pub RootsAreGood : Type 0
RootsAreGood = (side : Side) (blocks : ℕ) (root : Root) → blocks < 2 ^ 32 → IsRoot side blocks root → HasMagic (slot_of root) × IsGoodSlot side blocks (slot_of root)

-- no rule reads the sequence
abbrev pub SequenceIsFree : Type 0
SequenceIsFree = (side : Side) (blocks : ℕ) (old root : Root) → IsRoot side blocks root → IsRoot side blocks (after_root old root)

-- a slot spells one root
abbrev pub SlotsSpellOne : Type 0
SlotsSpellOne = (side : Side) (blocks : ℕ) (r s : Root) → blocks < 2 ^ 32 → IsRoot side blocks r → IsRoot side blocks s
    → r.sequence < 2 ^ 64 → s.sequence < 2 ^ 64 → slot_of r ≡ slot_of s → r ≡ s
