-- Counts of faults: whose fault it is.
use Rattle.std.specs.Prelude.{◌≡◌, ℕ, ◌+◌, ◌-◌, ◌^◌, ◌≤◌, min, Result, Err}
use Rattle.tm_base.specs.declared.refused.Side.{Side}
use Rattle.tm_base.specs.declared.refused.Side.TheVariants as side
use Rattle.tm_base.specs.declared.refused.LineFault.{LineFault}
use Rattle.tm_base.specs.declared.refused.LineFault.TheVariants.{Fault}
use Rattle.tm_world.specs.declared.world.Part.{Part}
use Rattle.tm_world.specs.declared.world.Part.TheVariants as part

-- the count rose, or stands at its end
abbrev pub Rose : ℕ → ℕ → Type 0
Rose before after = min (before + 1) (2 ^ 64 - 1) ≤ after

-- no count fell
abbrev pub NeverLess : (Part → ℕ) → (Part → ℕ) → Type 0
NeverLess before after = (part : Part) → before part ≤ after part

-- the part whose count tells of the side that a line's fault names
abbrev pub part_at : Side → Part
part_at side.Volume = part.Volume
part_at side.Store = part.Store

-- where a call for a line answers a fault of a side, the count of that side's part rose
abbrev pub Blames : {A : Type 0} → Result A LineFault → (Part → ℕ) → (Part → ℕ) → Type 0
Blames result before after = (side : Side) → result ≡ Err (Fault side) → Rose (before (part_at side)) (after (part_at side))

-- where a call for a line answers a fault, it is one of this side, and the count of that side's part rose
abbrev pub BlamesOnly : {A : Type 0} → Side → Result A LineFault → (Part → ℕ) → (Part → ℕ) → Type 0
BlamesOnly one result before after = (side : Side) → result ≡ Err (Fault side) → (side ≡ one) × Rose (before (part_at one)) (after (part_at one))
