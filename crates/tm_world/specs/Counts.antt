-- Counts of faults by part, as a world keeps them.
use Rattle.std.specs.Prelude.{ℕ, ◌+◌, ◌-◌, ◌^◌, min, Bool, true, false, if◌then◌else◌, Result, Ok, Err}
use Rattle.tm_world.specs.declared.world.Part.{Part}
use Rattle.tm_world.specs.declared.world.Part.TheVariants.{Volume, Store, Script, Out}
use Rattle.tm_world.specs.declared.faults.Faults.{Faults}

-- the count of a part
abbrev pub count_of : Faults → Part → ℕ
count_of faults Volume = faults.volume
count_of faults Store = faults.store
count_of faults Script = faults.script
count_of faults Out = faults.out

-- one more, up to the end of the count
abbrev pub one_more : ℕ → ℕ
one_more n = min (n + 1) (2 ^ 64 - 1)

-- whether two parts are one
abbrev pub is_part : Part → Part → Bool
is_part Volume Volume = true
is_part Store Store = true
is_part Script Script = true
is_part Out Out = true
is_part part other = false

-- the counts after a fault of a part
abbrev pub raised : Part → (Part → ℕ) → Part → ℕ
raised part counts other = if is_part part other then one_more (counts other) else counts other

-- the counts after a call of a part: a call that fails is one fault of that part, and one that does not is none
abbrev pub counted : {T E : Type 0} → Part → Result T E → (Part → ℕ) → Part → ℕ
counted part (Ok x) counts = counts
counted part (Err e) counts = raised part counts
