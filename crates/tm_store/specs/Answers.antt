-- What the answers of the store's calls say.
use Rattle.std.specs.Prelude.{◌≡◌, ◌<◌, ℕ, Result, Ok, Err}
use Rattle.tm_base.specs.declared.refused.Refused.{Refused}
use Rattle.tm_base.specs.declared.refused.Refused.TheVariants as refused
use Rattle.tm_base.specs.declared.refused.LineFault.{LineFault}
use Rattle.tm_base.specs.declared.refused.LineFault.TheVariants as fault
use Rattle.tm_base.specs.declared.refused.Side.TheVariants.{Volume, Store}
use Rattle.tm_world.specs.declared.world.Part.{Part}
use Rattle.tm_world.specs.declared.world.Part.TheVariants as part
use Rattle.tm_world.specs.Faults.{Rose}

-- a fact for a refusal
abbrev pub IfRefused : {A : Type 0} → Result A LineFault → (Refused → Type 0) → Type 0
IfRefused (Ok a) P = Unit {0}
IfRefused (Err (fault.Refused why)) P = P why
IfRefused (Err (fault.Fault side)) P = Unit {0}
IfRefused (Err fault.Memory) P = Unit {0}

-- a fault is one of the store's, and then this holds
abbrev pub OnFault : {A : Type 0} → Result A LineFault → Type 0 → Type 0
OnFault (Ok a) P = Unit {0}
OnFault (Err (fault.Refused why)) P = Unit {0}
OnFault (Err (fault.Fault Volume)) P = ⊥
OnFault (Err (fault.Fault Store)) P = P
OnFault (Err fault.Memory) P = Unit {0}

-- a fault is one of the store's, and the count of that side's part rose
abbrev pub BlamesStore : {A : Type 0} → Result A LineFault → (Part → ℕ) → (Part → ℕ) → Type 0
BlamesStore result before after = OnFault result (Rose (before part.Store) (after part.Store))

-- this holds after all answers but a fault
abbrev pub UnlessFault : {A : Type 0} → Result A LineFault → Type 0 → Type 0
UnlessFault (Ok a) P = P
UnlessFault (Err (fault.Refused why)) P = P
UnlessFault (Err (fault.Fault side)) P = Unit {0}
UnlessFault (Err fault.Memory) P = P

-- this holds where the answer is an error, but for a fault
abbrev pub OnRefusal : {A : Type 0} → Result A LineFault → Type 0 → Type 0
OnRefusal (Ok a) P = Unit {0}
OnRefusal (Err (fault.Refused why)) P = P
OnRefusal (Err (fault.Fault side)) P = Unit {0}
OnRefusal (Err fault.Memory) P = P

-- the refusal Full with these numbers, of which the first is above the second
abbrev pub IsFullRefusal : ℕ → ℕ → Refused → Type 0
IsFullRefusal need free (refused.Full n f) = (n ≡ need) × (f ≡ free) × (free < need)
IsFullRefusal need free _ = ⊥

-- the refusal Small
abbrev pub IsSmallRefusal : Refused → Type 0
IsSmallRefusal refused.Small = Unit {0}
IsSmallRefusal _ = ⊥
