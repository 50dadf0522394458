-- What the calls of a backup answer.
use Rattle.std.specs.Prelude.{◌≡◌, ℕ, ◌+◌, Result, Ok, Err, Some, None, List}
use Rattle.std.specs.List.{sum}
use Rattle.tm_base.specs.declared.refused.LineFault.{LineFault}
use Rattle.tm_base.specs.declared.refused.LineFault.TheVariants.{Refused, Fault, Memory}
use Rattle.tm_backup.specs.Walk.{first_full}

-- so many blocks are staged, each where it fits, or the first is refused that doesn't; `free` are free before, and `left` after,
-- and t are the table's
abbrev pub Stages : {A : Type 0} → ℕ → ℕ → ℕ → List ℕ → Result A LineFault → Type 0
Stages t free left blocks (Ok a) = (first_full t free blocks ≡ None) × (left + sum blocks ≡ free)
Stages t free left blocks (Err (Refused why)) = first_full t free blocks ≡ Some why
Stages t free left blocks (Err (Fault side)) = Unit {0}
Stages t free left blocks (Err Memory) = Unit {0}
