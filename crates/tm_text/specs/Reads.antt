-- What a reader answers.
use Rattle.std.specs.Prelude.{Result, Ok, Err}
use Rattle.tm_text.specs.declared.error.LineError.{LineError}
use Rattle.tm_text.specs.declared.error.LineError.TheVariants as errors

-- The reader gives what is spelled. It answers Bad only where nothing is.
abbrev pub Reads : {A : Type 0} → (A → Type 0) → Result A LineError → Type 0
Reads Spelled (Ok x) = Spelled x
Reads {A} Spelled (Err errors.Bad) = (x : A) → Spelled x → ⊥
Reads Spelled (Err errors.Memory) = Unit {0}
