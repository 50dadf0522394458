-- What the answer of a reading call says.
use Rattle.std.specs.Prelude.{◌≡◌, ℕ, Option, Some, None, Result, Ok, Err}
use Rattle.tm_nodes.specs.declared.error.NodeError.{NodeError}
use Rattle.tm_nodes.specs.declared.error.NodeError.TheVariants.{BadNode, Memory}

-- a fact for an answer BadNode, of its key
abbrev pub IfBad : {A : Type 0} → Result A NodeError → (ℕ → Type 0) → Type 0
IfBad (Ok a) P = Unit {0}
IfBad (Err (BadNode key)) P = P key
IfBad (Err Memory) P = Unit {0}

-- the answer is the value found, or BadNode with this key where none is found, or Memory
abbrev pub Tells : {A : Type 0} → ℕ → Result A NodeError → Option A → Type 0
Tells key (Ok a) found = found ≡ Some a
Tells key (Err (BadNode k)) found = (k ≡ key) × (found ≡ None)
Tells key (Err Memory) found = Unit {0}
