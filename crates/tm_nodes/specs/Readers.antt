-- Reading from the front of bytes.
use Rattle.std.specs.Prelude.{◌≡◌, ℕ, zero, suc, Bool, cond, Option, Some, None, Result, Ok, Err, List, [], ◌∷◌}
use Rattle.tm_nodes.specs.declared.error.ReadError.{ReadError}
use Rattle.tm_nodes.specs.declared.error.ReadError.TheVariants.{Broken, Memory}

-- a value and the bytes after it, or none
abbrev pub Reader : Type 0 → Type 0
Reader A = List ℕ → Option (A × List ℕ)

-- goes on with what was read, if anything was
abbrev pub go_on : {A B : Type 0} → Option (A × List ℕ) → (A → Reader B) → Option (B × List ℕ)
go_on None next = None
go_on (Some x) next = next x.0 x.1

-- reads one value, and then another by it
unfoldable pub and_then : {A B : Type 0} → Reader A → (A → Reader B) → Reader B
and_then read next bytes = go_on (read bytes) next

-- the same, for `do`
infixl 10 ◌>>=◌
abbrev pub ◌>>=◌ : {A B : Type 0} → Reader A → (A → Reader B) → Reader B
read >>= next = and_then read next

-- reads nothing
unfoldable pub done : {A : Type 0} → A → Reader A
done a bytes = Some (a, bytes)

-- only where a test passes
unfoldable pub only_if : {A : Type 0} → Bool → A → Reader A
only_if test a bytes = cond test (Some (a, bytes)) None

-- so many values, each read after the one before it
unfoldable pub many : {A : Type 0} → (Option A → Reader A) → ℕ → Option A → Reader (List A)
many read zero before = done []
many read (suc n) before = do
  first ← read before
  others ← many read n (Some first)
  done (first ∷ others)

-- at most so many values, up to the end of the bytes
unfoldable pub to_end : {A : Type 0} → (Option A → Reader A) → ℕ → Option A → Reader (List A)
to_end read n before [] = Some ([], [])
to_end read zero before (b ∷ bytes) = None
to_end read (suc n) before (b ∷ bytes) =
    and_then (read before) (λ first. and_then (to_end read n (Some first)) (λ others. done (first ∷ others))) (b ∷ bytes)

-- a value, where nothing follows it
abbrev pub before_nothing : {A : Type 0} → A → List ℕ → Option A
before_nothing a [] = Some a
before_nothing a (b ∷ rest) = None

-- what was read, where nothing follows it
abbrev pub value_alone : {A : Type 0} → Option (A × List ℕ) → Option A
value_alone None = None
value_alone (Some x) = before_nothing x.0 x.1

-- the value that the whole of the bytes is
unfoldable pub whole : {A : Type 0} → Reader A → List ℕ → Option A
whole read bytes = value_alone (read bytes)

-- reading gives nothing, unless memory ran out
abbrev pub Fails : {A : Type 0} → ReadError → Option A → Type 0
Fails Broken read = read ≡ None
Fails Memory read = Unit {0}

-- what a function returned, seen by view, is what reading gives, unless memory ran out
abbrev pub Gives : {X A : Type 0} → (X → A) → Result X ReadError → Option A → Type 0
Gives view (Ok x) read = read ≡ Some (view x)
Gives view (Err error) read = Fails error read
