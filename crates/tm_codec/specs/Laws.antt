-- What spellings of one kind keep.
use Rattle.std.specs.Prelude.{◌≡◌, ℕ, List, ◌++◌, length}
use Rattle.tm_codec.specs.Places.{IsTextAt}

-- no spelling begins another: equal beginnings are of one value, and the rest is the same
abbrev pub AreApart : {A : Type 0} → (A → Type 0) → (A → List ℕ) → Type 0
AreApart {A} Fits text = (a b : A) (x y : List ℕ) → Fits a → Fits b → text a ++ x ≡ text b ++ y → (a ≡ b) × (x ≡ y)

-- a spelling stands where it was put, whatever stands before it and follows
abbrev pub AreReadAgain : {A : Type 0} → (A → List ℕ) → Type 0
AreReadAgain {A} text = (a : A) (front rest : List ℕ) → IsTextAt (text a) (length front) (front ++ text a ++ rest)
