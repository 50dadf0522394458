-- What the spellings of one kind of record keep.
use Rattle.std.specs.Prelude.{◌≡◌, ◌↔◌, ℕ, Option, Some, List}
use Rattle.tm_nodes.specs.Spelled.{IsSpelled}

-- what is found in bytes is what they spell, and all that they spell
abbrev pub FindsSpelled : {A : Type 0} → (List ℕ → Option A) → (A → List ℕ) → (A → Type 0) → Type 0
FindsSpelled {A} found text Keeps = (bytes : List ℕ) (a : A) → (found bytes ≡ Some a) ↔ IsSpelled text Keeps bytes a

-- equal spellings are of equal values
abbrev pub HasOneMeaning : {A : Type 0} → (A → List ℕ) → (A → Type 0) → Type 0
HasOneMeaning {A} text Keeps = (a b : A) → Keeps a → Keeps b → text a ≡ text b → a ≡ b

-- what is written is read again
abbrev pub IsReadAgain : {A : Type 0} → (List ℕ → Option A) → (A → List ℕ) → (A → Type 0) → Type 0
IsReadAgain {A} found text Keeps = (a : A) → Keeps a → found (text a) ≡ Some a
