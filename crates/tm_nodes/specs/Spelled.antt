-- Values and their spellings.
use Rattle.std.specs.Prelude.{◌≡◌, ◌≢◌, ℕ, List}

-- the bytes are the value's spelling, and it keeps the rules
pub record IsSpelled {A : Type 0} (text : A → List ℕ) (Keeps : A → Type 0) (bytes : List ℕ) (a : A) : Type 0 where
  pub rules : Keeps a
  pub spelled : bytes ≡ text a

-- the bytes are the spelling of no value that keeps the rules
abbrev pub IsUnspelled : {A : Type 0} → (A → List ℕ) → (A → Type 0) → List ℕ → Type 0
IsUnspelled {A} text Keeps bytes = (a : A) → Keeps a → bytes ≢ text a
