-- How far beneath an item others stand, by the index.
use Rattle.std.specs.Prelude.{◌≡◌, ◌⊎◌, ◌==◌, ℕ, Bool, not, Some, List, [], ◌∷◌, length}
use Rattle.tm_base.specs.Paths.{Names}
use Rattle.tm_items.specs.Index.{Numbers}
use Rattle.tm_items.specs.Places.{at_name}

-- from the number a, the names of a path lead down to c
abbrev pub Leads : Numbers → ℕ → Names → ℕ → Type 0
Leads numbers a [] c = a ≡ c
Leads numbers a (name ∷ rest) c = (k : ℕ) × (numbers (at_name a name) ≡ Some k) × Leads numbers k rest c

-- c is one of these
abbrev pub Among : ℕ → List ℕ → Type 0
Among c [] = ⊥
Among c (x ∷ xs) = (c ≡ x) ⊎ Among c xs

-- these stand in the folders of a level, and no others
pub record AreBelow (numbers : Numbers) (level next : List ℕ) : Type 0 where
  pub from : (c : ℕ) → Among c next → (k : ℕ) × Among k level × ((name : List ℕ) × (numbers (at_name k name) ≡ Some c))
  pub all : (k c : ℕ) (name : List ℕ) → Among k level → numbers (at_name k name) ≡ Some c → Among c next

-- these stand so many names beneath n, and no others
pub record IsLevel (numbers : Numbers) (n steps : ℕ) (level : List ℕ) : Type 0 where
  pub from : (c : ℕ) → Among c level → (rest : Names) × (length rest ≡ steps) × Leads numbers n rest c
  pub all : (rest : Names) (c : ℕ) → length rest ≡ steps → Leads numbers n rest c → Among c level

-- whether something stands so many names beneath n
pub record Reaches (numbers : Numbers) (n steps : ℕ) (deep : Bool) : Type 0 where
  pub level : List ℕ
  pub is_level : IsLevel numbers n steps level
  pub is : deep ≡ not (length level == 0)
