-- The index of numbered items: the number at each place.
use Rattle.std.specs.Prelude.{◌≡◌, ℕ, ◌<◌, if◌then◌else◌, Option, Some, None, List}
use Rattle.std.specs.BTreeMap.{is_at}
use Rattle.tm_items.specs.Placings.{Items, IsChild}
use Rattle.tm_items.specs.Places.{Place, place_cmp, at_name}
use Rattle.tm_items.specs.Rules.{FollowsRules}

-- the number at each place
abbrev pub Numbers : Type 0
Numbers = Place → Option ℕ

abbrev pub IsChildAt : Items → ℕ → Option (List ℕ) → ℕ → Type 0
IsChildAt items a None k = ⊥
IsChildAt items a (Some name) k = IsChild items a name k

-- the index has each child at its place, and nothing else
pub record IsIndex (items : Items) (numbers : Numbers) : Type 0 where
  pub told : (place : Place) (k : ℕ) → numbers place ≡ Some k → IsChildAt items place.parent place.name k
  pub known : (a k : ℕ) (name : List ℕ) → IsChild items a name k → numbers (at_name a name) ≡ Some k

-- numbers with another answer at one place
pub record SetsAt (place : Place) (o : Option ℕ) (old new : Numbers) : Type 0 where
  pub at : (q : Place) → new q ≡ (if is_at (place_cmp place) q then o else old q)

-- ---- while items are read by rising number

-- the index of the items below n
pub record IsIndexBelow (items : Items) (n : ℕ) (numbers : Numbers) : Type 0 where
  pub told : (place : Place) (k : ℕ) → numbers place ≡ Some k → IsChildAt items place.parent place.name k
  pub low : (place : Place) (k : ℕ) → numbers place ≡ Some k → k < n
  pub known : (a k : ℕ) (name : List ℕ) → k < n → IsChild items a name k → numbers (at_name a name) ≡ Some k

-- all numbers below n keep the rules, and stand in the index
pub record IsLoaded (items : Items) (n : ℕ) (numbers : Numbers) : Type 0 where
  pub below : (m : ℕ) → m < n → FollowsRules items m
  pub index_is : IsIndexBelow items n numbers
