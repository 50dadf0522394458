-- The rules of numbered items.
use Rattle.std.specs.Prelude.{◌≡◌, ℕ, zero, suc, ◌<◌, ◌==◌, Bool, true, false, not, ◌&&◌, if◌then◌else◌, Option, Some, None, is_some}
use Rattle.tm_tree.specs.Items.{is_folder, is_excluded}
use Rattle.tm_items.specs.Placings.{Placed, Items}

abbrev pub is_folder_placed : Option Placed → Bool
is_folder_placed None = false
is_folder_placed (Some x) = is_folder x.item

abbrev pub climbs_on : Option Placed → (ℕ → Bool) → Bool
climbs_on None up = false
climbs_on (Some x) up = up x.parent

-- whether the walk over parents comes to number 1 within so many steps
unfoldable pub climbs : ℕ → Items → ℕ → Bool
climbs zero items n = n == 1
climbs (suc steps) items n = if n == 1 then true else climbs_on (items n) (climbs steps items)

-- number 1 has the parent 0 and no name, is a folder and lacks the exclusion attribute
pub record IsRoot (x : Placed) : Type 0 where
  pub parent : x.parent ≡ 0
  pub name : x.name ≡ None
  pub folder : is_folder x.item ≡ true
  pub included : is_excluded x.item ≡ false

-- whether it may stand under number 1
abbrev pub is_root_placed : Option Placed → Bool
is_root_placed None = false
is_root_placed (Some x) = (x.parent == 0) && not (is_some x.name) && is_folder x.item && not (is_excluded x.item)

-- every other item has a name and stands in a folder; no other item with a lower number has its place, and it stands under
-- at most 64 names
pub record IsPlaced (items : Items) (n : ℕ) (x : Placed) : Type 0 where
  pub named : is_some x.name ≡ true
  pub in_folder : is_folder_placed (items x.parent) ≡ true
  pub first : (m : ℕ) (y : Placed) → m < n → items m ≡ Some y → y.parent ≡ x.parent → y.name ≡ x.name → (m == 1) ≡ true
  pub near : climbs 64 items n ≡ true

pub record RootStands (items : Items) : Type 0 where
  pub placed : Placed
  pub is : items 1 ≡ Some placed
  pub root : IsRoot placed

-- the rules of one number, against all items
pub record FollowsRules (items : Items) (n : ℕ) : Type 0 where
  pub root : n ≡ 1 → RootStands items
  pub placed : (x : Placed) → items n ≡ Some x → (n == 1) ≡ false → IsPlaced items n x

abbrev pub IsSound : Items → Type 0
IsSound items = (n : ℕ) → FollowsRules items n
