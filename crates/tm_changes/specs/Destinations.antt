-- Where a new item would stand.
use Rattle.std.specs.Prelude.{◌≡◌, ℕ, ◌+◌, Bool, true, false, not, is_some, Option, Some, None, Result, Ok, Err, ◌∷◌, ◌++◌}
use Rattle.tm_base.specs.declared.refused.LineFault.{LineFault}
use Rattle.tm_base.specs.declared.refused.LineFault.TheVariants.{Refused as RefusedFor, Fault, Memory}
use Rattle.tm_base.specs.declared.refused.Refused.TheVariants.{NotFound, Exists, NotFolder}
use Rattle.tm_tree.specs.Changes.{most_items, place_tests}
use Rattle.tm_tree.specs.Refusing.{Tests, first_refused, too_many, needs_moment}
use Rattle.tm_base.specs.Paths.{Names, parent_of}
use Rattle.tm_base.specs.declared.refused.Refused.{Refused}
use Rattle.tm_items.specs.Placings.{Items, Walks}
use Rattle.tm_tree.specs.Trees.{Tree, folder_at, item_at}
use Rattle.tm_tree.specs.Walks.{way, way_of, is_nowhere, is_at_folder}
use Rattle.tm_changes.specs.declared.destination.Destination.{Destination}
use Rattle.tm_changes.specs.declared.destination.Destination.TheVariants.{Nowhere, NoFolder, Folder}

-- the walk to the folder of p comes to the folder k
pub record LeadsInto (items : Items) (t : Tree) (p : Names) (k : ℕ) : Type 0 where
  pub walks : Walks items 1 (parent_of p) k
  pub stands : is_some (items k) ≡ true
  pub nowhere : is_nowhere (way t (parent_of p)) ≡ false
  pub at_folder : is_at_folder (way t (parent_of p)) ≡ true
  pub folder : folder_at t (parent_of p) ≡ true

-- where the walk to the folder of p ends
abbrev pub MeetsDestination : Items → Tree → Names → Destination → Type 0
MeetsDestination items t p Nowhere = is_nowhere (way t (parent_of p)) ≡ true
MeetsDestination items t p NoFolder = (is_nowhere (way t (parent_of p)) ≡ false) × (is_at_folder (way t (parent_of p)) ≡ false)
MeetsDestination items t p (Folder k) = LeadsInto items t p k

-- a walk that stops for this reason
abbrev pub IsStopped : Refused → Destination → Type 0
IsStopped why Nowhere = is_nowhere (way_of (Err why)) ≡ true
IsStopped why NoFolder = (is_nowhere (way_of (Err why)) ≡ false) × (is_at_folder (way_of (Err why)) ≡ false)
IsStopped why (Folder k) = ⊥

-- ---- the tests of a new folder or link

abbrev pub goes_nowhere : Destination → Bool
goes_nowhere Nowhere = true
goes_nowhere NoFolder = false
goes_nowhere (Folder k) = false

abbrev pub goes_into_folder : Destination → Bool
goes_into_folder Nowhere = false
goes_into_folder NoFolder = false
goes_into_folder (Folder k) = true

-- by where the walk ends, whether something stands there, and how many items there are
abbrev pub folder_tests : Destination → Bool → ℕ → Option ℕ → Tests
folder_tests into there count moment =
    (goes_nowhere into, NotFound) ∷ (there, Exists) ∷ (not (goes_into_folder into), NotFolder) ∷ too_many most_items (count + 1) ++ needs_moment moment

-- what a call answers that looks for the folder of a new folder or link
abbrev pub FindsFolder : Items → Tree → Names → Option ℕ → Type 0 → Result ℕ LineFault → Type 0
FindsFolder items t p moment Good (Ok k) = LeadsInto items t p k × (item_at t p ≡ None) × (is_some moment ≡ true) × (Good → first_refused (place_tests t p ++ needs_moment moment) ≡ None)
FindsFolder items t p moment Good (Err (RefusedFor why)) = Good → first_refused (place_tests t p ++ needs_moment moment) ≡ Some why
FindsFolder items t p moment Good (Err (Fault side)) = ⊥
FindsFolder items t p moment Good (Err Memory) = Unit {0}
