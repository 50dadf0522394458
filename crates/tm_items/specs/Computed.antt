-- The tree of numbered items, computed from their list.
use Rattle.std.specs.Prelude.{◌≡◌, ℕ, zero, suc, ◌-◌, ◌==◌, if◌then◌else◌, Option, Some, None, List, [], ◌∷◌, ◌++◌, length, map, slice_get}
use Rattle.std.specs.List.{sum_by}
use Rattle.std.specs.List.Sorted.{IsStrictlySortedBy}
use Rattle.std.specs.Map.{lookup, keys_of}
use Rattle.std.specs.BTreeMap.{is_at}
use Rattle.std.specs.Ordering.{nat_cmp}
use Rattle.tm_base.specs.Paths.{Names}
use Rattle.tm_tree.specs.declared.item.Item.{Item}
use Rattle.tm_tree.specs.Trees.{Tree, IsTree, put_all}
use Rattle.tm_items.specs.Placings.{Placed, Items, ReadsAs}
use Rattle.tm_items.specs.Rules.{IsSound}

-- items by rising number
abbrev pub Placings : Type 0
Placings = List (ℕ × Placed)

abbrev pub items_of : Placings → Items
items_of placings = λ n. lookup (is_at (nat_cmp n)) placings

abbrev pub AreNumbered : Placings → Type 0
AreNumbered placings = IsStrictlySortedBy nat_cmp (keys_of placings)

-- a name more at the end of a path
abbrev pub under : Names → Option (List ℕ) → Names
under p None = p
under p (Some name) = p ++ name ∷ []

abbrev pub path_on : Option Placed → (ℕ → Names) → Names
path_on None up = []
path_on (Some x) up = under (up x.parent) x.name

-- the path of a number, by a walk over parents of so many steps
unfoldable pub path_to : ℕ → Items → ℕ → Names
path_to zero items n = []
path_to (suc steps) items n = if n == 1 then [] else path_on (items n) (path_to steps items)

-- each item at its path
abbrev pub placed_rows : Items → Placings → Tree
placed_rows items placings = map (λ row. (path_to 64 items row.0, row.1.item)) placings

unfoldable pub tree_of : Placings → Tree
tree_of placings = put_all [] (placed_rows (items_of placings) placings)

-- sound items read as a tree, and it is the one that is computed
abbrev pub SoundReads : Type 0
SoundReads = (placings : Placings) → AreNumbered placings → IsSound (items_of placings)
    → ReadsAs (items_of placings) (tree_of placings) × IsTree (tree_of placings)

-- the last name of a path, which the root's path lacks
abbrev pub last_name : Names → Option (List ℕ)
last_name p = slice_get p (length p - 1)

-- what the items of a tree weigh together, by a weight of each name and item, is what the numbered items weigh
abbrev pub WeighsAlike : Type 0
WeighsAlike = (w : Option (List ℕ) → Item → ℕ) (placings : Placings) (t : Tree) → AreNumbered placings → IsSound (items_of placings)
    → ReadsAs (items_of placings) t → sum_by (λ row. w (last_name row.0) row.1) t ≡ sum_by (λ row. w row.1.name row.1.item) placings

-- there are as many items as paths
abbrev pub CountsAlike : Type 0
CountsAlike = (placings : Placings) (t : Tree) → AreNumbered placings → IsSound (items_of placings) → ReadsAs (items_of placings) t
    → length t ≡ length placings
