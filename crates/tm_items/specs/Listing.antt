-- A folder's entries in the index.
use Rattle.std.specs.Prelude.{◌≡◌, ℕ, Option, Some, None, List, [], ◌∷◌, ◌++◌}
use Rattle.std.specs.BTreeMap.{is_at}
use Rattle.std.specs.List.Sorted.{IsStrictlySortedBy}
use Rattle.std.specs.Map.{keys_of, lookup}
use Rattle.tm_base.specs.Paths.{Names, name_cmp}
use Rattle.tm_tree.specs.Trees.{Tree, children}
use Rattle.tm_items.specs.Placings.{Placed, Items, Walks}
use Rattle.tm_items.specs.Changes.{Are}
use Rattle.tm_items.specs.Index.{Numbers, IsIndex}
use Rattle.tm_items.specs.Places.{at_name}

-- these are the numbers of the folder k, by rising name
pub record AreEntries (numbers : Numbers) (k : ℕ) (entries : List (List ℕ × ℕ)) : Type 0 where
  pub in_order : IsStrictlySortedBy name_cmp (keys_of entries)
  pub are : (name : List ℕ) → lookup (is_at (name_cmp name)) entries ≡ numbers (at_name k name)

abbrev pub row_of : Names → List ℕ → Option Placed → Tree
row_of p name None = []
row_of p name (Some x) = (p ++ name ∷ [], x.item) ∷ []

-- the rows of a folder at p with these entries
abbrev pub rows_in : Items → Names → List (List ℕ × ℕ) → Tree
rows_in items p [] = []
rows_in items p (entry ∷ entries) = row_of p entry.0 (items entry.1) ++ rows_in items p entries

-- they are the children of the folder in the tree
abbrev pub ListsChildren : Type 0
ListsChildren = (items : Items) (t : Tree) (numbers : Numbers) (entries : List (List ℕ × ℕ)) (k : ℕ) (p : Names) → Are items t
    → IsIndex items numbers → AreEntries numbers k entries → Walks items 1 p k → rows_in items p entries ≡ children t p
