-- The numbers of the items of each folder, by name.
use Rattle.std.specs.Prelude.{◌≡◌, ℕ, if◌then◌else◌, Option, Some, None, List, map}
use Rattle.std.specs.BTreeMap.{BTreeMap, is_at}
use Rattle.std.specs.Map.{lookup}
use Rattle.std.specs.Ordering.{nat_cmp}
use Rattle.tm_base.specs.Paths.{name_cmp}
use Rattle.tm_items.specs.Index.{Numbers}

-- the numbers of one folder, by rising name
abbrev pub NumbersByName : Type 0
NumbersByName = List (List ℕ × ℕ)

abbrev pub number_named : Option NumbersByName → Option (List ℕ) → Option ℕ
number_named None name = None
number_named (Some named) None = None
number_named (Some named) (Some name) = lookup (is_at (name_cmp name)) named

-- the folders that have numbers, by rising number
abbrev pub Folders : Type 0
Folders = List (ℕ × NumbersByName)

-- the number at each place
abbrev pub numbers_in : Folders → Numbers
numbers_in folders = λ place. number_named (lookup (is_at (nat_cmp place.parent)) folders) place.name

-- ---- as maps

-- the folders of a map of maps
abbrev pub folders_of : List (ℕ × BTreeMap (List ℕ) ℕ) → Folders
folders_of folders = map (λ row. (row.0, row.1.entries)) folders

-- a folder with another answer at one name
pub record SetsName (name : List ℕ) (o : Option ℕ) (old : Option NumbersByName) (new : NumbersByName) : Type 0 where
  pub at : (q : List ℕ) → lookup (is_at (name_cmp q)) new ≡ (if is_at (name_cmp name) q then o else number_named old (Some q))
