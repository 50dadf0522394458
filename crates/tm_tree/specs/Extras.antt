-- Extra attributes: values by name.
use Rattle.std.specs.Prelude.{ℕ, Option, List}
use Rattle.std.specs.Map.{lookup, remove_entry}
use Rattle.std.specs.BTreeMap.{insert_entry, is_at}
use Rattle.tm_base.specs.Paths.{name_cmp}

abbrev pub Values : Type 0
Values = List (List ℕ × List ℕ)

-- the value under a name
abbrev pub value_of : List ℕ → Values → Option (List ℕ)
value_of name extras = lookup (is_at (name_cmp name)) extras

abbrev pub with_extra : List ℕ → List ℕ → Values → Values
with_extra name value extras = insert_entry name_cmp extras name value

abbrev pub without_extra : List ℕ → Values → Values
without_extra name extras = remove_entry (is_at (name_cmp name)) extras
