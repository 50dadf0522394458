-- Places, and their order.
use Rattle.std.specs.Prelude.{ℕ, Option, Some, List}
use Rattle.std.specs.declared.cmp.Ordering.{Ordering}
use Rattle.std.specs.Ordering.{nat_cmp, ordering_then}
use Rattle.std.specs.Option.{option_cmp}
use Rattle.std.specs.Cmp.Lexicographic.{slice_cmp}
use Rattle.tm_base.specs.Paths.{Names}
use Rattle.tm_tree.specs.Trees.{last_of}
use Rattle.tm_items.specs.Placings.{Placed}

-- a folder, by its number, and a name there
pub record Place : Type 0 where
  pub parent : ℕ
  pub name : Option (List ℕ)

-- by the folder, then by the name; no name is below each name
abbrev pub place_cmp : Place → Place → Ordering
place_cmp a b = ordering_then (nat_cmp a.parent b.parent) (option_cmp (slice_cmp nat_cmp) a.name b.name)

-- a name in the folder k
abbrev pub at_name : ℕ → List ℕ → Place
at_name k called = record { parent = k; name = Some called }

-- the last name of p in the folder k
abbrev pub place_in : ℕ → Names → Place
place_in k p = at_name k (last_of p)

-- the place of an item
abbrev pub place_of : Placed → Place
place_of x = record { parent = x.parent; name = x.name }
