-- Paths as lists of names: their order, prefixes and parents.
use Rattle.std.specs.Prelude.{◌≡◌, ℕ, ◌-◌, ◌==◌, Bool, List, length, take, nat_eq}
use Rattle.std.specs.List.{starts_with}
use Rattle.std.specs.declared.cmp.Ordering.{Ordering}
use Rattle.std.specs.Cmp.Lexicographic.{slice_cmp, pointwise, lists_ties}
use Rattle.std.specs.Ordering.{nat_cmp, eq_by_cmp}
use Rattle.std.specs.Cmp.Rules.{comparing}
use Rattle.std.proofs.Common.{rules}

-- a name is a list of bytes, and a path a list of names from the root down
abbrev pub Names : Type 0
Names = List (List ℕ)

abbrev pub same_name : List ℕ → List ℕ → Bool
same_name a b = pointwise nat_eq a b

abbrev pub same_path : Names → Names → Bool
same_path p q = pointwise (pointwise nat_eq) p q

-- names by their bytes
abbrev pub name_cmp : List ℕ → List ℕ → Ordering
name_cmp = slice_cmp nat_cmp

-- paths by their names, an ancestor before what is beneath it
abbrev pub path_cmp : Names → Names → Ordering
path_cmp = slice_cmp name_cmp

-- what stands at q stands at p or beneath it
abbrev pub is_prefix : Names → Names → Bool
is_prefix p q = starts_with (pointwise nat_eq) q p

abbrev pub is_root : Names → Bool
is_root p = length p == 0

-- the folder that holds what stands at p; the root's own path for the root
abbrev pub parent_of : Names → Names
parent_of p = take (length p - 1) p

name_ties : (x y : List ℕ) → pointwise nat_eq x y ≡ eq_by_cmp name_cmp x y
name_ties = lists_ties nat_cmp (search (comparing, rules))

-- two paths are the same exactly where they tie in the order
pub path_ties : (x y : Names) → same_path x y ≡ eq_by_cmp path_cmp x y
path_ties = lists_ties name_cmp name_ties
