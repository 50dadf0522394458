-- Whether a name is among the extras.
use Rattle.std.proofs.Common.{◌≡◌, ℕ, ◌||◌, List, [], ◌∷◌, is_some, cond, true, false, Some, refl, ◌∙◌}
use Rattle.std.specs.BTreeMap.{is_at}
use Rattle.std.specs.Cmp.Lexicographic.{nat_list_eq_equiv, texts_ties}
use Rattle.std.specs.List.{list_any}
use Rattle.std.specs.Map.{keys_of}
use Rattle.tm_base.specs.Paths.{same_name, name_cmp}
use Rattle.tm_tree.specs.Extras.{Values, value_of}

same_is_at : (name other : List ℕ) → same_name other name ≡ is_at (name_cmp name) other
same_is_at name other = nat_list_eq_equiv.symm other name ∙ texts_ties name other

pub any_is_value : (name : List ℕ) (t : Values) → list_any (λ other. same_name other name) (keys_of t) ≡ is_some (value_of name t)
any_is_value name [] = refl
any_is_value name (row ∷ t) =
    rw (same_is_at name row.0)
    (elim (is_at (name_cmp name) row.0) as (λ b. (b || list_any (λ other. same_name other name) (keys_of t)) ≡ is_some (cond b (Some row.1) (value_of name t))) [
      | true ↦ refl
      | false ↦ any_is_value name t
    ])
