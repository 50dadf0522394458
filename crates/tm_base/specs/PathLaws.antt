-- What prefixes and the order of paths mean.
use Rattle.std.specs.Prelude.{◌≡◌, ◌↔◌, List, ℕ, true, ◌++◌, ◌∷◌}
use Rattle.std.specs.declared.cmp.Ordering.TheVariants.{Less}
use Rattle.tm_base.specs.Paths.{Names, path_cmp, is_prefix}

abbrev pub PrefixIsFront : Type 0
PrefixIsFront = (p q : Names) → (is_prefix p q ≡ true) ↔ ((rest : Names) × (q ≡ p ++ rest))

abbrev pub AncestorIsLess : Type 0
AncestorIsLess = (p : Names) (name : List ℕ) (rest : Names) → path_cmp p (p ++ name ∷ rest) ≡ Less
