-- Equal names and paths, and prefixes.
use Rattle.std.proofs.Common.{◌≡◌, ℕ, true, List, [], ◌∷◌, ◌++◌, length, drop, nat_eq, refl, ap, ◌∙◌}
use Rattle.std.specs.Bool.{Decides}
use Rattle.std.specs.Cmp.{unsigned_Decides, tied_itself}
use Rattle.std.specs.Cmp.Lexicographic.{pointwise, pointwise_decides, nat_list_cmp_total}
use Rattle.std.specs.Ordering.{ordering_then}
use Rattle.std.specs.declared.cmp.Ordering.TheVariants.{Less}
use Rattle.std.proofs.lemmas.Slice.Eq.{starts_is}
use Rattle.tm_base.specs.Paths.{Names, same_path, path_cmp, is_prefix}

pub same_bytes : (x y : List ℕ) → Decides (pointwise nat_eq x y) (x ≡ y)
same_bytes = pointwise_decides unsigned_Decides

pub same_path_decides : (p q : Names) → Decides (same_path p q) (p ≡ q)
same_path_decides = pointwise_decides same_bytes

pub prefix_is : (p q : Names) → is_prefix p q ≡ true → q ≡ p ++ drop (length p) q
prefix_is p q h = (starts_is same_bytes q p (is_prefix p q) refl).0 h

pub is_prefix_of_append : (p q rest : Names) → q ≡ p ++ rest → is_prefix p q ≡ true
is_prefix_of_append p q rest e = (starts_is same_bytes q p (is_prefix p q) refl).1 rest e

-- what follows a common front decides
pub path_cmp-append : (p u v : Names) → path_cmp (p ++ u) (p ++ v) ≡ path_cmp u v
path_cmp-append [] u v = refl
path_cmp-append (n ∷ p) u v = ap (λ o. ordering_then o (path_cmp (p ++ u) (p ++ v))) (tied_itself nat_list_cmp_total n) ∙ path_cmp-append p u v

pub ancestor_less : (p : Names) (name : List ℕ) (rest : Names) → path_cmp p (p ++ name ∷ rest) ≡ Less
ancestor_less [] name rest = refl
ancestor_less (n ∷ p) name rest = ap (λ o. ordering_then o (path_cmp p (p ++ name ∷ rest))) (tied_itself nat_list_cmp_total n) ∙ ancestor_less p name rest
