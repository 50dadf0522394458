-- Sums over some of the nodes and over those that stay.
use Rattle.std.proofs.Common.{◌≡◌, ℕ, ◌+◌, true, false, cond, Option, None, List, [], ◌∷◌, refl, sym, ap, ◌∙◌, arith, zero-add, nat_eq, sum_by}
use Rattle.std.specs.Ordering.{nat_cmp, eq_by_cmp}
use Rattle.std.specs.Cmp.{eq_by_cmp_equiv, nat_cmp_total}
use Rattle.std.specs.List.{AllByRecursion, IsDistinct}
use Rattle.std.specs.List.Sorted.{IsStrictlySortedBy}
use Rattle.std.specs.Map.{lookup, keys_of, values_of, remove_entry}
use Rattle.std.specs.BTreeMap.{is_at}
use Rattle.std.specs.Option.{option_map, unwrap_or}
use Rattle.tm_graph.specs.Losing.{without_all}
use Rattle.std.proofs.lemmas.Map.{lookup-remove_entry}
use Rattle.std.proofs.lemmas.Map.Entries.{sum_by-remove_entry}
use Rattle.std.proofs.lemmas.Map.Keys.{IsDistinct-from_sorted}
use Rattle.std.proofs.lemmas.List.Sums.{sum_by-cons}
use Rattle.std.proofs.lemmas.Bool.Decides.{nat_tests}

-- a key of a map of numbers is told by `==`
pub at_is : (m q : ℕ) → is_at (nat_cmp m) q ≡ nat_eq m q
at_is m q = grind (arith, nat_tests)

module _ {X : Type 0} where
  abbrev pub Sorted : List (ℕ × X) → Type 0
  Sorted g = IsStrictlySortedBy nat_cmp (keys_of g)

  abbrev pub at : List (ℕ × X) → ℕ → Option X
  at g q = lookup (is_at (nat_cmp q)) g

  abbrev pub without : ℕ → List (ℕ × X) → List (ℕ × X)
  without m g = remove_entry (is_at (nat_cmp m)) g

  all_without : (P : ℕ → Type 0) (m : ℕ) (g : List (ℕ × X)) → AllByRecursion P (keys_of g) → AllByRecursion P (keys_of (without m g))
  all_without P m [] h = tt
  all_without P m (e ∷ g) h =
      elim (is_at (nat_cmp m) e.0) as (λ b. AllByRecursion P (keys_of (cond b g (e ∷ without m g)))) [ true ↦ h.1 | false ↦ (h.0, all_without P m g h.1) ]

  pub sorted_without : (m : ℕ) (g : List (ℕ × X)) → Sorted g → Sorted (without m g)
  unfolding IsStrictlySortedBy
  sorted_without m [] h = tt
  sorted_without m (e ∷ g) h =
      elim (is_at (nat_cmp m) e.0) as (λ b. Sorted (cond b g (e ∷ without m g))) [ true ↦ h.1 | false ↦ (all_without _ m g h.0, sorted_without m g h.1) ]

  pub at-without : (m q : ℕ) (g : List (ℕ × X)) → Sorted g → at (without m g) q ≡ cond (nat_eq m q) None (at g q)
  at-without m q g s =
      lookup-remove_entry (eq_by_cmp_equiv nat_cmp_total) (is_at (nat_cmp m)) alike q g (IsDistinct-from_sorted nat_cmp (keys_of g) s)
      ∙ ap (λ b. cond b None (at g q)) (at_is m q)
    where
      alike : (x y : ℕ) → is_at (nat_cmp m) x ≡ true → is_at (nat_cmp m) y ≡ eq_by_cmp nat_cmp x y
      alike x y h = grind (arith, nat_tests)

  -- what f weighs at a number
  abbrev pub weight : (X → ℕ) → List (ℕ × X) → ℕ → ℕ
  weight f g m = unwrap_or (option_map f (at g m)) 0

  same_weights : (f : X → ℕ) (g : List (ℕ × X)) (m : ℕ) (ms : List ℕ) → Sorted g → AllByRecursion (λ y. nat_eq m y ≡ false) ms → sum_by (weight f (without m g)) ms ≡ sum_by (weight f g) ms
  same_weights f g m [] s h = refl
  same_weights f g m (y ∷ ms) s h =
      let here = at-without m y g s ∙ ap (λ b. cond b None (at g y)) h.0 in
      sum_by-cons _ y ms ∙ ap (λ o. unwrap_or (option_map f o) 0 + sum_by (weight f (without m g)) ms) here
      ∙ ap (λ n. weight f g y + n) (same_weights f g m ms s h.1) ∙ sym (sum_by-cons _ y ms)

  -- a sum over all is that over some and that over the others
  pub sum-without_all : (f : X → ℕ) (ms : List ℕ) (g : List (ℕ × X)) → Sorted g → IsDistinct nat_eq ms → sum_by (weight f g) ms + sum_by f (values_of (without_all ms g)) ≡ sum_by f (values_of g)
  unfolding IsDistinct
  sum-without_all f [] g s d = zero-add _
  sum-without_all f (m ∷ ms) g s d =
      let rest = sum-without_all f ms (without m g) (sorted_without m g s) d.1 in
      let same = same_weights f g m ms s d.0 in
      let gone = sum_by-remove_entry f (is_at (nat_cmp m)) g in
      omega (arith, rest, same, gone, sum_by-cons (weight f g) m ms)
