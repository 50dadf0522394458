-- Keys that rise: what a binary search finds among them, and what an edit at its place leaves.
use Rattle.std.proofs.Common.{◌≡◌, ℕ, zero, suc, ◌+◌, ◌<◌, ◌≤◌, Bool, true, false, cond, if◌then◌else◌, ◌||◌, List, [], ◌∷◌, length, get_or, HoldsAt, refl, sym, ◌∙◌, ap, subst, ⊎_elim, arith, rules}
use Rattle.std.specs.BTreeMap.{is_at}
use Rattle.std.specs.BTreeSet.{insert_key}
use Rattle.std.specs.Cmp.{IsTotalOrder}
use Rattle.std.specs.Cmp.Rules.{comparing}
use Rattle.std.specs.List.{AllByRecursion, list_any, insert, remove}
use Rattle.std.specs.List.Sorted.{IsStrictlySortedBy, IsNonDecreasingBy, IsPartitionPoint}
use Rattle.std.specs.Ordering.{match_ordering, ordering_index, ordering_reverse, is_eq}
use Rattle.std.specs.Set.{remove_key}
use Rattle.std.specs.declared.cmp.Ordering.{Ordering}
use Rattle.std.specs.declared.cmp.Ordering.TheVariants.{Less, Equal, Greater}
use Rattle.std.proofs.lemmas.Bool.{cases_lt}
use Rattle.std.proofs.lemmas.Map.Keys.{Less-from_sorted}
use Rattle.tm_base.specs.Paths.{path_cmp}

pub path_total : IsTotalOrder path_cmp
path_total = search (comparing, rules)

abbrev pub IsGap : {K : Type 0} → (K → K → Ordering) → K → List K → ℕ → Type 0
IsGap cmp x ks i = IsPartitionPoint (λ y. cmp y x ≡ Less) (λ y. cmp y x ≡ Greater) ks i

module _ {K : Type 0} {cmp : K → K → Ordering} (total : IsTotalOrder cmp) where
  turned : (x y : K) (o : Ordering) → cmp x y ≡ o → cmp y x ≡ ordering_reverse o
  turned x y o is = total.antisymm y x ∙ ap ordering_reverse is

  -- what is below a key is below its equal
  below_equal : (a b x : K) → cmp a b ≡ Less → cmp b x ≡ Equal → cmp a x ≡ Less
  below_equal a b x lt same = turned x a Greater (total.congr x b a (turned b x Equal same) ∙ turned a b Less lt)

  step : (a b x : K) → cmp a b ≡ Less → ordering_index (cmp a x) ≤ ordering_index (cmp b x)
  step a b x lt = by (cmp b x) refl
    where
      most : (o : Ordering) → ordering_index o ≤ ordering_index Greater
      most Less = omega arith
      most Equal = omega arith
      most Greater = omega arith

      by : (o : Ordering) → cmp b x ≡ o → ordering_index (cmp a x) ≤ ordering_index o
      by Less e = subst (λ o. ordering_index o ≤ ordering_index Less) (sym (total.trans a b x lt e)) (omega arith)
      by Equal e = subst (λ o. ordering_index o ≤ ordering_index Equal) (sym (below_equal a b x lt e)) (omega arith)
      by Greater e = most (cmp a x)

  -- the comparisons rise along keys that rise
  pub comparisons_rise : (x : K) (ks : List K) → IsStrictlySortedBy cmp ks → IsNonDecreasingBy (λ y. ordering_index (cmp y x)) ks
  comparisons_rise x ks sorted i j d le lt = ⊎_elim
      (λ (before : i < j). step (get_or ks i d) (get_or ks j d) x (Less-from_sorted cmp ks i j d sorted before lt))
      (λ (here : j ≤ i). let same : i ≡ j = omega arith in subst (λ k. ordering_index (cmp (get_or ks i d) x) ≤ ordering_index (cmp (get_or ks k d) x)) same (omega arith))
      (cases_lt i j)

  -- ---- at the place of a key that is there

  head_below : (x y : K) (ks : List K) (i : ℕ) → IsStrictlySortedBy cmp (y ∷ ks) → i < length ks → HoldsAt (λ z. cmp z x ≡ Equal) ks i → cmp x y ≡ Greater
  head_below x y ks i sorted lt here = turned y x Less (below_equal y (get_or ks i y) x (Less-from_sorted cmp (y ∷ ks) 0 (suc i) y sorted (omega arith) (omega arith)) (here y))

  -- it isn't set again
  pub insert_there : (x : K) (ks : List K) (i : ℕ) → IsStrictlySortedBy cmp ks → i < length ks → HoldsAt (λ z. cmp z x ≡ Equal) ks i → insert_key cmp ks x ≡ ks
  unfolding IsStrictlySortedBy
  insert_there x [] i sorted lt here = absurd (omega (arith, lt))
  insert_there x (y ∷ ks) zero sorted lt here = ap (λ o. match_ordering o (x ∷ y ∷ ks) (y ∷ ks) (y ∷ insert_key cmp ks x)) (turned y x Equal (here y))
  insert_there x (y ∷ ks) (suc i) sorted lt here =
      let less : i < length ks = omega (arith, lt) in
      ap (λ o. match_ordering o (x ∷ y ∷ ks) (y ∷ ks) (y ∷ insert_key cmp ks x)) (head_below x y ks i sorted less (λ d. here d))
      ∙ ap (λ (l : List K). y ∷ l) (insert_there x ks i sorted.1 less (λ d. here d))

  -- it is taken out
  pub remove_there : (x : K) (ks : List K) (i : ℕ) → IsStrictlySortedBy cmp ks → i < length ks → HoldsAt (λ z. cmp z x ≡ Equal) ks i → remove ks i ≡ remove_key (is_at (cmp x)) ks
  unfolding IsStrictlySortedBy
  remove_there x [] i sorted lt here = absurd (omega (arith, lt))
  remove_there x (y ∷ ks) zero sorted lt here = sym (ap (λ o. cond (is_eq o) ks (y ∷ remove_key (is_at (cmp x)) ks)) (turned y x Equal (here y)))
  remove_there x (y ∷ ks) (suc i) sorted lt here =
      let less : i < length ks = omega (arith, lt) in
      ap (λ (l : List K). y ∷ l) (remove_there x ks i sorted.1 less (λ d. here d))
      ∙ sym (ap (λ o. cond (is_eq o) ks (y ∷ remove_key (is_at (cmp x)) ks)) (head_below x y ks i sorted less (λ d. here d)))

  -- ---- in the gap for a key

  first_above : (x y : K) (ks : List K) → IsGap cmp x (y ∷ ks) 0 → cmp x y ≡ Less
  first_above x y ks gap = turned y x Greater (gap.1 0 y (omega arith) (omega arith))

  first_below : (x y : K) (ks : List K) (i : ℕ) → IsGap cmp x (y ∷ ks) (suc i) → cmp x y ≡ Greater
  first_below x y ks i gap = turned y x Less (gap.0 0 y (omega arith) (omega arith))

  later_gap : (x y : K) (ks : List K) (i : ℕ) → IsGap cmp x (y ∷ ks) (suc i) → IsGap cmp x ks i
  later_gap x y ks i gap = (λ k d low high. gap.0 (suc k) d (omega arith) (omega arith), λ k d low high. gap.1 (suc k) d (omega arith) (omega arith))

  early_gap : (x y : K) (ks : List K) → IsGap cmp x (y ∷ ks) 0 → IsGap cmp x ks 0
  early_gap x y ks gap = (λ k d low high. absurd (omega (arith, high)), λ k d low high. gap.1 (suc k) d (omega arith) (omega arith))

  -- it is set there
  pub insert_gap : (x : K) (ks : List K) (i : ℕ) → i ≤ length ks → IsGap cmp x ks i → insert ks i x ≡ insert_key cmp ks x
  insert_gap x [] zero le gap = refl
  insert_gap x [] (suc i) le gap = absurd (omega (arith, le))
  insert_gap x (y ∷ ks) zero le gap = sym (ap (λ o. match_ordering o (x ∷ y ∷ ks) (y ∷ ks) (y ∷ insert_key cmp ks x)) (first_above x y ks gap))
  insert_gap x (y ∷ ks) (suc i) le gap =
      ap (λ (l : List K). y ∷ l) (insert_gap x ks i (omega (arith, le)) (later_gap x y ks i gap))
      ∙ sym (ap (λ o. match_ordering o (x ∷ y ∷ ks) (y ∷ ks) (y ∷ insert_key cmp ks x)) (first_below x y ks i gap))

  -- it isn't there
  pub none_in_gap : (x : K) (ks : List K) (i : ℕ) → i ≤ length ks → IsGap cmp x ks i → list_any (is_at (cmp x)) ks ≡ false
  none_in_gap x [] i le gap = refl
  none_in_gap x (y ∷ ks) zero le gap = rw (first_above x y ks gap) (none_in_gap x ks 0 (omega arith) (early_gap x y ks gap))
  none_in_gap x (y ∷ ks) (suc i) le gap = rw (first_below x y ks i gap) (none_in_gap x ks i (omega (arith, le)) (later_gap x y ks i gap))

  -- nothing is taken out
  pub remove_gap : (x : K) (ks : List K) (i : ℕ) → i ≤ length ks → IsGap cmp x ks i → ks ≡ remove_key (is_at (cmp x)) ks
  remove_gap x [] i le gap = refl
  remove_gap x (y ∷ ks) zero le gap = rw (first_above x y ks gap) (ap (λ (l : List K). y ∷ l) (remove_gap x ks 0 (omega arith) (early_gap x y ks gap)))
  remove_gap x (y ∷ ks) (suc i) le gap = rw (first_below x y ks i gap) (ap (λ (l : List K). y ∷ l) (remove_gap x ks i (omega (arith, le)) (later_gap x y ks i gap)))

  -- ---- the order is kept

  above_all : (x y : K) (ks : List K) → cmp x y ≡ Less → AllByRecursion (λ z. cmp y z ≡ Less) ks → AllByRecursion (λ z. cmp x z ≡ Less) ks
  above_all x y [] lt all = tt
  above_all x y (z ∷ ks) lt all = (total.trans x y z lt all.0, above_all x y ks lt all.1)

  each_inserted : (P : K → Type 0) (x : K) (ks : List K) → AllByRecursion P ks → P x → AllByRecursion P (insert_key cmp ks x)
  each_inserted P x [] all p = (p, tt)
  each_inserted P x (y ∷ ks) all p = by (cmp x y) (each_inserted P x ks all.1 p)
    where
      by : (o : Ordering) → AllByRecursion P (insert_key cmp ks x) → AllByRecursion P (match_ordering o (x ∷ y ∷ ks) (y ∷ ks) (y ∷ insert_key cmp ks x))
      by Less more = (p, all)
      by Equal more = all
      by Greater more = (all.0, more)

  pub insert_sorted : (x : K) (ks : List K) → IsStrictlySortedBy cmp ks → IsStrictlySortedBy cmp (insert_key cmp ks x)
  unfolding IsStrictlySortedBy
  insert_sorted x [] sorted = (tt, tt)
  insert_sorted x (y ∷ ks) sorted = by (cmp x y) refl (insert_sorted x ks sorted.1)
    where
      by : (o : Ordering) → cmp x y ≡ o → IsStrictlySortedBy cmp (insert_key cmp ks x) → IsStrictlySortedBy cmp (match_ordering o (x ∷ y ∷ ks) (y ∷ ks) (y ∷ insert_key cmp ks x))
      by Less e more = ((e, above_all x y ks e sorted.0), sorted)
      by Equal e more = sorted
      by Greater e more = (each_inserted (λ z. cmp y z ≡ Less) x ks sorted.0 (turned x y Greater e), more)

  none_above : (x : K) (ks : List K) → AllByRecursion (λ z. cmp x z ≡ Less) ks → list_any (is_at (cmp x)) ks ≡ false
  none_above x [] all = refl
  none_above x (y ∷ ks) all = rw all.0 (none_above x ks all.1)

  -- there is one key more, unless it was there
  pub insert_length : (x : K) (ks : List K) → IsStrictlySortedBy cmp ks → length (insert_key cmp ks x) ≡ (if list_any (is_at (cmp x)) ks then length ks else length ks + 1)
  unfolding IsStrictlySortedBy
  insert_length x [] sorted = refl
  insert_length x (y ∷ ks) sorted = by (cmp x y) refl (insert_length x ks sorted.1)
    where
      one_more : (b : Bool) (n : ℕ) → n ≡ (if b then length ks else length ks + 1) → suc n ≡ (if b then suc (length ks) else suc (length ks) + 1)
      one_more true n is = ap suc is
      one_more false n is = omega (arith, is)

      by : (o : Ordering) → cmp x y ≡ o → length (insert_key cmp ks x) ≡ (if list_any (is_at (cmp x)) ks then length ks else length ks + 1)
          → length (match_ordering o (x ∷ y ∷ ks) (y ∷ ks) (y ∷ insert_key cmp ks x)) ≡ (if is_eq o || list_any (is_at (cmp x)) ks then suc (length ks) else suc (length ks) + 1)
      by Less e more = rw (none_above x ks (above_all x y ks e sorted.0)) (omega arith)
      by Equal e more = refl
      by Greater e more = one_more (list_any (is_at (cmp x)) ks) (length (insert_key cmp ks x)) more

module _ {K : Type 0} (cmp : K → K → Ordering) (test : K → Bool) where
  each_left : (P : K → Type 0) (ks : List K) → AllByRecursion P ks → AllByRecursion P (remove_key test ks)
  each_left P [] all = tt
  each_left P (y ∷ ks) all = by (test y) (each_left P ks all.1)
    where
      by : (b : Bool) → AllByRecursion P (remove_key test ks) → AllByRecursion P (cond b ks (y ∷ remove_key test ks))
      by true more = all.1
      by false more = (all.0, more)

  pub remove_sorted : (ks : List K) → IsStrictlySortedBy cmp ks → IsStrictlySortedBy cmp (remove_key test ks)
  unfolding IsStrictlySortedBy
  remove_sorted [] sorted = tt
  remove_sorted (y ∷ ks) sorted = by (test y) (remove_sorted ks sorted.1)
    where
      by : (b : Bool) → IsStrictlySortedBy cmp (remove_key test ks) → IsStrictlySortedBy cmp (cond b ks (y ∷ remove_key test ks))
      by true more = sorted.1
      by false more = (each_left (λ z. cmp y z ≡ Less) ks sorted.0, more)

  pub remove_shorter : (ks : List K) → length (remove_key test ks) ≤ length ks
  remove_shorter [] = omega arith
  remove_shorter (y ∷ ks) = by (test y) (remove_shorter ks)
    where
      by : (b : Bool) → length (remove_key test ks) ≤ length ks → length (cond b ks (y ∷ remove_key test ks)) ≤ suc (length ks)
      by true le = omega arith
      by false le = omega (arith, le)
