-- Numbered rows by their places.
use Rattle.std.proofs.Common.{zero, suc, ◌≡◌, ◌≢◌, ℕ, ◌+◌, ◌<◌, ◌≤◌, cond, Option, Some, None, List, [], ◌∷◌, length, get_or, refl, sym, ap, ◌∙◌, arith, subst, ⊎_elim}
use Rattle.std.specs.declared.cmp.Ordering.TheVariants.{Less, Equal, Greater}
use Rattle.std.specs.Ordering.{nat_cmp, ordering_reverse, is_lt, is_eq, ordering_index}
use Rattle.std.specs.Cmp.{nat_cmp_total}
use Rattle.std.specs.List.{AllByRecursion, slice_get}
use Rattle.std.specs.List.Sorted.{IsSortedBy, IsNonDecreasingBy, IsPartitionPoint}
use Rattle.std.specs.Map.{keys_of}
use Rattle.std.proofs.lemmas.List.Sorted.{searchable_from_sorted}
use Rattle.std.proofs.lemmas.Option.{slice_get-get_or, get_or_from_slice_get}
use Rattle.std.proofs.lemmas.Bool.{cases_lt, cases_eq}
use Rattle.tm_base.proofs.Facts.{false_true}
use Rattle.tm_store_records.proofs.NextKeyLemmas.{Sorted, at, at_same, at_other, less_lt, lt_less, head_above, tail_sorted}

pub equal_is : (a b : ℕ) → nat_cmp a b ≡ Equal → a ≡ b
equal_is a b e = ⊎_elim
    (λ (lt : a < b). let bad : Less ≡ Equal = sym (lt_less a b lt) ∙ e in cc)
    (λ (le : b ≤ a). ⊎_elim
    (λ (gt : b < a). let bad : Greater ≡ Equal = sym (nat_cmp_total.antisymm a b ∙ ap ordering_reverse (lt_less b a gt)) ∙ e in cc)
    (λ (ge : a ≤ b). omega arith)
    (cases_lt b a))
    (cases_lt a b)

module _ {X : Type 0} where
  -- what stands at a place has a number above the first
  above_first : (low : ℕ) (g : List (ℕ × X)) (i : ℕ) (e : ℕ × X) → AllByRecursion (λ y. nat_cmp low y ≡ Less) (keys_of g) → slice_get g i ≡ Some e → low < e.0
  above_first low [] i e above is = absurd (cc is)
  above_first low (f ∷ g) zero e above is = let same : f ≡ e = cc in subst (λ (x : ℕ × X). low < x.0) same (less_lt low f.0 above.0)
  above_first low (f ∷ g) (suc i) e above is = above_first low g i e above.1 is

  -- numbers rise with places
  pub rises : (g : List (ℕ × X)) (i j : ℕ) (e f : ℕ × X) → Sorted g → slice_get g i ≡ Some e → slice_get g j ≡ Some f → i < j → e.0 < f.0
  rises [] i j e f s a b lt = absurd (cc a)
  rises (x ∷ g) zero zero e f s a b lt = absurd (omega arith)
  rises (x ∷ g) zero (suc j) e f s a b lt = let same : x ≡ e = cc in subst (λ (y : ℕ × X). y.0 < f.0) same (above_first x.0 g j f (head_above x g s) b)
  rises (x ∷ g) (suc i) zero e f s a b lt = absurd (omega arith)
  rises (x ∷ g) (suc i) (suc j) e f s a b lt = rises g i j e f (tail_sorted x g s) a b (omega arith)

  -- so a lower number has a lower place
  pub placed_below : (g : List (ℕ × X)) (i j : ℕ) (e f : ℕ × X) → Sorted g → slice_get g i ≡ Some e → slice_get g j ≡ Some f → e.0 < f.0 → i < j
  placed_below g i j e f s a b lt = ⊎_elim
      (λ (here : i < j). here)
      (λ (le : j ≤ i). ⊎_elim
      (λ (after : j < i). absurd (omega (arith, rises g j i f e s b a after, lt)))
      (λ (ge : i ≤ j). let same : i ≡ j = omega arith in let both : Some e ≡ Some f = sym a ∙ ap (slice_get g) same ∙ b in let rows : e ≡ f = cc in absurd (omega (arith, lt, ap (λ (x : ℕ × X). x.0) rows)))
      (cases_lt j i))
      (cases_lt i j)

  -- what stands at a place is found under its number
  pub at_place : (g : List (ℕ × X)) (i : ℕ) (e : ℕ × X) → Sorted g → slice_get g i ≡ Some e → at g e.0 ≡ Some e.1
  at_place [] i e s is = absurd (cc is)
  at_place (f ∷ g) zero e s is = let same : f ≡ e = cc in subst (λ (x : ℕ × X). at (f ∷ g) x.0 ≡ Some x.1) same (ap (λ b. cond b (Some f.1) (at g f.0)) (at_same f.0 f.0 refl))
  at_place (f ∷ g) (suc i) e s is =
      let lt = above_first f.0 g i e (head_above f g s) is in
      ap (λ b. cond b (Some f.1) (at g e.0)) (at_other e.0 f.0 (λ same. absurd (omega (arith, lt, same)))) ∙ at_place g i e (tail_sorted f g s) is

  -- and what is found stands at a place
  pub place_of : (g : List (ℕ × X)) (n : ℕ) (x : X) → at g n ≡ Some x → (i : ℕ) × (slice_get g i ≡ Some (n, x))
  place_of [] n x is = absurd (cc is)
  place_of (e ∷ g) n x is = ⊎_elim
      (λ (same : n ≡ e.0).
      let here : Some e.1 ≡ Some x = sym (ap (λ b. cond b (Some e.1) (at g n)) (at_same n e.0 same)) ∙ is in
      let value : e.1 ≡ x = cc in
      (0, λ i. Some (sym same i, value i)))
      (λ (other : n ≢ e.0).
      let later = place_of g n x (sym (ap (λ b. cond b (Some e.1) (at g n)) (at_other n e.0 other)) ∙ is) in
      (suc later.0, later.1))
      (cases_eq n e.0)

  pub place_within : (g : List (ℕ × X)) (i : ℕ) (e : ℕ × X) → slice_get g i ≡ Some e → i < length g
  place_within [] i e is = absurd (cc is)
  place_within (f ∷ g) zero e is = omega arith
  place_within (f ∷ g) (suc i) e is = let low = place_within g i e is in omega (arith, low)

  -- ---- a search by halves

  pub searchable : (g : List (ℕ × X)) (n : ℕ) → Sorted g → IsNonDecreasingBy (λ e. ordering_index (nat_cmp e.0 n)) g
  searchable g n s = searchable_from_sorted nat_cmp_total (λ e. e.0) g n sorted
    where
      sorted : IsSortedBy (λ a b. is_lt (nat_cmp a.0 b.0)) g
      sorted k d l m =
          let low : k < length g = omega arith in
          let lt = rises g k (k + 1) (get_or g k d) (get_or g (k + 1) d) s (slice_get-get_or g k d low) (slice_get-get_or g (k + 1) d m) (omega arith) in
          ap is_lt (nat_cmp_total.antisymm (get_or g (k + 1) d).0 (get_or g k d).0 ∙ ap ordering_reverse (lt_less _ _ lt))

  pub found : (g : List (ℕ × X)) (n i : ℕ) (d : ℕ × X) → Sorted g → i < length g → nat_cmp (get_or g i d).0 n ≡ Equal → at g n ≡ Some (get_or g i d).1
  found g n i d s low e = subst (λ q. at g q ≡ Some (get_or g i d).1) (equal_is _ _ e) (at_place g i (get_or g i d) s (slice_get-get_or g i d low))

  pub not_found : (g : List (ℕ × X)) (n place : ℕ) → Sorted g → IsPartitionPoint (λ e. nat_cmp e.0 n ≡ Less) (λ e. nat_cmp e.0 n ≡ Greater) g place → at g n ≡ None
  not_found g n place s part = by_value (at g n) refl
    where
      at_index : (i : ℕ) (x : X) → slice_get g i ≡ Some (n, x) → ⊥
      at_index i x is =
          let d : ℕ × X = (n, x) in
          let here : get_or g i d ≡ d = get_or_from_slice_get g i d d is in
          ⊎_elim
          (λ (before : i < place). false_true (sym (ap is_eq (subst (λ (e : ℕ × X). nat_cmp e.0 n ≡ Less) here (part.0 i d (omega arith) before))) ∙ at_same n n refl))
          (λ (after : place ≤ i). false_true (sym (ap is_eq (subst (λ (e : ℕ × X). nat_cmp e.0 n ≡ Greater) here (part.1 i d after (place_within g i d is)))) ∙ at_same n n refl))
          (cases_lt i place)

      by_value : (o : Option X) → at g n ≡ o → at g n ≡ None
      by_value None e = e
      by_value (Some x) e = let p = place_of g n x e in absurd (at_index p.0 x p.1)
