-- Tree in the order of their paths.
use Rattle.std.proofs.Common.{◌≡◌, Bool, true, false, cond, List, [], ◌∷◌, ◌++◌, filter, refl, sym, ap, ◌∙◌, append_assoc, append-nil}
use Rattle.std.specs.declared.cmp.Ordering.TheVariants.{Less, Greater}
use Rattle.std.specs.Ordering.{ordering_reverse}
use Rattle.std.specs.Cmp.{IsTotalOrder}
use Rattle.std.specs.Cmp.Lexicographic.{lists_total, nat_list_cmp_total}
use Rattle.std.specs.List.{AllByRecursion}
use Rattle.std.specs.List.Sorted.{IsStrictlySortedBy}
use Rattle.std.specs.Map.{keys_of}
use Rattle.tm_base.specs.Paths.{Names, path_cmp}
use Rattle.tm_tree.specs.Trees.{put, put_all}

pub path_total : IsTotalOrder path_cmp
path_total = lists_total nat_list_cmp_total

-- all paths of t satisfy P
abbrev pub AllPaths : {X : Type 0} → (Names → Type 0) → List (Names × X) → Type 0
AllPaths P t = AllByRecursion P (keys_of t)

abbrev pub InOrder : {X : Type 0} → List (Names × X) → Type 0
InOrder t = IsStrictlySortedBy path_cmp (keys_of t)

module _ {X : Type 0} where
  -- a row above all others goes to the end
  pub put_last : (t : List (Names × X)) (p : Names) (e : X) → AllPaths (λ q. path_cmp q p ≡ Less) t → put t p e ≡ t ++ (p, e) ∷ []
  put_last [] p e h = refl
  put_last (row ∷ t) p e h =
      let above : path_cmp p row.0 ≡ Greater = path_total.antisymm p row.0 ∙ ap ordering_reverse h.0 in
      rw above (ap (λ (u : List (Names × X)). row ∷ u) (put_last t p e h.1))

  at_end : (P : Names → Type 0) (t : List (Names × X)) (row : Names × X) (rest : List (Names × X)) → AllPaths P (t ++ row ∷ rest) → P row.0
  at_end P [] row rest h = h.0
  at_end P (x ∷ t) row rest h = at_end P t row rest h.1

  pub all_below : (t : List (Names × X)) (row : Names × X) (rest : List (Names × X)) → InOrder (t ++ row ∷ rest) → AllPaths (λ q. path_cmp q row.0 ≡ Less) t
  unfolding IsStrictlySortedBy
  all_below [] row rest h = tt
  all_below (x ∷ t) row rest h = (at_end (λ q. path_cmp x.0 q ≡ Less) t row rest h.0, all_below t row rest h.1)

  -- rows put one after another in their order
  pub put_all_in_order : (t rest : List (Names × X)) → InOrder (t ++ rest) → put_all t rest ≡ t ++ rest
  put_all_in_order t [] h = sym (append-nil t)
  put_all_in_order t (row ∷ rest) h =
      rw (put_last t row.0 row.1 (all_below t row rest h))
      (put_all_in_order (t ++ row ∷ []) rest (rw (append_assoc t (row ∷ []) rest) h) ∙ append_assoc t (row ∷ []) rest)

  kept_below : (P : Names → Type 0) (p : Names × X → Bool) (t : List (Names × X)) → AllPaths P t → AllPaths P (filter p t)
  kept_below P p [] h = tt
  kept_below P p (row ∷ t) h =
      elim (p row) as (λ b. AllPaths P (cond b (row ∷ filter p t) (filter p t))) [ true ↦ (h.0, kept_below P p t h.1) | false ↦ kept_below P p t h.1 ]

  -- a filter keeps the order
  pub in_order_filter : (p : Names × X → Bool) (t : List (Names × X)) → InOrder t → InOrder (filter p t)
  unfolding IsStrictlySortedBy
  in_order_filter p [] h = tt
  in_order_filter p (row ∷ t) h =
      elim (p row) as (λ b. InOrder (cond b (row ∷ filter p t) (filter p t))) [ true ↦ (kept_below _ p t h.0, in_order_filter p t h.1) | false ↦ in_order_filter p t h.1 ]
