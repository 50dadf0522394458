-- Rows that some of the entries of a list are, by their numbers.
use Rattle.std.proofs.Common.{◌≡◌, ◌≢◌, ⊎_elim, ℕ, ◌+◌, ◌-◌, ◌≤◌, Bool, true, false, cond, Option, Some, None, List, [], ◌∷◌, refl, sym, ap, ◌∙◌, arith}
use Rattle.std.specs.declared.cmp.Ordering.TheVariants.{Less}
use Rattle.std.specs.Ordering.{nat_cmp}
use Rattle.std.specs.List.{AllByRecursion, filter_map, cons_option}
use Rattle.std.specs.List.Sorted.{IsStrictlySortedBy}
use Rattle.std.specs.Map.{keys_of}
use Rattle.std.specs.BTreeMap.{is_at}
use Rattle.std.specs.Option.{option_map, option_and_then}
use Rattle.std.proofs.lemmas.Bool.{cases_eq}
use Rattle.std.proofs.lemmas.Bool.Decides.{nat_tests}
use Rattle.tm_graph.proofs.Taken.{Sorted, at}

module _ {H X : Type 0} (base : ℕ) (test : ℕ → Bool) (read : H → Option X) (from : (k : ℕ) → test k ≡ true → base ≤ k) where
  abbrev pub row_of : ℕ × H → Option (ℕ × X)
  row_of e = cond (test e.0) (option_map (λ x. (e.0 - base, x)) (read e.1)) None

  abbrev pub rows : List (ℕ × H) → List (ℕ × X)
  rows heads = filter_map row_of heads

  -- what number q has, where this is read at its key
  abbrev pub found : ℕ → Option H → Option X
  found q head = cond (test (base + q)) (option_and_then read head) None

  -- an entry above a key is no row of a number at or below it
  above_row : (low : ℕ) (heads : List (ℕ × H)) → AllByRecursion (λ k. nat_cmp low k ≡ Less) (keys_of heads) → (n : ℕ) → base + n ≤ low → AllByRecursion (λ k. nat_cmp n k ≡ Less) (keys_of (rows heads))
  above_row low [] above n le = tt
  above_row low (e ∷ heads) above n le = by_test (test e.0) refl (read e.1) (above_row low heads above.1 n le)
    where
      less : (a b c : ℕ) → nat_cmp a b ≡ Less → base + n ≤ a → c ≡ b - base → nat_cmp n c ≡ Less
      less a b c l le is = grind (arith, nat_tests)

      by_test : (b : Bool) → test e.0 ≡ b → (o : Option X) → AllByRecursion (λ k. nat_cmp n k ≡ Less) (keys_of (rows heads)) → AllByRecursion (λ k. nat_cmp n k ≡ Less) (keys_of (cons_option (cond b (option_map (λ x. (e.0 - base, x)) o) None) (rows heads)))
      by_test true t None rest = rest
      by_test true t (Some x) rest = (less low e.0 (e.0 - base) above.0 le refl, rest)
      by_test false t o rest = rest

  none_above : (n : ℕ) (t : List (ℕ × X)) → AllByRecursion (λ k. nat_cmp n k ≡ Less) (keys_of t) → at t n ≡ None
  none_above n [] above = refl
  none_above n (e ∷ t) above = let no : is_at (nat_cmp n) e.0 ≡ false = not_here e.0 above.0 in ap (λ b. cond b (Some e.1) (at t n)) no ∙ none_above n t above.1
    where
      not_here : (k : ℕ) → nat_cmp n k ≡ Less → is_at (nat_cmp n) k ≡ false
      not_here k l = grind (arith, nat_tests)

  pub rows_sorted : (heads : List (ℕ × H)) → Sorted heads → Sorted (rows heads)
  unfolding IsStrictlySortedBy
  rows_sorted [] s = tt
  rows_sorted (e ∷ heads) s = by_test (test e.0) refl (read e.1) (rows_sorted heads s.1)
    where
      by_test : (b : Bool) → test e.0 ≡ b → (o : Option X) → Sorted (rows heads) → Sorted (cons_option (cond b (option_map (λ x. (e.0 - base, x)) o) None) (rows heads))
      by_test true t None rest = rest
      by_test true t (Some x) rest = (above_row e.0 heads s.0 (e.0 - base) (let low = from e.0 t in omega (arith, low)), rest)
      by_test false t o rest = rest

  pub rows_at : (heads : List (ℕ × H)) (q : ℕ) → Sorted heads → at (rows heads) q ≡ found q (at heads (base + q))
  unfolding IsStrictlySortedBy
  rows_at [] q s = by_test (test (base + q))
    where
      by_test : (b : Bool) → None ≡ cond b (option_and_then read None) None
      by_test true = refl
      by_test false = refl
  rows_at (e ∷ heads) q s = ⊎_elim
      (λ (same : e.0 ≡ base + q).
      let t : is_at (nat_cmp (base + q)) e.0 ≡ true = grind (arith, nat_tests) in
      here same (test e.0) refl (read e.1) refl ∙ ap (λ b. found q (cond b (Some e.1) (at heads (base + q)))) (sym t))
      (λ (other : e.0 ≢ base + q).
      let t : is_at (nat_cmp (base + q)) e.0 ≡ false = grind (arith, nat_tests) in
      there other (test e.0) refl (read e.1) ∙ rows_at heads q s.1 ∙ ap (λ b. found q (cond b (Some e.1) (at heads (base + q)))) (sym t))
      (cases_eq e.0 (base + q))
    where
      number : (k : ℕ) → k ≡ base + q → k - base ≡ q
      number k e = omega (arith, e)

      none_at : e.0 ≡ base + q → at (rows heads) q ≡ None
      none_at same = none_above q (rows heads) (above_row e.0 heads s.0 q (omega (arith, same)))

      here : e.0 ≡ base + q → (b : Bool) → test e.0 ≡ b → (o : Option X) → read e.1 ≡ o → at (cons_option (cond b (option_map (λ x. (e.0 - base, x)) o) None) (rows heads)) q ≡ found q (Some e.1)
      here same true t None r = none_at same ∙ sym (ap (λ b. cond b (read e.1) None) (ap test (sym same) ∙ t) ∙ r)
      here same true t (Some x) r =
          let n : is_at (nat_cmp q) (e.0 - base) ≡ true = at_number (e.0 - base) (number e.0 same) in
          ap (λ b. cond b (Some x) (at (rows heads) q)) n ∙ sym (ap (λ b. cond b (read e.1) None) (ap test (sym same) ∙ t) ∙ r)
        where
          at_number : (k : ℕ) → k ≡ q → is_at (nat_cmp q) k ≡ true
          at_number k e = grind (arith, nat_tests)
      here same false t o r = none_at same ∙ sym (ap (λ b. cond b (read e.1) None) (ap test (sym same) ∙ t))

      there : e.0 ≢ base + q → (b : Bool) → test e.0 ≡ b → (o : Option X) → at (cons_option (cond b (option_map (λ x. (e.0 - base, x)) o) None) (rows heads)) q ≡ at (rows heads) q
      there other true t None = refl
      there other true t (Some x) = ap (λ b. cond b (Some x) (at (rows heads) q)) (not_number (e.0 - base) (λ is. other (back is)))
        where
          not_number : (k : ℕ) → k ≢ q → is_at (nat_cmp q) k ≡ false
          not_number k ne = grind (arith, nat_tests)

          back : e.0 - base ≡ q → e.0 ≡ base + q
          back is = omega (arith, is, from e.0 t)
      there other false t o = refl
