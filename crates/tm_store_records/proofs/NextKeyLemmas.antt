-- From one key on to the next.
use Rattle.std.proofs.Common.{◌≡◌, ◌≢◌, ⊎_elim, suc, ℕ, ◌<◌, ◌≤◌, Bool, true, false, not, cond, Option, Some, None, is_some, List, [], ◌∷◌, filter, find, refl, sym, ap, ◌∙◌, subst, arith}
use Rattle.std.specs.Prelude.{nat_lt, nat_le}
use Rattle.std.specs.declared.cmp.Ordering.TheVariants.{Less}
use Rattle.std.specs.Ordering.{nat_cmp}
use Rattle.std.specs.List.{AllByRecursion}
use Rattle.std.specs.List.Sorted.{IsStrictlySortedBy}
use Rattle.std.specs.Map.{keys_of, lookup}
use Rattle.std.specs.BTreeMap.{is_at}
use Rattle.std.proofs.lemmas.Bool.{cases_lt, cases_eq}
use Rattle.std.proofs.lemmas.Bool.Decides.{nat_tests}

-- ---- tests

pub lt_true : (a b : ℕ) → a < b → nat_lt a b ≡ true
lt_true a b h = grind (arith, nat_tests)

pub lt_false : (a b : ℕ) → b ≤ a → nat_lt a b ≡ false
lt_false a b h = grind (arith, nat_tests)

pub le_true : (a b : ℕ) → a ≤ b → nat_le a b ≡ true
le_true a b h = grind (arith, nat_tests)

pub le_false : (a b : ℕ) → b < a → nat_le a b ≡ false
le_false a b h = grind (arith, nat_tests)

pub at_same : (a b : ℕ) → a ≡ b → is_at (nat_cmp a) b ≡ true
at_same a b h = grind (arith, nat_tests)

pub at_other : (a b : ℕ) → a ≢ b → is_at (nat_cmp a) b ≡ false
at_other a b h = grind (arith, nat_tests)

pub less_lt : (a b : ℕ) → nat_cmp a b ≡ Less → a < b
less_lt a b h = grind (arith, nat_tests)

pub lt_less : (a b : ℕ) → a < b → nat_cmp a b ≡ Less
lt_less a b h = grind (arith, nat_tests)

module _ {X : Type 0} where
  abbrev pub Sorted : List (ℕ × X) → Type 0
  Sorted g = IsStrictlySortedBy nat_cmp (keys_of g)

  abbrev pub at : List (ℕ × X) → ℕ → Option X
  at g q = lookup (is_at (nat_cmp q)) g

  abbrev AreAbove : ℕ → List (ℕ × X) → Type 0
  AreAbove k g = AllByRecursion (λ y. nat_cmp k y ≡ Less) (keys_of g)

  pub head_above : (e : ℕ × X) (g : List (ℕ × X)) → Sorted (e ∷ g) → AreAbove e.0 g
  unfolding IsStrictlySortedBy
  head_above e g s = s.0

  pub tail_sorted : (e : ℕ × X) (g : List (ℕ × X)) → Sorted (e ∷ g) → Sorted g
  unfolding IsStrictlySortedBy
  tail_sorted e g s = s.1

  -- nothing stands at or below a key that all others are above
  pub none_below : (k q : ℕ) (g : List (ℕ × X)) → AreAbove k g → q ≤ k → at g q ≡ None
  none_below k q [] above le = refl
  none_below k q (e ∷ g) above le = ap (λ b. cond b (Some e.1) (at g q)) (at_other q e.0 (λ same. absurd (omega (arith, less_lt k e.0 above.0, same, le)))) ∙ none_below k q g above.1 le

  -- ---- the keys from one on

  abbrev pub from : ℕ → List (ℕ × X) → List (ℕ × X)
  from k g = filter (λ e. nat_le k e.0) g

  abbrev pub rest_of : Option ℕ → List (ℕ × X) → List (ℕ × X)
  rest_of None g = []
  rest_of (Some k) g = from k g

  -- a list that is wholly above
  from_all : (k low : ℕ) (g : List (ℕ × X)) → AreAbove low g → k ≤ suc low → from k g ≡ g
  from_all k low [] above le = refl
  from_all k low (e ∷ g) above le =
      ap (λ b. cond b (e ∷ from k g) (from k g)) (le_true k e.0 (omega (arith, less_lt low e.0 above.0, le)))
      ∙ ap (λ (t : List (ℕ × X)). e ∷ t) (from_all k low g above.1 le)

  from_skip : (k : ℕ) (e : ℕ × X) (g : List (ℕ × X)) → e.0 < k → from k (e ∷ g) ≡ from k g
  from_skip k e g lt = ap (λ b. cond b (e ∷ from k g) (from k g)) (le_false k e.0 lt)

  from_here : (k : ℕ) (e : ℕ × X) (g : List (ℕ × X)) → k ≤ e.0 → from k (e ∷ g) ≡ e ∷ from k g
  from_here k e g le = ap (λ b. cond b (e ∷ from k g) (from k g)) (le_true k e.0 le)

  abbrev pub next_of : ℕ → List (ℕ × X) → Option ℕ
  next_of key g = find (λ k. nat_lt key k) (keys_of g)

  -- the first of a list that is wholly above
  first_rest : (key : ℕ) (g : List (ℕ × X)) → Sorted g → AreAbove key g → rest_of (next_of key g) g ≡ g
  first_rest key [] s above = refl
  first_rest key (e ∷ g) s above =
      ap (λ b. rest_of (cond b (Some e.0) (next_of key g)) (e ∷ g)) (lt_true key e.0 (less_lt key e.0 above.0))
      ∙ from_here e.0 e g (omega arith)
      ∙ ap (λ (t : List (ℕ × X)). e ∷ t) (from_all e.0 e.0 g (head_above e g s) (omega arith))

  rest_skip : (key : ℕ) (o : Option ℕ) (e : ℕ × X) (g : List (ℕ × X)) → ((k : ℕ) → o ≡ Some k → e.0 < k) → rest_of o (e ∷ g) ≡ rest_of o g
  rest_skip key None e g above = refl
  rest_skip key (Some k) e g above = from_skip k e g (above k refl)

  -- the next key is above
  pub next_above : (key k : ℕ) (g : List (ℕ × X)) → next_of key g ≡ Some k → key < k
  next_above key k [] is = cc
  next_above key k (e ∷ g) is = ⊎_elim
      (λ (lt : key < e.0). let first : next_of key (e ∷ g) ≡ Some e.0 = ap (λ b. cond b (Some e.0) (next_of key g)) (lt_true key e.0 lt) in let same : e.0 ≡ k = (let both : Some e.0 ≡ Some k = sym first ∙ is in cc) in omega (arith, lt, same))
      (λ (le : e.0 ≤ key). next_above key k g (sym (ap (λ b. cond b (Some e.0) (next_of key g)) (lt_false key e.0 le)) ∙ is))
      (cases_lt key e.0)

  -- from a key that is there: its entry, and what is from the next key on
  pub onward : (key : ℕ) (x : X) (g : List (ℕ × X)) → Sorted g → at g key ≡ Some x → from key g ≡ (key, x) ∷ rest_of (next_of key g) g
  onward key x [] s is = cc
  onward key x (e ∷ g) s is = ⊎_elim
      (λ (same : key ≡ e.0).
      let here : Some e.1 ≡ Some x = sym (ap (λ b. cond b (Some e.1) (at g key)) (at_same key e.0 same)) ∙ is in
      let value : e.1 ≡ x = cc in
      let above : AreAbove key g = subst (λ k. AreAbove k g) (sym same) (head_above e g s) in
      from_here key e g (omega (arith, same))
      ∙ (λ i. (sym same i, value i) ∷ from_all key key g above (omega arith) i)
      ∙ ap (λ (t : List (ℕ × X)). (key, x) ∷ t) (sym (first_rest key g (tail_sorted e g s) above)
      ∙ sym (rest_skip key (next_of key g) e g (λ k is. omega (arith, next_above key k g is, same)))
      ∙ ap (λ b. rest_of (cond b (Some e.0) (next_of key g)) (e ∷ g)) (sym (lt_false key e.0 (omega (arith, same))))))
      (λ (other : key ≢ e.0).
      let later : at g key ≡ Some x = sym (ap (λ b. cond b (Some e.1) (at g key)) (at_other key e.0 other)) ∙ is in
      ⊎_elim
      (λ (lt : e.0 < key). from_skip key e g lt ∙ onward key x g (tail_sorted e g s) later
      ∙ ap (λ (t : List (ℕ × X)). (key, x) ∷ t) (sym (rest_skip key (next_of key g) e g (λ k is. omega (arith, next_above key k g is, lt)))
      ∙ ap (λ b. rest_of (cond b (Some e.0) (next_of key g)) (e ∷ g)) (sym (lt_false key e.0 (omega (arith, lt))))))
      (λ (le : key ≤ e.0). absurd (let none : None ≡ Some x = sym (none_below e.0 key g (head_above e g s) le) ∙ later in cc))
      (cases_lt e.0 key))
      (cases_eq key e.0)

  -- from 0 on
  pub start : (g : List (ℕ × X)) → Sorted g → rest_of (find (λ k. not (nat_lt k 0)) (keys_of g)) g ≡ g
  start [] s = refl
  start (e ∷ g) s =
      ap (λ b. rest_of (cond (not b) (Some e.0) (find (λ k. not (nat_lt k 0)) (keys_of g))) (e ∷ g)) (lt_false e.0 0 (omega arith))
      ∙ from_here e.0 e g (omega arith) ∙ ap (λ (t : List (ℕ × X)). e ∷ t) (from_all e.0 e.0 g (head_above e g s) (omega arith))

  -- a key that is found is there
  pub found_there : (p : ℕ → Bool) (k : ℕ) (g : List (ℕ × X)) → Sorted g → find p (keys_of g) ≡ Some k → is_some (at g k) ≡ true
  found_there p k [] s is = cc
  found_there p k (e ∷ g) s is = by_test (p e.0) refl (λ later. found_there p k g (tail_sorted e g s) later)
    where
      either : (b : Bool) → is_some (at g k) ≡ true → is_some (cond b (Some e.1) (at g k)) ≡ true
      either true h = refl
      either false h = h

      by_test : (b : Bool) → p e.0 ≡ b → (find p (keys_of g) ≡ Some k → is_some (at g k) ≡ true) → is_some (cond (is_at (nat_cmp k) e.0) (Some e.1) (at g k)) ≡ true
      by_test true t later =
          let both : Some e.0 ≡ Some k = sym (ap (λ b. cond b (Some e.0) (find p (keys_of g))) t) ∙ is in
          let same : e.0 ≡ k = cc in
          ap (λ b. is_some (cond b (Some e.1) (at g k))) (at_same k e.0 (sym same))
      by_test false t later = either (is_at (nat_cmp k) e.0) (later (sym (ap (λ b. cond b (Some e.0) (find p (keys_of g))) t) ∙ is))

  -- no key stands between a key and the next, or above where there is none
  pub none_between : (key q : ℕ) (g : List (ℕ × X)) → Sorted g → key < q → ((k : ℕ) → next_of key g ≡ Some k → q < k) → at g q ≡ None
  none_between key q [] s lt below = refl
  none_between key q (e ∷ g) s lt below = ⊎_elim
      (λ (above : key < e.0).
      let first : next_of key (e ∷ g) ≡ Some e.0 = ap (λ b. cond b (Some e.0) (next_of key g)) (lt_true key e.0 above) in
      let less = below e.0 first in
      ap (λ b. cond b (Some e.1) (at g q)) (at_other q e.0 (λ same. absurd (omega (arith, less, same)))) ∙ none_below e.0 q g (head_above e g s) (omega (arith, less)))
      (λ (le : e.0 ≤ key).
      ap (λ b. cond b (Some e.1) (at g q)) (at_other q e.0 (λ same. absurd (omega (arith, lt, same, le))))
      ∙ none_between key q g (tail_sorted e g s) lt (λ k is. below k (ap (λ b. cond b (Some e.0) (next_of key g)) (lt_false key e.0 le) ∙ is)))
      (cases_lt key e.0)

  -- and none below the first
  pub none_first : (q : ℕ) (g : List (ℕ × X)) → Sorted g → ((k : ℕ) → find (λ k. not (nat_lt k 0)) (keys_of g) ≡ Some k → q < k) → at g q ≡ None
  none_first q [] s below = refl
  none_first q (e ∷ g) s below =
      let first : find (λ k. not (nat_lt k 0)) (keys_of (e ∷ g)) ≡ Some e.0 = ap (λ b. cond (not b) (Some e.0) (find (λ k. not (nat_lt k 0)) (keys_of g))) (lt_false e.0 0 (omega arith)) in
      let less = below e.0 first in
      ap (λ b. cond b (Some e.1) (at g q)) (at_other q e.0 (λ same. absurd (omega (arith, less, same)))) ∙ none_below e.0 q g (head_above e g s) (omega (arith, less))
