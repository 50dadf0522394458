-- The nodes that go are told.
use Rattle.std.proofs.Common.{◌≡◌, ℕ, ◌<◌, Bool, true, false, List, [], ◌∷◌, ◌++◌, refl, sym, ap, ◌∙◌, arith, nat_eq, sum_by, subst, ⊎_elim, ◌||◌, append_assoc}
use Rattle.std.specs.List.{AllByRecursion}
use Rattle.std.specs.List.Sorted.{IsStrictlySortedBy}
use Rattle.std.specs.Ordering.{nat_cmp}
use Rattle.std.specs.declared.cmp.Ordering.TheVariants.{Less}
use Rattle.std.specs.Set.{is_member}
use Rattle.std.proofs.lemmas.Bool.{cases_lt}
use Rattle.std.proofs.lemmas.Bool.Decides.{nat_tests}
use Rattle.std.proofs.lemmas.List.Sums.{sum_by-cons, sum_by-append}
use Rattle.tm_graph.specs.Nodes.{Nodes, node, names, IsGraph}
use Rattle.tm_graph.specs.Losing.{lost, spends, IsGone, falling}

-- ---- lists that fall

tail_falls : (p xs : List ℕ) → IsStrictlySortedBy falling (p ++ xs) → IsStrictlySortedBy falling xs
unfolding IsStrictlySortedBy
tail_falls [] xs s = s
tail_falls (x ∷ p) xs s = tail_falls p xs s.1

at_end : (P : ℕ → Type 0) (p : List ℕ) (x : ℕ) (xs : List ℕ) → AllByRecursion P (p ++ x ∷ xs) → P x
at_end P [] x xs h = h.0
at_end P (y ∷ p) x xs h = at_end P p x xs h.1

-- what stands before x isn't x
not_before : (p : List ℕ) (x : ℕ) (xs : List ℕ) → IsStrictlySortedBy falling (p ++ x ∷ xs) → is_member nat_eq p x ≡ false
unfolding IsStrictlySortedBy
not_before [] x xs s = refl
not_before (y ∷ p) x xs s = two (at_end (λ z. falling y z ≡ Less) p x xs s.0) (not_before p x xs s.1)
  where
    two : nat_cmp x y ≡ Less → is_member nat_eq p x ≡ false → (nat_eq x y || is_member nat_eq p x) ≡ false
    two l m = grind (arith, nat_tests, m)

-- those after x are below it
after : (x : ℕ) (xs : List ℕ) → IsStrictlySortedBy falling (x ∷ xs) → AllByRecursion (λ m. m < x) xs
unfolding IsStrictlySortedBy
after x xs s = each xs s.0
  where
    below : (m : ℕ) → nat_cmp m x ≡ Less → m < x
    below m l = grind (arith, nat_tests)

    each : (xs : List ℕ) → AllByRecursion (λ m. falling x m ≡ Less) xs → AllByRecursion (λ m. m < x) xs
    each [] h = tt
    each (m ∷ xs) h = (below m h.0, each xs h.1)

further : (x y : ℕ) (xs : List ℕ) → x < y → AllByRecursion (λ m. m < x) xs → AllByRecursion (λ m. m < y) xs
further x y [] l h = tt
further x y (m ∷ xs) l h = (omega (arith, h.0), further x y xs l h.1)

not_below : (x : ℕ) (xs : List ℕ) → AllByRecursion (λ m. m < x) xs → is_member nat_eq xs x ≡ false
not_below x [] h = refl
not_below x (m ∷ xs) h = two h.0 (not_below x xs h.1)
  where
    two : m < x → is_member nat_eq xs x ≡ false → (nat_eq x m || is_member nat_eq xs x) ≡ false
    two l e = grind (arith, nat_tests, e)

member_append : (p xs : List ℕ) (q : ℕ) → is_member nat_eq (p ++ xs) q ≡ (is_member nat_eq p q || is_member nat_eq xs q)
member_append [] xs q = refl
member_append (x ∷ p) xs q = elim (nat_eq q x) as (λ b. (b || is_member nat_eq (p ++ xs) q) ≡ ((b || is_member nat_eq p q) || is_member nat_eq xs q)) [ true ↦ refl | false ↦ member_append p xs q ]

-- ---- nodes at or below q take no link from it

module _ (g : Nodes) (root : ℕ) (is : IsGraph g) where
  none_lost : (q : ℕ) (xs : List ℕ) → AllByRecursion (λ m. m < q) xs → sum_by (λ m. names q (node g m)) xs ≡ 0
  none_lost q [] h = refl
  none_lost q (m ∷ xs) h = omega (arith, sum_by-cons (λ m. names q (node g m)) m xs, none_lost q xs h.1, is.falls m q (omega (arith, h.0)))

  lost_front : (p xs : List ℕ) (q : ℕ) → sum_by (λ m. names q (node g m)) xs ≡ 0 → lost g root (p ++ xs) q ≡ lost g root p q
  lost_front p xs q none = omega (arith, sum_by-append (λ m. names q (node g m)) p xs, none)

  -- x goes in one and not in the other, though both lose it as many links
  clash : (p a s : List ℕ) (x : ℕ) → IsGone g root (p ++ x ∷ a) → IsGone g root (p ++ s) → AllByRecursion (λ m. m < x) s → ⊥
  clash p a s x one other low =
      let below = after x a (tail_falls p (x ∷ a) one.greatest_first) in
      let mine = lost_front p (x ∷ a) x (omega (arith, sum_by-cons (λ m. names x (node g m)) x a, none_lost x a below, is.falls x x (omega arith))) in
      let theirs = lost_front p s x (none_lost x s low) in
      let here = one.spent x ∙ ap (λ n. spends n (node g x)) (mine ∙ sym theirs) ∙ sym (other.spent x) in
      let before = not_before p x a one.greatest_first in
      let absent = not_below x s low in
      contrary (is_member nat_eq p x) (is_member nat_eq s x) before absent (sym (member_append p (x ∷ a) x) ∙ here ∙ member_append p s x)
    where
      contrary : (b c : Bool) → b ≡ false → c ≡ false → (b || (nat_eq x x || is_member nat_eq a x)) ≡ (b || c) → ⊥
      contrary b c e f h = grind (arith, nat_tests)

  one : (p a b : List ℕ) → IsGone g root (p ++ a) → IsGone g root (p ++ b) → a ≡ b
  one p [] [] h k = refl
  one p (x ∷ a) [] h k = absurd (clash p a [] x h k tt)
  one p [] (y ∷ b) h k = absurd (clash p b [] y k h tt)
  one p (x ∷ a) (y ∷ b) h k = ⊎_elim
      (λ l. absurd (clash p b (x ∷ a) y k h (l, further x y a l (after x a (tail_falls p (x ∷ a) h.greatest_first)))))
      (λ l. ⊎_elim
      (λ m. absurd (clash p a (y ∷ b) x h k (m, further y x b m (after y b (tail_falls p (y ∷ b) k.greatest_first)))))
      (λ m. let same : x ≡ y = omega arith in
      let h' = subst (λ (xs : List ℕ). IsGone g root xs) (sym (append_assoc p (x ∷ []) a)) h in
      let k' = subst (λ (xs : List ℕ). IsGone g root xs) (ap (λ z. p ++ z ∷ b) (sym same) ∙ sym (append_assoc p (x ∷ []) b)) k in
      let rest = one (p ++ x ∷ []) a b h' k' in
      λ i. same i ∷ rest i)
      (cases_lt y x))
      (cases_lt x y)

pub gone_is_one : (g : Nodes) (root : ℕ) (a b : List ℕ) → IsGraph g → IsGone g root a → IsGone g root b → a ≡ b
gone_is_one g root a b is h k = one g root is [] a b h k
