-- Items set by number, and how many there are.
use Rattle.std.proofs.Common.{◌≡◌, ℕ, suc, zero, nat_lt, ◌⊎◌, inl, inr, ◌+◌, ◌<◌, ◌≤◌, ◌==◌, Bool, true, false, cond, [], ◌∷◌, length, sym, ap, ◌∙◌, subst, refl, Option, Some, None, is_some, arith}
use Rattle.std.proofs.lemmas.Bool.Decides.{nat_tests}
use Rattle.std.specs.Bool.{one_answer}
use Rattle.std.specs.BTreeMap.{is_at}
use Rattle.std.specs.Cmp.{ranks}
use Rattle.std.specs.List.Sorted.{IsStrictlySortedBy}
use Rattle.std.specs.Ordering.{nat_cmp, MatchOrdering}
use Rattle.std.specs.declared.cmp.Ordering.TheVariants.{Less}
use Rattle.tm_base.proofs.Facts.{false_true}
use Rattle.tm_items.specs.Placings.{Placed, Items}
use Rattle.tm_items.specs.Changes.{with_item, without_item}
use Rattle.tm_items.specs.Computed.{Placings, items_of, AreNumbered}
use Rattle.tm_items.specs.Laws.{AllTaken, FewNumbers}
use Rattle.tm_items.proofs.Reading.{number_decides, above, among_from, some_of}

pub same_number : (n m : ℕ) → is_at (nat_cmp n) m ≡ (m == n)
same_number n m = one_answer (is_at (nat_cmp n) m) (m == n) (number_decides n m) (λ h. grind (arith, nat_tests), λ e. grind (arith, nat_tests))

-- items with another answer at one number
pub with_set : (n : ℕ) (x : Placed) (old new : Items) → ((m : ℕ) → new m ≡ cond (is_at (nat_cmp n) m) (Some x) (old m)) → new ≡ with_item old n x
with_set n x old new sets =
    let each : (m : ℕ) → new m ≡ with_item old n x m = λ m. sets m ∙ ap (λ b. cond b (Some x) (old m)) (same_number n m) in
    λ i m. each m i

pub without_set : (n : ℕ) (old new : Items) → ((m : ℕ) → new m ≡ cond (is_at (nat_cmp n) m) None (old m)) → new ≡ without_item old n
without_set n old new sets =
    let each : (m : ℕ) → new m ≡ without_item old n m = λ m. sets m ∙ ap (λ b. cond b None (old m)) (same_number n m) in
    λ i m. each m i

less_is : (n m : ℕ) → nat_cmp n m ≡ Less → n < m
less_is n m h = subst (λ r. MatchOrdering r (n < m) (n ≡ m) (m < n)) h (ranks n m)

passes : (row : ℕ × Placed) (rest : Placings) (m : ℕ) → row.0 < m → items_of (row ∷ rest) m ≡ items_of rest m
passes row rest m low = ap (λ b. cond b (Some row.1) (items_of rest m)) (same_number m row.0 ∙ off row.0 m low)
  where
    off : (k m : ℕ) → k < m → (k == m) ≡ false
    off k m low = grind (arith, nat_tests)

in_rest : (row : ℕ × Placed) (rest : Placings) → AreNumbered (row ∷ rest) → (m : ℕ) (x : Placed) → items_of rest m ≡ Some x → row.0 < m
unfolding IsStrictlySortedBy
in_rest row rest sorted m x is = less_is row.0 m (above (λ k. nat_cmp row.0 k ≡ Less) rest m x sorted.0 (among_from rest m x is))

head_is : (row : ℕ × Placed) (rest : Placings) (a : ℕ) → AreNumbered (row ∷ rest) → a ≤ row.0 → is_some (items_of (row ∷ rest) a) ≡ true → row.0 ≡ a
head_is row rest a sorted high there =
    let x = some_of (items_of (row ∷ rest) a) there in
    elim (chosen_item (is_at (nat_cmp a) row.0) row.1 x.0 (items_of rest a) x.1) [
      | inl hit ↦ sym ((number_decides a row.0).0 hit)
      | inr is ↦ let low = in_rest row rest sorted a x.0 is in absurd (omega arith)
    ]
  where
    chosen_item : (b : Bool) (x y : Placed) (o : Option Placed) → cond b (Some x) o ≡ Some y → (b ≡ true) ⊎ (o ≡ Some y)
    chosen_item true x y o h = inl refl
    chosen_item false x y o h = inr h

-- where n numbers from a on are taken, there are n items
pub taken_from : (placings : Placings) (a n : ℕ) → AreNumbered placings → ((m : ℕ) → a ≤ m → m < a + n → is_some (items_of placings m) ≡ true) → n ≤ length placings
unfolding IsStrictlySortedBy
taken_from placings a zero sorted all = omega arith
taken_from [] a (suc n) sorted all = false_true (all a (omega arith) (omega arith))
taken_from (row ∷ rest) a (suc n) sorted all =
    elim (nat_lt row.0 a) as (λ b. nat_lt row.0 a ≡ b → suc n ≤ length (row ∷ rest)) [
      | true ↦ λ e.
          let low : row.0 < a = grind (arith, nat_tests) in
          let more : suc n ≤ length rest = taken_from rest a (suc n) sorted.1 (λ m h g. subst (λ (o : Option Placed). is_some o ≡ true) (passes row rest m (omega arith)) (all m h g)) in
          omega arith
      | false ↦ λ e.
          let high : a ≤ row.0 = grind (arith, nat_tests) in
          let at : row.0 ≡ a = head_is row rest a sorted high (all a (omega arith) (omega arith)) in
          let more : n ≤ length rest = taken_from rest (a + 1) n sorted.1 (λ m h g. subst (λ (o : Option Placed). is_some o ≡ true) (passes row rest m (omega arith)) (all m (omega arith) (omega arith))) in
          omega arith
    ] refl

pub all_taken : AllTaken
all_taken placings n sorted all = taken_from placings 1 n sorted (λ m low high. all m low (omega arith))

there_too : (b : Bool) (x : Placed) (o : Option Placed) → is_some o ≡ true → is_some (cond b (Some x) o) ≡ true
there_too true x o h = refl
there_too false x o h = h

here : (row : ℕ × Placed) (rest : Placings) → is_some (items_of (row ∷ rest) row.0) ≡ true
here row rest = rw ((number_decides row.0 row.0).1 refl) refl

-- where all numbers are from a to below b, they are at most as many as there are between
pub few_from : (placings : Placings) (a b : ℕ) → a ≤ b → AreNumbered placings → ((m : ℕ) → is_some (items_of placings m) ≡ true → (a ≤ m) × (m < b)) → a + length placings ≤ b
unfolding IsStrictlySortedBy
few_from [] a b low sorted within = omega arith
few_from (row ∷ rest) a b low sorted within =
    let h = within row.0 (here row rest) in
    let more : row.0 + 1 + length rest ≤ b = few_from rest (row.0 + 1) b (omega (arith, h.1)) sorted.1 (λ m there.
    let x = some_of (items_of rest m) there in
    let past = in_rest row rest sorted m x.0 x.1 in
    (omega arith, (within m (there_too (is_at (nat_cmp m) row.0) row.1 (items_of rest m) there)).1)) in
    omega (arith, h.0)

pub few_numbers : FewNumbers
few_numbers placings n sorted within =
    let l : 1 + length placings ≤ n + 1 = few_from placings 1 (n + 1) (omega arith) sorted (λ m there. let h = within m there in (h.0, omega (arith, h.1))) in
    omega arith
