-- Lists of blocks by how often each block stands in them, and marks that are taken and given.
use Rattle.std.proofs.Common.{◌≡◌, ◌≢◌, ⊎_elim, ℕ, suc, ◌+◌, ◌-◌, ◌<◌, ◌≤◌, List, [], ◌∷◌, ◌++◌, length, get_or, take, refl, sym, ◌∙◌, ap, subst, arith, cond, ◌==◌}
use Rattle.std.specs.List.{sum, sum_by}
use Rattle.std.proofs.Math.ListN.{set}
use Rattle.std.proofs.lemmas.List.{length-take-le, get_or-take, get_or-set_same, get_or-set_other, get_or_past, get_or_default}
use Rattle.std.proofs.lemmas.List.Sums.{sum_by-set, sum_by_push, sum_by_more, sum_by_more_le, sum_by-cons, sum_by-append, sum_by-le, get_or-le-sum_by}
use Rattle.std.proofs.lemmas.Bool.{cases_eq, cases_lt, eq-eqb, ne_eqb, cond-true, cond-false}
use Rattle.tm_blockmap.specs.Marks.{AreMarks, IsFull, IsLowestFree}
use Rattle.tm_blockmap.specs.Counts.{times, IsDistinct}
use Rattle.tm_blockmap.specs.Takes.{Takes}

-- 1 where the two blocks are one, else 0
abbrev pub hit : ℕ → ℕ → ℕ
hit x c = cond (x == c) 1 0

pub one_same : (x c : ℕ) → x ≡ c → hit x c ≡ 1
one_same x c e = cond-true (x == c) 1 0 (eq-eqb x c e)

pub one_other : (x c : ℕ) → x ≢ c → hit x c ≡ 0
one_other x c ne = cond-false (x == c) 1 0 (ne_eqb x c ne)

-- one block more
pub times-cons : (c b : ℕ) (bs : List ℕ) → times c (b ∷ bs) ≡ hit b c + times c bs
times-cons c b bs = sum_by-cons (λ x. hit x c) b bs

pub times-push : (c : ℕ) (bs : List ℕ) (b : ℕ) → times c (bs ++ b ∷ []) ≡ times c bs + hit b c
times-push c bs b = sum_by_push (λ x. hit x c) bs b

pub times-append : (c : ℕ) (xs ys : List ℕ) → times c (xs ++ ys) ≡ times c xs + times c ys
times-append c xs ys = sum_by-append (λ x. hit x c) xs ys

pub times-more : (bs : List ℕ) (i b : ℕ) → i < length bs → times b (take (i + 1) bs) ≡ times b (take i bs) + hit (get_or bs i 0) b
times-more bs i b lt = sum_by_more (λ y. hit y b) bs i 0 lt

-- a block that stands in a list, and one that doesn't
pub stands : (xs : List ℕ) (k : ℕ) → k < length xs → 0 < times (get_or xs k 0) xs
stands xs k lt =
    let f : ℕ → ℕ = λ y. hit y (get_or xs k 0) in
    omega (arith, get_or-le-sum_by f xs k 0 lt, one_same (get_or xs k 0) (get_or xs k 0) refl)

pub stands_not : (xs : List ℕ) (b : ℕ) → times b xs ≡ 0 → (k : ℕ) → k < length xs → b ≢ get_or xs k 0
stands_not xs b none k lt e = absurd (omega (arith, subst (λ c. 0 < times c xs) (sym e) (stands xs k lt)))

-- an element before j is in the sum of the first j
before : (f : ℕ → ℕ) (xs : List ℕ) (i j : ℕ) → i < j → j < length xs → f (get_or xs i 0) ≤ sum_by f (take j xs)
before f xs i j below lt =
    let within : i < length (take j xs) = omega (arith, length-take-le j xs (omega arith)) in
    subst (λ x. f x ≤ sum_by f (take j xs)) (get_or-take j xs i 0 below) (get_or-le-sum_by f (take j xs) i 0 within)

-- two places of distinct blocks hold two blocks
pub distinct-apart : (xs : List ℕ) → IsDistinct xs → (i j : ℕ) → i < j → j < length xs → get_or xs j 0 ≢ get_or xs i 0
distinct-apart xs once i j below lt e =
    let f : ℕ → ℕ = λ y. hit y (get_or xs j 0) in
    let here : f (get_or xs j 0) ≡ 1 = one_same (get_or xs j 0) (get_or xs j 0) refl in
    let there : f (get_or xs i 0) ≡ 1 = one_same (get_or xs i 0) (get_or xs j 0) (sym e) in
    let first : f (get_or xs i 0) ≤ sum_by f (take j xs) = before f xs i j below lt in
    absurd (omega (arith, sum_by_more_le f xs j 0 lt, once (get_or xs j 0)))

-- marks are at most as many as blocks
pub marks_sum : (ms : List ℕ) → AreMarks ms → sum ms ≤ length ms
marks_sum ms marks = omega (arith, sum_by-le (λ y. y) 1 ms (λ k d lt. omega (arith, marks k, get_or_default ms k d 0 lt)))

-- a map in which all is used has as many marks as blocks
full_sum : (ms : List ℕ) → ((b : ℕ) → b < length ms → get_or ms b 0 ≡ 1) → length ms ≤ sum ms
full_sum [] h = omega arith
full_sum (m ∷ ms) h =
    let first : m ≡ 1 = h 0 (omega arith) in
    let rest = full_sum ms (λ b lt. h (suc b) (omega arith)) in
    omega (arith, sum_by-cons (λ y. y) m ms)

pub not_full : (ms : List ℕ) → IsFull ms → sum ms < length ms → ⊥
not_full ms full lt = absurd (omega (arith, full_sum ms full))

-- a block is taken or given
module _ (ms : List ℕ) (b : ℕ) where
  pub take_mark : b < length ms → get_or ms b 0 ≡ 0 → (c : ℕ) → get_or (set ms b 1) c 0 ≡ get_or ms c 0 + hit b c
  take_mark lt free c = ⊎_elim
      (λ (e : b ≡ c). subst (λ k. get_or (set ms b 1) k 0 ≡ get_or ms k 0 + hit b k) e (omega (arith, get_or-set_same ms b 1 0 lt, one_same b b refl)))
      (λ (ne : b ≢ c). omega (arith, get_or-set_other ms b c 1 0 (λ e. ne (sym e)), one_other b c ne))
      (cases_eq b c)

  pub take_sum : b < length ms → get_or ms b 0 ≡ 0 → sum (set ms b 1) ≡ sum ms + 1
  take_sum lt free = omega (arith, sum_by-set (λ y. y) ms b 1 0 lt)

  -- a block with a mark is in the map
  pub within_map : 0 < get_or ms b 0 → b < length ms
  within_map used = ⊎_elim (λ (lt : b < length ms). lt) (λ (le : length ms ≤ b). absurd (omega (arith, get_or_past ms b 0 le))) (cases_lt b (length ms))

  pub give_mark : get_or ms b 0 ≡ 1 → (c : ℕ) → get_or (set ms b 0) c 0 + hit b c ≡ get_or ms c 0
  give_mark used c = ⊎_elim
      (λ (e : b ≡ c). subst (λ k. get_or (set ms b 0) k 0 + hit b k ≡ get_or ms k 0) e (omega (arith, get_or-set_same ms b 0 0 (within_map (omega arith)), one_same b b refl)))
      (λ (ne : b ≢ c). omega (arith, get_or-set_other ms b c 0 0 (λ e. ne (sym e)), one_other b c ne))
      (cases_eq b c)

  pub give_sum : get_or ms b 0 ≡ 1 → sum (set ms b 0) + 1 ≡ sum ms
  give_sum used = omega (arith, sum_by-set (λ y. y) ms b 0 0 (within_map (omega arith)))

  pub take_marks : AreMarks ms → b < length ms → AreMarks (set ms b 1)
  take_marks marks lt c = ⊎_elim
      (λ (e : b ≡ c). subst (λ k. get_or (set ms b 1) k 0 ≤ 1) e (omega (arith, get_or-set_same ms b 1 0 lt)))
      (λ (ne : b ≢ c). omega (arith, get_or-set_other ms b c 1 0 (λ e. ne (sym e)), marks c))
      (cases_eq b c)

pub Takes-push : (bs : List ℕ) (b : ℕ) (old mid new : List ℕ) → Takes bs old mid → IsLowestFree mid b → new ≡ set mid b 1 → Takes (bs ++ b ∷ []) old new
Takes-push [] b old mid new h low is = (subst (λ ms. IsLowestFree ms b) h low, is ∙ ap (λ ms. set ms b 1) h)
Takes-push (c ∷ bs) b old mid new h low is = (h.0, Takes-push bs b (set old c 1) mid new h.1 low is)

-- the next block of a list of used ones is used still, where those before it were given
pub next_used : (bs old mid : List ℕ) (i x : ℕ) → i < length bs → x ≡ get_or bs i 0 → AreMarks old → ((b : ℕ) → times b bs ≤ get_or old b 0) → ((b : ℕ) → get_or mid b 0 + times b (take i bs) ≡ get_or old b 0) → get_or mid x 0 ≡ 1
next_used bs old mid i x lt is marks owned so_far =
    let f : ℕ → ℕ = λ y. hit y x in
    let here : f (get_or bs i 0) ≡ 1 = one_same (get_or bs i 0) x (sym is) in
    omega (arith, sum_by_more f bs i 0 lt, sum_by_more_le f bs i 0 lt, so_far x, owned x, marks x, here)

no_marks : (marks : List ℕ) → ((b : ℕ) → get_or marks b 0 ≡ 0) → sum marks ≡ 0
no_marks [] h = refl
no_marks (m ∷ ms) h =
    let first : m ≡ 0 = h 0 in
    omega (arith, no_marks ms (λ b. h (suc b)), sum_by-cons (λ y. y) m ms)

-- one block less, with its mark
module _ (x : ℕ) (xs marks : List ℕ) where
  less : List ℕ
  less = set marks x (get_or marks x 0 - 1)

  within_less : 1 ≤ get_or marks x 0 → x < length marks
  within_less some = within_map marks x some

  sum_less : 1 ≤ get_or marks x 0 → sum less + 1 ≡ sum marks
  unfolding less
  sum_less some = omega (arith, sum_by-set (λ y. y) marks x (get_or marks x 0 - 1) 0 (within_less some))

  mark_less : 1 ≤ get_or marks x 0 → (b : ℕ) → get_or less b 0 + hit x b ≡ get_or marks b 0
  unfolding less
  mark_less some b = ⊎_elim
      (λ (e : x ≡ b). subst (λ c. get_or (set marks x (get_or marks x 0 - 1)) c 0 + hit x c ≡ get_or marks c 0) e (omega (arith, get_or-set_same marks x (get_or marks x 0 - 1) 0 (within_less some), one_same x x refl)))
      (λ (ne : x ≢ b). omega (arith, one_other x b ne, get_or-set_other marks x b (get_or marks x 0 - 1) 0 (λ e. ne (sym e))))
      (cases_eq x b)

-- blocks that stand as often as they are marked are as many as the marks
pub length-sum : (xs marks : List ℕ) → ((b : ℕ) → times b xs ≡ get_or marks b 0) → length xs ≡ sum marks
length-sum [] marks h = sym (no_marks marks (λ b. sym (h b)))
length-sum (x ∷ xs) marks h =
    let some : 1 ≤ get_or marks x 0 = omega (arith, h x, times-cons x x xs, one_same x x refl) in
    omega (arith, length-sum xs (less x xs marks) (λ b. omega (arith, h b, times-cons b x xs, mark_less x xs marks some b)), sum_less x xs marks some)

-- blocks that stand no more often than they are marked are no more than the marks
pub length-le-sum : (xs marks : List ℕ) → ((b : ℕ) → times b xs ≤ get_or marks b 0) → length xs ≤ sum marks
length-le-sum [] marks h = omega arith
length-le-sum (x ∷ xs) marks h =
    let some : 1 ≤ get_or marks x 0 = omega (arith, h x, times-cons x x xs, one_same x x refl) in
    omega (arith, length-le-sum xs (less x xs marks) (λ b. omega (arith, h b, times-cons b x xs, mark_less x xs marks some b)), sum_less x xs marks some)
