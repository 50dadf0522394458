-- What an earlier date tells.
use Rattle.std.proofs.Common.{zero, suc, ◌≡◌, ℕ, ◌+◌, ◌<◌, ◌≤◌, ◌||◌, ◌==◌, nat_lt, Bool, true, false, List, [], ◌∷◌, ◌-◌, length, get_or, take, not, refl, sym, subst, ◌∙◌, ⊎_elim, arith, add-one}
use Rattle.std.proofs.lemmas.Bool.{cases_lt}
use Rattle.std.specs.List.Sorted.{IsStrictlyIncreasing}
use Rattle.std.specs.List.{list_any}
use Rattle.std.proofs.lemmas.List.Folds.{list_any_more}
use Rattle.tm_thin.specs.Buckets.{bucket_of, same_bucket}
use Rattle.tm_thin.specs.Staying.{has_earlier, stays, StaysFor, BucketsKeepOne}
use Rattle.tm_thin.proofs.BucketLemmas.{same_true, same_itself, between_same}

-- where a test is passed before a place, it is passed at a place before that
pub passed : (p : ℕ → Bool) (xs : List ℕ) (j : ℕ) → list_any p (take j xs) ≡ true → (k : ℕ) × (k < j) × (k < length xs) × (p (get_or xs k 0) ≡ true)
passed p [] zero h = absurd (cc h)
passed p [] (suc j) h = absurd (cc h)
passed p (x ∷ xs) zero h = absurd (cc h)
passed p (x ∷ xs) (suc j) h = by_test (p x) refl h (passed p xs j)
  where
    by_test : (b : Bool) → p x ≡ b → (b || list_any p (take j xs)) ≡ true → (list_any p (take j xs) ≡ true → (k : ℕ) × (k < j) × (k < length xs) × (p (get_or xs k 0) ≡ true))
        → (k : ℕ) × (k < suc j) × (k < length (x ∷ xs)) × (p (get_or (x ∷ xs) k 0) ≡ true)
    by_test true e t f = (0, omega arith, omega arith, e)
    by_test false e t f = let rest = f t in (suc rest.0, omega (arith, rest.1), omega (arith, rest.2), rest.3)

-- where each place that passes leads to the next, the last place tells whether any passes
last_tells : (p : ℕ → Bool) (xs : List ℕ) (j : ℕ) → j < length xs → ((k : ℕ) → k < j → p (get_or xs k 0) ≡ true → p (get_or xs j 0) ≡ true)
    → list_any p (take (suc j) xs) ≡ p (get_or xs j 0)
last_tells p xs j low leads =
    let more : list_any p (take (suc j) xs) ≡ (list_any p (take j xs) || p (get_or xs j 0)) = rw add-one at (list_any_more p xs j 0 low) in
    more ∙ by_test (list_any p (take j xs)) refl
  where
    by_test : (b : Bool) → list_any p (take j xs) ≡ b → (b || p (get_or xs j 0)) ≡ p (get_or xs j 0)
    by_test true e = let found = passed p xs j e in sym (leads found.0 found.1 found.3)
    by_test false e = refl

-- ---- rising dates

pub in_order : (xs : List ℕ) (i j : ℕ) → IsStrictlyIncreasing xs → i ≤ j → j < length xs → get_or xs i 0 ≤ get_or xs j 0
in_order xs i zero rising le low = let same : i ≡ 0 = omega arith in rw same (omega arith)
in_order xs i (suc j) rising le low =
    ⊎_elim (λ (less : i < suc j). let before = in_order xs i j rising (omega arith) (omega arith) in let step = rising j (omega arith) in omega (arith, before, rw add-one at step))
    (λ (more : suc j ≤ i). let same : i ≡ suc j = omega arith in rw same (omega arith)) (cases_lt i (suc j))

-- whether an earlier date has the bucket of one that is past, the date before it tells
pub earlier_before : (dates : List ℕ) (at m : ℕ) → IsStrictlyIncreasing dates → at < length dates → get_or dates at 0 ≤ m → 0 < at
    → has_earlier dates at m ≡ same_bucket (bucket_of (get_or dates (at - 1) 0) m) (bucket_of (get_or dates at 0) m)
earlier_before dates zero m rising low past some = absurd (omega arith)
earlier_before dates (suc j) m rising low past some =
    let before : suc j - 1 ≡ j = omega arith in
    let low_j : j < length dates = omega arith in
    rw before (last_tells (λ date. same_bucket (bucket_of date m) (bucket_of (get_or dates (suc j) 0) m)) dates j low_j
    (λ k less passes.
    let same = between_same (get_or dates k 0) (get_or dates j 0) (get_or dates (suc j) 0) m (in_order dates k j rising (omega arith) low_j) (in_order dates j (suc j) rising (omega arith) low) past (same_true _ _ passes) in
    subst (λ b. same_bucket b (bucket_of (get_or dates (suc j) 0) m) ≡ true) (sym same) (same_itself (bucket_of (get_or dates (suc j) 0) m))))

-- ---- what goes

gone_has_earlier : (dates : List ℕ) (at m : ℕ) → stays dates at m ≡ false → has_earlier dates at m ≡ true
gone_has_earlier dates at m gone = by_cases (at + 1 == length dates) (nat_lt m (get_or dates at 0)) (has_earlier dates at m) gone
  where
    by_cases : (a b c : Bool) → (a || b || not c) ≡ false → c ≡ true
    by_cases a b true h = refl
    by_cases true b false h = absurd (cc h)
    by_cases false true false h = absurd (cc h)
    by_cases false false false h = absurd (cc h)

-- of its bucket an earlier one stays
stays_to : (fuel : ℕ) (dates : List ℕ) (at m : ℕ) → at < fuel → stays dates at m ≡ false → StaysFor dates at m
stays_to zero dates at m few gone = absurd (omega arith)
stays_to (suc fuel) dates at m few gone =
    let found = passed (λ date. same_bucket (bucket_of date m) (bucket_of (get_or dates at 0) m)) dates at (gone_has_earlier dates at m gone) in
    by_stays found.0 found.1 (same_true _ _ found.3) (stays dates found.0 m) refl (λ k less again. stays_to fuel dates k m (omega arith) again)
  where
    by_stays : (k : ℕ) → k < at → bucket_of (get_or dates k 0) m ≡ bucket_of (get_or dates at 0) m → (b : Bool) → stays dates k m ≡ b
        → ((k : ℕ) → k < at → stays dates k m ≡ false → StaysFor dates k m) → StaysFor dates at m
    by_stays k less same true e f = record { place = k; earlier = less; stays_there = e; same = same }
    by_stays k less same false e f =
        let rest = f k less e in
        record { place = rest.place; earlier = omega (arith, rest.earlier); stays_there = rest.stays_there; same = rest.same ∙ same }

pub buckets_keep_one : BucketsKeepOne
buckets_keep_one dates at m low gone = stays_to (suc at) dates at m (omega arith) gone
