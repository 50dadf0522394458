-- The roots of what passes a test and of what doesn't.
use Rattle.std.proofs.Common.{◌≡◌, ℕ, ◌+◌, ◌==◌, Bool, true, false, cond, not, List, [], ◌∷◌, map, filter, count_by, arith}
use Rattle.std.proofs.lemmas.List.Sums.{sum_by-cons}
use Rattle.tm_removal.specs.Removing.{IsSplit}

pub split_by : {X : Type 0} (root : X → ℕ) (test : X → Bool) (xs : List X) → IsSplit (map root xs) (map root (filter (λ x. not (test x)) xs)) (map root (filter test xs))
split_by root test [] q = omega arith
split_by {X} root test (x ∷ xs) q = by_test (test x) (split_by root test xs q)
  where
    one : (rs : List ℕ) → count_by (λ r. r == q) (root x ∷ rs) ≡ cond (root x == q) 1 0 + count_by (λ r. r == q) rs
    one rs = sum_by-cons (λ (r : ℕ). cond (r == q) 1 0) (root x) rs

    by_test : (b : Bool) → count_by (λ r. r == q) (map root xs) ≡ count_by (λ r. r == q) (map root (filter (λ x. not (test x)) xs)) + count_by (λ r. r == q) (map root (filter test xs))
        → count_by (λ r. r == q) (map root (x ∷ xs))
        ≡ count_by (λ r. r == q) (map root (cond (not b) (x ∷ filter (λ x. not (test x)) xs) (filter (λ x. not (test x)) xs))) + count_by (λ r. r == q) (map root (cond b (x ∷ filter test xs) (filter test xs)))
    by_test true rest = omega (arith, rest, one (map root xs), one (map root (filter test xs)))
    by_test false rest = omega (arith, rest, one (map root xs), one (map root (filter (λ x. not (test x)) xs)))
