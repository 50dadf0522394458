-- A list that rises is searched by halves.
use Rattle.std.proofs.Common.{◌≡◌, ◌≢◌, ⊎_elim, ℕ, ◌+◌, ◌<◌, ◌≤◌, ◌==◌, Bool, true, false, List, length, Result, Ok, Err, refl, sym, subst, arith}
use Rattle.std.specs.Result.{MatchResult, is_ok}
use Rattle.std.specs.List.{list_any}
use Rattle.std.specs.Bool.{MatchBool}
use Rattle.std.specs.List.Sorted.{IsNonDecreasing}
use Rattle.std.specs.Prelude.{slice_index_or}
use Rattle.std.proofs.lemmas.Bool.{cases_lt}
use Rattle.std.proofs.lemmas.Bool.Decides.{nat_tests}
use Rattle.std.proofs.lemmas.Grind.{get_or_default_zero}
use Rattle.std.proofs.lemmas.List.Folds.{list_any_at, list_any_none}

same_test : (x b : ℕ) → x ≡ b → (x == b) ≡ true
same_test x b e = grind (arith, nat_tests)

less_test : (x b : ℕ) → x < b → (x == b) ≡ false
less_test x b lt = grind (arith, nat_tests)

more_test : (x b : ℕ) → b < x → (x == b) ≡ false
more_test x b lt = grind (arith, nat_tests)

-- what the search answers is whether the block stands there
pub answers : (xs : List ℕ) (b : ℕ) (r : Result ℕ ℕ)
    → MatchResult r (λ i. (i < length xs) × (slice_index_or xs i 0 ≡ b)) (λ i. (i ≤ length xs) × ((k : ℕ) → k < i → slice_index_or xs k 0 < b) × ((k : ℕ) → i ≤ k → k < length xs → b < slice_index_or xs k 0))
    → is_ok r ≡ list_any (λ x. x == b) xs
answers xs b (Ok i) found = sym (list_any_at (λ x. x == b) xs i 0 found.0 (same_test (slice_index_or xs i 0) b found.1))
answers xs b (Err i) missed = sym (list_any_none (λ x. x == b) xs (λ k d lt. subst (λ x. (x == b) ≡ false) (sym (get_or_default_zero xs k d lt)) (⊎_elim
    (λ (before : k < i). less_test (slice_index_or xs k 0) b (missed.1 k before))
    (λ (from : i ≤ k). more_test (slice_index_or xs k 0) b (missed.2 k from lt))
    (cases_lt k i))))

-- a list in which one is less than the one before it doesn't rise
pub falls : (xs : List ℕ) (r : Bool) → MatchBool r (IsNonDecreasing xs) ((k : ℕ) × (k + 1 < length xs) × ((d : ℕ) → slice_index_or xs (k + 1) d < slice_index_or xs k d)) → r ≡ false → IsNonDecreasing xs → ⊥
falls xs true h off up = cc
falls xs false h off up = omega (arith, up h.0 (h.0 + 1) 0 (omega arith) h.1, h.2 0)
