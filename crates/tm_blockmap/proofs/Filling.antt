-- The first blocks are claimed one after another.
use Rattle.std.proofs.Common.{◌≡◌, ℕ, zero, suc, ◌+◌, ◌-◌, ◌<◌, ◌≤◌, ◌↔◌, min, ⊎_elim, List, ◌∷◌, ◌++◌, get_or, replicate, refl, sym, subst, ◌∙◌, ap, arith}
use Rattle.std.proofs.lemmas.List.{length-replicate, get_or-replicate, get_or_past}
use Rattle.std.proofs.lemmas.Bool.{cases_lt}
use Rattle.tm_blockmap.specs.Marks.{AreMarks}
use Rattle.std.proofs.Math.ListN.{set}

-- so many used blocks, and the free ones after them
pub filled : ℕ → ℕ → List ℕ
filled i m = replicate i 1 ++ replicate m 0

claimed : (i m : ℕ) → set (filled i (suc m)) i 1 ≡ filled (suc i) m
unfolding filled
claimed zero m = refl
claimed (suc i) m = ap (λ t. 1 ∷ t) (claimed i m)

step : (i m : ℕ) (old new : List ℕ) → old ≡ filled i (suc m) → new ≡ set old i 1 → new ≡ filled (suc i) m
step i m old new is after = after ∙ ap (λ ms. set ms i 1) is ∙ claimed i m

pub filled-next : (i n : ℕ) (old new : List ℕ) → i < n → old ≡ replicate i 1 ++ replicate (n - i) 0 → new ≡ set old i 1 → new ≡ replicate (i + 1) 1 ++ replicate (n - (i + 1)) 0
unfolding filled
filled-next i n old new lt is after =
    let split : n - i ≡ suc (n - (i + 1)) = omega arith in
    let next : suc i ≡ i + 1 = omega arith in
    step i (n - (i + 1)) old new (is ∙ ap (filled i) split) after ∙ ap (λ j. filled j (n - (i + 1))) next

below_one : (i m b : ℕ) → get_or (filled i m) b 0 ≤ 1
unfolding filled
below_one zero m b =
    let nought : ℕ = 0 in
    ⊎_elim (λ (lt : b < m). omega (arith, get_or-replicate m b nought nought lt)) (λ (le : m ≤ b). omega (arith, get_or_past (replicate m nought) b nought (omega (arith, length-replicate m nought)))) (cases_lt b m)
below_one (suc i) m zero = omega arith
below_one (suc i) m (suc b) = below_one i m b

pub filled-marks : (i m : ℕ) (marks : List ℕ) → marks ≡ replicate i 1 ++ replicate m 0 → AreMarks marks
unfolding filled
filled-marks i m marks is b = subst (λ ms. get_or ms b 0 ≤ 1) (sym is) (below_one i m b)

-- from the first free block on all are free
free_from : (i m b : ℕ) → b < i + m → (get_or (filled i m) b 0 ≡ 0) ↔ (i ≤ b)
unfolding filled
free_from zero m b lt = let nought : ℕ = 0 in (λ e. omega arith, λ le. get_or-replicate m b nought nought (omega arith))
free_from (suc i) m zero lt = (λ e. absurd (omega arith), λ le. absurd (omega arith))
free_from (suc i) m (suc b) lt =
    let rest = free_from i m b (omega arith) in
    (λ e. let le : i ≤ b = rest.0 e in omega arith, λ le. rest.1 (omega arith))

pub filled-free : (n kept i b : ℕ) (marks : List ℕ) → i ≡ min kept n → marks ≡ replicate i 1 ++ replicate (n - i) 0 → b < n → (get_or marks b 0 ≡ 0) ↔ (kept ≤ b)
unfolding filled
filled-free n kept i b marks least is lt =
    let rest = free_from i (n - i) b (omega arith) in
    (λ e. let le : i ≤ b = rest.0 (ap (λ ms. get_or ms b 0) (sym is) ∙ e) in omega arith, λ le. ap (λ ms. get_or ms b 0) is ∙ rest.1 (omega arith))
