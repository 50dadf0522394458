-- What is left beside blocks.
use Rattle.std.proofs.Common.{◌≡◌, ℕ, ◌+◌, ◌<◌, Bool, not, filter, List, [], ◌∷◌, ◌++◌, length, take, slice_index, sym, ap, ◌∙◌}
use Rattle.std.proofs.lemmas.List.{take_more}
use Rattle.std.proofs.lemmas.List.Elements.{filter-append}

-- a block more is kept where it isn't among these
pub filter_more : (p q : ℕ → Bool) → ((b : ℕ) → p b ≡ q b) → (xs now next : List ℕ) (i : ℕ) → i < length xs → now ≡ filter (λ b. not (q b)) (take i xs)
    → next ≡ now ++ filter (λ b. not (p b)) (slice_index xs i ∷ []) → next ≡ filter (λ b. not (q b)) (take (i + 1) xs)
filter_more p q same xs now next i low is more =
    let f = λ (b : ℕ). not (q b) in
    more ∙ ap (λ (ys : List ℕ). ys ++ filter (λ b. not (p b)) (slice_index xs i ∷ [])) is
    ∙ (λ j. filter f (take i xs) ++ filter (λ b. not (same b j)) (slice_index xs i ∷ []))
    ∙ sym (filter-append f (take i xs) (slice_index xs i ∷ []))
    ∙ ap (filter f) (sym (take_more xs i 0 low))
