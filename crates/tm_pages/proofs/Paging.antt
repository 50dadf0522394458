-- Lists of pages' lengths: how many there may be, and how they are joined and parted.
use Rattle.std.proofs.Common.{◌≡◌, ℕ, suc, ◌+◌, ◌-◌, ◌<◌, ◌≤◌, List, [], ◌∷◌, ◌++◌, length, sum, get_or, take, drop, refl, ◌∙◌, ap, arith, ⊎_elim, length-append, length-drop, length-take}
use Rattle.std.proofs.lemmas.List.{get_or-take, get_or-drop, get_or_append_left, get_or-append_right, length-map}
use Rattle.std.proofs.lemmas.List.FromFn.{length-map-range_with_len, get_or-map-range_with_len}
use Rattle.std.proofs.lemmas.List.Sums.{sum_by-cons}
use Rattle.std.proofs.lemmas.Bool.{cases_lt}
use Rattle.tm_pages.specs.declared.page.Page.{Page}
use Rattle.tm_pages.specs.Paged.{IsPaged, lengths, pages_for}
use Rattle.tm_pages.specs.Laws.{CountIsReckoned, PlacesAreReckoned, TextIsShort}
use Rattle.tm_pages.specs.Cuts.{cut_len, piece_len, cut_lengths, first_of, last_of}

-- two neighbours, by their places
pub pair_at : (lens : List ℕ) (k j : ℕ) → IsPaged lens → j ≡ k + 1 → j < length lens → 4097 ≤ get_or lens k 0 + get_or lens j 0
pair_at lens k j h is lt = omega (arith, h.pairs k (omega arith), ap (λ i. get_or lens i 0) is)

pub tail_paged : (a : ℕ) (lens : List ℕ) → IsPaged (a ∷ lens) → IsPaged lens
tail_paged a lens h = record {
  each = λ k lt. h.each (suc k) (omega arith);
  pairs = λ k lt. pair_at (a ∷ lens) (suc k) (suc (k + 1)) h (omega arith) (omega arith);
}

pub no_pages : IsPaged []
no_pages = record { each = λ k lt. absurd (omega arith); pairs = λ k lt. absurd (omega arith) }

pub CountIsReckoned-holds : CountIsReckoned
CountIsReckoned-holds [] h = omega arith
CountIsReckoned-holds (a ∷ []) h = omega arith
CountIsReckoned-holds (a ∷ b ∷ lens) h =
    omega (arith, CountIsReckoned-holds lens (tail_paged b lens (tail_paged a (b ∷ lens) h)), pair_at (a ∷ b ∷ lens) 0 1 h (omega arith) (omega arith), sum_by-cons (λ y. y) a (b ∷ lens), sum_by-cons (λ y. y) b lens)

pub TextIsShort-holds : TextIsShort
TextIsShort-holds [] h = omega arith
TextIsShort-holds (a ∷ lens) h = omega (arith, TextIsShort-holds lens (tail_paged a lens h), (h.each 0 (omega arith)).1, sum_by-cons (λ y. y) a lens)

pub PlacesAreReckoned-holds : PlacesAreReckoned
PlacesAreReckoned-holds pages paged =
    let few : length (lengths pages) ≤ pages_for (sum (lengths pages)) = CountIsReckoned-holds (lengths pages) paged in
    omega (arith, length-map pages (λ (p : Page). p.length))

pub take_paged : (i : ℕ) (lens : List ℕ) → IsPaged lens → IsPaged (take i lens)
take_paged i lens h = record {
  each = λ k lt.
      let same : get_or (take i lens) k 0 ≡ get_or lens k 0 = get_or-take i lens k 0 (omega (arith, length-take i lens)) in
      let at = h.each k (omega (arith, length-take i lens)) in
      (omega arith, omega arith);
  pairs = λ k lt. omega (arith, h.pairs k (omega (arith, length-take i lens)), get_or-take i lens k 0 (omega (arith, length-take i lens)), get_or-take i lens (k + 1) 0 (omega (arith, length-take i lens)));
}

pub drop_paged : (i : ℕ) (lens : List ℕ) → IsPaged lens → IsPaged (drop i lens)
drop_paged i lens h = record {
  each = λ k lt.
      let same : get_or (drop i lens) k 0 ≡ get_or lens (i + k) 0 = get_or-drop i lens k 0 in
      let at = h.each (i + k) (omega (arith, length-drop i lens)) in
      (omega arith, omega arith);
  pairs = λ k lt. omega (arith, pair_at lens (i + k) (i + (k + 1)) h (omega arith) (omega (arith, length-drop i lens)), get_or-drop i lens k 0, get_or-drop i lens (k + 1) 0);
}

-- what stands at the border of two lists of pages
abbrev pub MayMeet : List ℕ → List ℕ → Type 0
MayMeet a b = 0 < length a → 0 < length b → 4097 ≤ get_or a (length a - 1) 0 + get_or b 0 0

pub join_paged : (a b : List ℕ) → IsPaged a → IsPaged b → MayMeet a b → IsPaged (a ++ b)
join_paged a b ha hb meet = record {
  each = λ k lt. ⊎_elim
      (λ (inside : k < length a).
      let same : get_or (a ++ b) k 0 ≡ get_or a k 0 = get_or_append_left a b 0 k inside in
      let at = ha.each k inside in
      (omega arith, omega arith))
      (λ (past : length a ≤ k).
      let same : get_or (a ++ b) k 0 ≡ get_or b (k - length a) 0 = get_or-append_right a b (length a) k 0 refl past in
      let at = hb.each (k - length a) (omega (arith, length-append a b)) in
      (omega arith, omega arith))
      (cases_lt k (length a));
  pairs = λ k lt. ⊎_elim
      (λ (inside : k + 1 < length a). omega (arith, ha.pairs k inside, get_or_append_left a b 0 k (omega arith), get_or_append_left a b 0 (k + 1) inside))
      (λ (after : length a ≤ k + 1). ⊎_elim
      (λ (last : k < length a).
      let here : k ≡ length a - 1 = omega arith in
      let there : k + 1 - length a ≡ 0 = omega arith in
      omega (arith, meet (omega arith) (omega (arith, length-append a b)), get_or_append_left a b 0 k last, ap (λ i. get_or a i 0) here, get_or-append_right a b (length a) (k + 1) 0 refl after, ap (λ i. get_or b i 0) there))
      (λ (past : length a ≤ k).
      omega (arith, pair_at b (k - length a) (k + 1 - length a) hb (omega arith) (omega (arith, length-append a b)), get_or-append_right a b (length a) k 0 refl past, get_or-append_right a b (length a) (k + 1) 0 refl after))
      (cases_lt k (length a)))
      (cases_lt (k + 1) (length a));
}

pub length-cut : (n : ℕ) → length (cut_lengths n) ≡ cut_len n
unfolding cut_lengths
length-cut n = length-map-range_with_len (piece_len n) 0 (cut_len n)

pub get_or-cut : (n k : ℕ) → k < cut_len n → get_or (cut_lengths n) k 0 ≡ piece_len n k
unfolding cut_lengths
get_or-cut n k lt = get_or-map-range_with_len (piece_len n) 0 (cut_len n) k k 0 lt (omega arith)

pub cut_paged : (n : ℕ) → IsPaged (cut_lengths n)
cut_paged n = record {
  each = λ k lt.
      let size : length (cut_lengths n) ≡ cut_len n = length-cut n in
      let is : get_or (cut_lengths n) k 0 ≡ piece_len n k = get_or-cut n k (omega arith) in
      (omega arith, omega arith);
  pairs = λ k lt.
      let size : length (cut_lengths n) ≡ cut_len n = length-cut n in
      omega (arith, get_or-cut n k (omega arith), get_or-cut n (k + 1) (omega arith));
}

pub first_cut : (n : ℕ) → 0 < n → get_or (cut_lengths n) 0 0 ≡ first_of n
first_cut n some = omega (arith, get_or-cut n 0 (omega arith))

pub last_cut : (n : ℕ) → 0 < n → get_or (cut_lengths n) (length (cut_lengths n) - 1) 0 ≡ last_of n
last_cut n some =
    let size : length (cut_lengths n) ≡ cut_len n = length-cut n in
    ap (λ i. get_or (cut_lengths n) (i - 1) 0) size ∙ omega (arith, get_or-cut n (cut_len n - 1) (omega arith))
