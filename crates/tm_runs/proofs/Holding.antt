-- Pages of given lengths that hold a text.
use Rattle.std.proofs.Common.{◌≡◌, ⊎_elim, ℕ, ◌+◌, ◌<◌, ◌≤◌, List, [], ◌∷◌, ◌++◌, length, get_or, take, drop, refl, sym, ◌∙◌, ap, arith, append-nil}
use Rattle.std.specs.List.{sum}
use Rattle.std.proofs.lemmas.Bool.{cases_lt}
use Rattle.std.proofs.lemmas.List.{drop_all, drop_more, drop-drop, take_more, take-append-drop}
use Rattle.std.proofs.lemmas.List.Sums.{sum_by-append, sum_by-cons}
use Rattle.tm_pages.specs.declared.page.Page.{Page}
use Rattle.tm_pages.specs.Paged.{lengths, text_on}
use Rattle.tm_pages.proofs.Texts.{text-append, text-none}

pub text_one : (bytes : ℕ → List ℕ) (p : Page) → text_on (p ∷ []) bytes ≡ take p.length (bytes p.block)
unfolding text_on
text_one bytes p = append-nil (take p.length (bytes p.block))

pub sum_more : (lens : List ℕ) (k : ℕ) → k < length lens → sum (take (k + 1) lens) ≡ sum (take k lens) + get_or lens k 0
sum_more lens k lt = omega (arith, ap sum (take_more lens k 0 lt), sum_by-append (λ y. y) (take k lens) (get_or lens k 0 ∷ []))

-- some pages of these lengths hold a text that is as long
pub record Holding (lens text : List ℕ) : Type 0 where
  pub pages : List Page
  pub bytes : ℕ → List ℕ
  pub lens_are : lengths pages ≡ lens
  pub holds : text_on pages bytes ≡ text

abbrev numbered_from : ℕ → List ℕ → List Page
numbered_from b [] = []
numbered_from b (len ∷ lens) = record { block = b; length = len } ∷ numbered_from (b + 1) lens

lens_numbered : (b : ℕ) (lens : List ℕ) → lengths (numbered_from b lens) ≡ lens
lens_numbered b [] = refl
lens_numbered b (len ∷ lens) = ap (λ (t : List ℕ). len ∷ t) (lens_numbered (b + 1) lens)

text_numbered : (all text : List ℕ) (b at : ℕ) (lens : List ℕ) → at ≡ sum (take b all) → lens ≡ drop b all → at + sum lens ≡ length text → text_on (numbered_from b lens) (λ k. drop (sum (take k all)) text) ≡ drop at text
text_numbered all text b at [] place is long = text-none (λ k. drop (sum (take k all)) text) ∙ sym (drop_all at text (omega arith))
text_numbered all text b at (len ∷ lens) place is long =
    let bytes : ℕ → List ℕ = λ k. drop (sum (take k all)) text in
    let p : Page = record { block = b; length = len } in
    let total : sum (len ∷ lens) ≡ len + sum lens = sum_by-cons (λ y. y) len lens in
    let within : b < length all = ⊎_elim (λ (lt : b < length all). lt) (λ (le : length all ≤ b). let none : len ∷ lens ≡ [] = is ∙ drop_all b all le in cc) (cases_lt b (length all)) in
    let parts : len ∷ lens ≡ get_or all b 0 ∷ drop (b + 1) all = is ∙ drop_more all b 0 within in
    let first : len ≡ get_or all b 0 = cc in
    let rest : lens ≡ drop (b + 1) all = cc in
    let next : at + len ≡ sum (take (b + 1) all) = omega (arith, place, first, sum_more all b within) in
    text-append (p ∷ []) (numbered_from (b + 1) lens) bytes
    ∙ ap (λ t. t ++ text_on (numbered_from (b + 1) lens) bytes) (text_one bytes p ∙ ap (λ i. take len (drop i text)) (sym place))
    ∙ ap (λ t. take len (drop at text) ++ t) (text_numbered all text (b + 1) (at + len) lens next rest (omega (arith, total, long)) ∙ sym (drop-drop len at text))
    ∙ take-append-drop len (drop at text)

pub holding : (lens text : List ℕ) → sum lens ≡ length text → Holding lens text
holding lens text long = record {
  pages = numbered_from 0 lens;
  bytes = λ k. drop (sum (take k lens)) text;
  lens_are = lens_numbered 0 lens;
  holds = text_numbered lens text 0 0 lens refl refl (omega (arith, long));
}
