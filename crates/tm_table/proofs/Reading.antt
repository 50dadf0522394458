-- What is read of one record.
use Rattle.std.proofs.Common.{◌≡◌, ⊎_elim, ℕ, ◌+◌, ◌-◌, ◌/◌, ◌<◌, ◌≤◌, ◌^◌, List, [], ◌++◌, length, drop, take, refl, sym, ◌∙◌, ap, subst, arith, length-take-le, length-drop, take-append-drop}
use Rattle.std.proofs.lemmas.Bool.{cases_lt}
use Rattle.std.proofs.lemmas.List.{take_at}
use Rattle.tm_codec.specs.Fields.{u32_text}
use Rattle.tm_codec.specs.Places.{IsTextAt}
use Rattle.tm_codec.proofs.Fields.{IsTextAt-fits, length-u32_text}
use Rattle.tm_table.specs.Text.{numbers, meta_text}
use Rattle.tm_table.proofs.Standing.{stands_first, stands_second, stands_both, stands_from, length-numbers}

pub stands_fits : (part text : List ℕ) (at : ℕ) → at ≤ length text → IsTextAt part at text → at + length part ≤ length text
stands_fits part text at within stands = ⊎_elim
    (λ (some : 0 < length part). IsTextAt-fits part text at some stands)
    (λ (none : length part ≤ 0). omega (arith, within))
    (cases_lt 0 (length part))

module _ (part text : List ℕ) (at : ℕ) where
  pub meta_first : IsTextAt (meta_text part) at text → IsTextAt (u32_text (length part)) at text
  unfolding meta_text
  meta_first stands = stands_first (u32_text (length part)) part text at stands

  pub meta_second : IsTextAt (meta_text part) at text → IsTextAt part (at + 4) text
  unfolding meta_text
  meta_second stands = subst (λ j. IsTextAt part j text) (omega (arith, length-u32_text (length part))) (stands_second (u32_text (length part)) part text at stands)

  pub meta_fits : at + 4 ≤ length text → IsTextAt (meta_text part) at text → at + 4 + length part ≤ length text
  meta_fits within stands = stands_fits part text (at + 4) within (meta_second stands)

  pub meta_whole : IsTextAt (u32_text (length part)) at text → IsTextAt part (at + 4) text → IsTextAt (meta_text part) at text
  unfolding meta_text
  meta_whole first second = stands_both (u32_text (length part)) part text at first (subst (λ j. IsTextAt part j text) (omega (arith, length-u32_text (length part))) second)

-- so many bytes at a place
pub part_stands : (text : List ℕ) (at count : ℕ) → IsTextAt (take count (drop at text)) at text
part_stands text at count = stands_from (take count (drop at text)) (drop count (drop at text)) text at (sym (take-append-drop count (drop at text)))

pub no_numbers : (text bs : List ℕ) (at : ℕ) → bs ≡ [] → IsTextAt (numbers bs) at text
no_numbers text bs at none = subst (λ b. IsTextAt (numbers b) at text) (sym none) (ap (λ j. drop j text) (omega arith))

pub numbers_fit : (bs text : List ℕ) (at : ℕ) → at ≤ length text → IsTextAt (numbers bs) at text → length bs ≤ (length text - at) / 4
numbers_fit bs text at within stands = omega (arith, stands_fits (numbers bs) text at within stands, length-numbers bs)

-- the bytes after a length
pub meta_got : (text got : List ℕ) (at count : ℕ) → count < 2 ^ 32 → at + 4 + count ≤ length text → got ≡ take count (drop (at + 4) text) → IsTextAt (u32_text count) at text → (length got < 2 ^ 32) × IsTextAt (meta_text got) at text
meta_got text got at count small within is first =
    let long : length got ≡ count = omega (arith, ap length is, length-take-le count (drop (at + 4) text) (omega (arith, length-drop (at + 4) text))) in (
      omega (arith, long),
      meta_whole got text at (subst (λ n. IsTextAt (u32_text n) at text) (sym long) first) (subst (λ p. IsTextAt p (at + 4) text) (sym is) (part_stands text (at + 4) count)),
    )

pub meta_only : (text got part : List ℕ) (at count : ℕ) → got ≡ take count (drop (at + 4) text) → count ≡ length part → IsTextAt (meta_text part) at text → got ≡ part
meta_only text got part at count is long stands =
    is ∙ ap (take count) (meta_second part text at stands) ∙ ap (λ n. take n (part ++ drop (at + 4 + length part) text)) long ∙ take_at part (drop (at + 4 + length part) text) (length part) refl
