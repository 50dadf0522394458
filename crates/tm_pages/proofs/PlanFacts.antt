-- What the pages of a plan keep.
use Rattle.std.proofs.Common.{◌≡◌, ℕ, ◌+◌, ◌<◌, ◌≤◌, List, [], length, get_or, sym, ◌∙◌, ap, subst, arith}
use Rattle.std.specs.List.{sum, Contains}
use Rattle.std.proofs.lemmas.List.{ext_get_or, length-map}
use Rattle.tm_blockmap.specs.Marks.{AreMarks}
use Rattle.tm_blockmap.specs.Counts.{times, IsDistinct}
use Rattle.tm_blockmap.proofs.Counting.{stands, within_map}
use Rattle.tm_pages.specs.declared.page.Page.{Page}
use Rattle.tm_pages.specs.declared.cut.Cut.{Cut}
use Rattle.tm_pages.specs.declared.cut.Run.{Run}
use Rattle.tm_pages.specs.Paged.{IsPaged, lengths, blocks_of, pages_for}
use Rattle.tm_pages.specs.Runs.{AreRuns, AreCuts, AreInOrder, fresh_len, planned, planned_lens, gone, edited_len}
use Rattle.tm_pages.specs.Plans.{IsFar}
use Rattle.tm_pages.proofs.Paging.{CountIsReckoned-holds}
use Rattle.tm_pages.proofs.Planning.{planned_paged, fresh_among}
use Rattle.tm_pages.proofs.Placing.{in_order, lengths_planned, balance, stays}
use Rattle.tm_pages.proofs.Texts.{planned_sum}

module _ (old : List Page) (runs : List Run) (cuts : List Cut) (are : AreRuns (lengths old) 0 runs) (of : AreCuts (lengths old) runs cuts) where
  pub plan_order : AreInOrder (length old) 0 cuts
  plan_order = subst (λ n. AreInOrder n 0 cuts) (length-map old (λ (p : Page). p.length)) (in_order (lengths old) 0 0 runs cuts are of (λ some. absurd (omega arith)) (omega arith))

  lens_paged : IsPaged (lengths old) → IsPaged (planned_lens (lengths old) 0 cuts)
  lens_paged paged = planned_paged (lengths old) [] 0 0 runs cuts paged are of (λ some. absurd (omega arith)) paged

  lens_long : sum (planned_lens (lengths old) 0 cuts) ≡ edited_len (lengths old) 0 runs
  lens_long = planned_sum (lengths old) 0 0 0 runs cuts are of (omega arith) (λ some. absurd (omega arith)) ∙ omega arith

  -- too few free blocks for the new pages are too few for a text of the new length
  pub plan_full : (size used free : ℕ) → IsPaged (lengths old) → free + used ≡ size → free < fresh_len cuts → size < used + pages_for (edited_len (lengths old) 0 runs)
  plan_full size used free paged is few =
      let most : length (planned_lens (lengths old) 0 cuts) ≤ pages_for (edited_len (lengths old) 0 runs) =
      subst (λ n. length (planned_lens (lengths old) 0 cuts) ≤ pages_for n) lens_long (CountIsReckoned-holds (planned_lens (lengths old) 0 cuts) (lens_paged paged)) in
      omega (arith, fresh_among (lengths old) 0 cuts)

  module _ (pages : List Page) (blocks : List ℕ) (is : pages ≡ planned old 0 cuts blocks) where
    pub lens_is : lengths pages ≡ planned_lens (lengths old) 0 cuts
    lens_is = ap lengths is ∙ lengths_planned old 0 cuts blocks

    pub plan_paged : IsPaged (lengths old) → IsPaged (lengths pages)
    plan_paged paged = subst IsPaged (sym lens_is) (lens_paged paged)

    pub plan_long : sum (lengths pages) ≡ edited_len (lengths old) 0 runs
    plan_long = ap sum lens_is ∙ lens_long

    pub plan_stays : (k : ℕ) (d : Page) → k < length old → IsFar k runs → Contains pages (get_or old k d)
    plan_stays k d lt far = subst (λ ps. Contains ps (get_or old k d)) (sym is) (stays old 0 0 runs cuts blocks k d are of (λ some. absurd (omega arith)) (omega arith) lt far)

    pub plan_balance : fresh_len cuts ≡ length blocks → (b : ℕ) → times b (blocks_of pages) + times b (blocks_of (gone old cuts)) ≡ times b (blocks_of old) + times b blocks
    plan_balance many b = ap (λ ps. times b (blocks_of ps) + times b (blocks_of (gone old cuts))) is ∙ balance old 0 cuts blocks b plan_order many

-- what was taken and given back leaves the map as it was
pub given_back : (old mid new blocks : List ℕ) → ((b : ℕ) → get_or mid b 0 ≡ get_or old b 0 + times b blocks) → ((b : ℕ) → get_or new b 0 + times b blocks ≡ get_or mid b 0) → length new ≡ length old → new ≡ old
given_back old mid new blocks taken given size = ext_get_or 0 new old size (λ b lt. omega (arith, taken b, given b))

-- blocks that were taken are distinct, and of the map
pub taken_once : (old new blocks : List ℕ) → AreMarks new → ((b : ℕ) → get_or new b 0 ≡ get_or old b 0 + times b blocks) → IsDistinct blocks
taken_once old new blocks are taken b = omega (arith, are b, taken b)

pub taken_within : (old new blocks : List ℕ) → ((b : ℕ) → get_or new b 0 ≡ get_or old b 0 + times b blocks) → length new ≡ length old → (k : ℕ) → k < length blocks → get_or blocks k 0 < length old
taken_within old new blocks taken size k lt =
    let b : ℕ = get_or blocks k 0 in
    omega (arith, within_map new b (omega (arith, taken b, stands blocks k lt)))
