-- The holders of a plan's pages, one cut after another.
use Rattle.std.proofs.Common.{◌≡◌, ⊎_elim, ℕ, zero, suc, ◌+◌, ◌-◌, ◌<◌, ◌≤◌, List, [], ◌∷◌, ◌++◌, length, get_or, take, drop, refl, sym, ◌∙◌, ap, subst, arith, length-append, length-drop, length-take, append_assoc}
use Rattle.std.specs.List.{sum}
use Rattle.std.proofs.lemmas.Bool.{cases_lt}
use Rattle.std.proofs.lemmas.List.{get_or-take, get_or-drop, get_or_append_left, get_or-append_right, take-take, take-append-le, take_at, take_rest, drop_at, drop_more, drop_all, take-map, drop-map, length-map, get_or_default}
use Rattle.std.proofs.lemmas.List.Sums.{sum_by-append}
use Rattle.tm_pages.specs.declared.page.Page.{Page}
use Rattle.tm_pages.specs.declared.cut.Cut.{Cut}
use Rattle.tm_pages.specs.declared.cut.Run.{Run}
use Rattle.tm_pages.specs.Paged.{IsPaged, lengths}
use Rattle.tm_pages.specs.Cuts.{cut_len, cut_lengths}
use Rattle.tm_pages.specs.Runs.{AreRuns, AreCuts, planned_lens}
use Rattle.tm_pages.proofs.Paging.{cut_paged, length-cut}
use Rattle.tm_pages.proofs.Placing.{cut_from, cut_to}
use Rattle.tm_pages.proofs.Texts.{planned_sum, sum_part, sum_before}
use Rattle.tm_records.specs.Records.{Records}
use Rattle.tm_table.specs.Text.{table_text}
use Rattle.tm_runs.specs.declared.holder.Holder.{Holder}
use Rattle.tm_runs.specs.Marks.{one, place, end, mark_at, AreHolders, AreHoldersFrom}
use Rattle.tm_runs.specs.Changes.{AreKept}
use Rattle.tm_runs.specs.After.{IsPlanFor}
use Rattle.tm_runs.proofs.Stretches.{take_more}
use Rattle.tm_runs.proofs.Heading.{start_place}

abbrev pub nought : Cut
nought = record { from = 0; to = 0; start = 0; end = 0 }

abbrev pub nowhere : Run
nowhere = record { from = 0; to = 0; text = [] }

-- a holder stands at a place of the text, and its record has that byte
abbrev pub IsAt : Records → ℕ → Holder → Type 0
IsAt new at h = (place new h ≡ at) × (h.skip < length (table_text (one h.key new)))

-- holders of some pages, and then of those behind them
stand_append : (new : Records) (base : ℕ) (a b : List ℕ) (ha hb : List Holder) → AreHoldersFrom new base a ha → AreHoldersFrom new (base + sum a) b hb → AreHoldersFrom new base (a ++ b) (ha ++ hb)
stand_append new base a b ha hb one_are two_are = record {
  many = omega (arith, length-append ha hb, length-append a b, one_are.many, two_are.many);
  each = λ k d lt. ⊎_elim
      (λ (early : k < length ha).
      let at = one_are.each k d early in
      let part : take k (a ++ b) ≡ take k a = take-append-le k a b (omega (arith, one_are.many)) in
      subst (IsAt new (base + sum (take k (a ++ b)))) (sym (get_or_append_left ha hb d k early)) (omega (arith, at.0, ap sum part), at.1))
      (λ (late : length ha ≤ k).
      let j : ℕ = k - length ha in
      let at = two_are.each j d (omega (arith, length-append ha hb)) in
      let there : k ≡ length a + j = omega (arith, one_are.many) in
      let part : sum (take k (a ++ b)) ≡ sum a + sum (take j b) = ap (λ i. sum (take i (a ++ b))) there ∙ ap sum (take_more a b j) ∙ sum_by-append (λ y. y) a (take j b) in
      subst (IsAt new (base + sum (take k (a ++ b)))) (sym (get_or-append_right ha hb (length ha) k d refl late)) (omega (arith, at.0, part), at.1))
      (cases_lt k (length ha));
}

module _ (new : Records) (holders : List Holder) (lens : List ℕ) (many : length holders ≡ length lens) where
  -- holders of pages that stay
  kept_stand : (base at count : ℕ) → at + count ≤ length lens → ((j : ℕ) (d : Holder) → j < count → IsAt new (base + sum (take j (drop at lens))) (get_or holders (at + j) d)) → AreHoldersFrom new base (take count (drop at lens)) (take count (drop at holders))
  kept_stand base at count within stand = record {
    many = omega (arith, length-take count (drop at lens), length-take count (drop at holders), length-drop at lens, length-drop at holders, many);
    each = λ k d lt.
        let early : k < count = omega (arith, length-take count (drop at holders)) in
        let at_k = stand k d early in
        let part : take k (take count (drop at lens)) ≡ take k (drop at lens) = take-take k count (drop at lens) (omega arith) in
        subst (IsAt new (base + sum (take k (take count (drop at lens))))) (sym (get_or-take count (drop at holders) k d early ∙ get_or-drop at holders k d)) (omega (arith, at_k.0, ap sum part), at_k.1);
  }

  -- what is known when some cuts are done: the runs and cuts that are left, the lengths of the pages so far, and their holders
  pub record Going (planned : List ℕ) (runs : List Run) (cuts : List Cut) (at : ℕ) (made : List Holder) : Type 0 where
    pub done : ℕ
    pub low : ℕ
    pub laid : List ℕ
    pub are : AreRuns lens low runs
    pub of : AreCuts lens runs cuts
    pub kept : AreKept new holders lens done runs
    pub since : done ≤ at
    pub near : 0 < at → at + 1 ≤ low
    pub fresh : low ≤ 1 → laid ≡ []
    pub within : at ≤ length lens
    pub whole : planned ≡ laid ++ planned_lens lens at cuts
    pub long : sum planned ≡ length (table_text new)
    pub stand : AreHoldersFrom new 0 laid made

  -- the rest of the pages, from the first cut that is left on
  module _ (planned : List ℕ) (run : Run) (runs : List Run) (cut : Cut) (cuts : List Cut) (at : ℕ) (made : List Holder) (g : Going planned (run ∷ runs) (cut ∷ cuts) at made) where
    abbrev chunk : List ℕ
    chunk = take (cut.from - at) (drop at lens)

    abbrev new_lens : List ℕ
    new_lens = cut_lengths (cut.end - cut.start)

    abbrev later : List ℕ
    later = planned_lens lens cut.to cuts

    begins : (at ≤ cut.from) × (cut.from ≤ run.from) × (run.from ≤ cut.from + 1)
    begins = cut_from lens at g.low run cut g.are.0 g.of.0 g.are.1 g.near

    ends : (run.to ≤ cut.to) × (cut.to ≤ run.to + 1) × (cut.to ≤ length lens)
    ends = cut_to lens run cut g.are.0 g.of.0

    total : sum g.laid + sum (planned_lens lens at (cut ∷ cuts)) ≡ length (table_text new)
    total = omega (arith, g.long, ap sum g.whole, sum_by-append (λ y. y) g.laid (planned_lens lens at (cut ∷ cuts)))

    from_here : AreRuns lens run.from (run ∷ runs)
    from_here = (g.are.0, omega arith, g.are.2)

    -- where a page before the run stands
    stands : (k : ℕ) → at ≤ k → k < run.from → (d : Holder) → IsAt new (sum g.laid + sum (take (k - at) (drop at lens))) (get_or holders k d)
    stands k le lt d =
        let left = g.kept.0 k d (omega (arith, g.since)) lt in
        let rest = planned_sum lens at k run.from (run ∷ runs) (cut ∷ cuts) from_here g.of le (λ some. omega arith) in
        (omega (arith, left.0, rest, total), left.1)

    pub kept_are : AreHoldersFrom new (sum g.laid) chunk (take (cut.from - at) (drop at holders))
    kept_are = kept_stand (sum g.laid) at (cut.from - at) (omega (arith, begins.0, begins.1, g.are.0.rises, g.are.0.inside)) (λ j d lt.
        let here : at + j - at ≡ j = omega arith in
        subst (λ i. IsAt new (sum g.laid + sum (take i (drop at lens))) (get_or holders (at + j) d)) here (stands (at + j) (omega arith) (omega (arith, begins.1)) d))

    -- where the page before the run stands
    before_place : (k : ℕ) → k ≡ run.from - 1 → place new (mark_at holders k) ≡ sum g.laid + sum (take (k - at) (drop at lens))
    before_place zero is =
        let none : at ≡ 0 = ⊎_elim (λ (some : 0 < at). absurd (omega (arith, g.near some, g.are.1))) (λ (le : at ≤ 0). omega arith) (cases_lt 0 at) in
        let empty : g.laid ≡ [] = g.fresh (omega (arith, g.are.1)) in
        let nothing : zero - at ≡ 0 = omega arith in
        omega (arith, start_place new, ap sum empty, ap (λ i. sum (take i (drop at lens))) nothing)
    before_place (suc k) is =
        let le : at ≤ suc k = ⊎_elim (λ (some : 0 < at). omega (arith, g.near some, g.are.1)) (λ (none : at ≤ 0). omega arith) (cases_lt 0 at) in
        (stands (suc k) le (omega arith) end).0

    -- where the new pages begin
    pub fresh_place : place new (mark_at holders (run.from - 1)) + cut.start ≡ sum g.laid + sum chunk
    fresh_place =
        let first = before_place (run.from - 1) refl in
        let le : at ≤ run.from - 1 = ⊎_elim (λ (some : 0 < at). omega (arith, g.near some, g.are.1)) (λ (none : at ≤ 0). omega arith) (cases_lt 0 at) in
        ⊎_elim
        (λ front.
        let same : cut.from ≡ run.from = front.0 in
        omega (arith, first, front.1, ap (λ i. sum (take (i - at) (drop at lens))) same, sum_part lens at run.from (omega (arith, begins.0)), sum_part lens at (run.from - 1) le, sum_before lens run.from))
        (λ front.
        let same : cut.from ≡ run.from - 1 = omega (arith, front.0) in
        omega (arith, first, front.1, ap (λ i. sum (take (i - at) (drop at lens))) same))
        g.of.0.front

    pub inside_at : (at ≤ cut.from) × (cut.from ≤ length holders) × (cut.to ≤ length holders) × (0 < run.from - 1 → run.from - 1 < length holders)
    inside_at = (begins.0, omega (arith, begins.1, g.are.0.rises, g.are.0.inside, many), omega (arith, ends.2, many), λ some. omega (arith, g.are.0.rises, g.are.0.inside, many))

    pub made_more : (grown : List Holder) → grown ≡ made ++ take (cut.from - at) (drop at holders) → length grown ≡ length made + (cut.from - at)
    made_more grown is = omega (arith, ap length is, length-append made (take (cut.from - at) (drop at holders)), length-take (cut.from - at) (drop at holders), length-drop at holders, inside_at.0, inside_at.1)

    abbrev front : List ℕ
    front = g.laid ++ chunk

    front_long : length front ≡ length made + (cut.from - at)
    front_long = omega (arith, length-append g.laid chunk, g.stand.many, length-take (cut.from - at) (drop at lens), length-drop at lens, begins.0, begins.1, g.are.0.rises, g.are.0.inside)

    parts : planned ≡ front ++ (new_lens ++ later)
    parts = g.whole ∙ sym (append_assoc g.laid chunk (new_lens ++ later))

    -- the new pages among all
    module _ (pages : List Page) (is : lengths pages ≡ planned) where
      pub pages_enough : length made + (cut.from - at) + cut_len (cut.end - cut.start) ≤ length pages
      pages_enough = omega (arith, ap length is, ap length parts, length-append front (new_lens ++ later), length-append new_lens later, length-cut (cut.end - cut.start), front_long, length-map pages (λ (p : Page). p.length))

      pub slice_is : (first count : ℕ) → first ≡ length made + (cut.from - at) → count ≡ cut_len (cut.end - cut.start) → lengths (take count (drop first pages)) ≡ new_lens
      slice_is first count place_is count_is =
          sym (take-map (λ (p : Page). p.length) count (drop first pages)) ∙ ap (take count) (sym (drop-map (λ (p : Page). p.length) first pages) ∙ ap (drop first) (is ∙ parts))
          ∙ ap (take count) (drop_at front (new_lens ++ later) first (omega (arith, front_long)))
          ∙ take_at new_lens later count (omega (arith, length-cut (cut.end - cut.start)))

    pub fresh_paged : IsPaged new_lens
    fresh_paged = cut_paged (cut.end - cut.start)

    pub fresh_within : place new (mark_at holders (run.from - 1)) + cut.start + sum new_lens ≤ length (table_text new)
    fresh_within = omega (arith, fresh_place, total, sum_by-append (λ y. y) chunk (new_lens ++ later), sum_by-append (λ y. y) new_lens later)

    pub going_on : (fresh grown : List Holder) → grown ≡ (made ++ take (cut.from - at) (drop at holders)) ++ fresh → AreHoldersFrom new (place new (mark_at holders (run.from - 1)) + cut.start) new_lens fresh → Going planned runs cuts cut.to grown
    going_on fresh grown is fresh_are = record {
      done = run.to;
      low = run.to + 2;
      laid = front ++ new_lens;
      are = g.are.2;
      of = g.of.1;
      kept = g.kept.1;
      since = ends.0;
      near = λ some. omega (arith, ends.1);
      fresh = λ le. absurd (omega arith);
      within = ends.2;
      whole = parts ∙ sym (append_assoc front new_lens later);
      long = g.long;
      stand =
          let nought_base : sum g.laid ≡ 0 + sum g.laid = omega arith in
          let both = stand_append new 0 g.laid chunk made (take (cut.from - at) (drop at holders)) g.stand (subst (λ b. AreHoldersFrom new b chunk (take (cut.from - at) (drop at holders))) nought_base kept_are) in
          let base : place new (mark_at holders (run.from - 1)) + cut.start ≡ 0 + sum front = omega (arith, fresh_place, sum_by-append (λ y. y) g.laid chunk) in
          subst (AreHoldersFrom new 0 (front ++ new_lens)) (sym is)
          (stand_append new 0 front new_lens (made ++ take (cut.from - at) (drop at holders)) fresh both (subst (λ b. AreHoldersFrom new b new_lens fresh) base fresh_are));
    }

  -- behind the last cut
  pub going_end : (planned : List ℕ) (at : ℕ) (made all : List Holder) → Going planned [] [] at made → all ≡ made ++ take (length holders - at) (drop at holders) → AreHolders new planned all
  going_end planned at made all g is =
      let count : ℕ = length lens - at in
      let total : sum g.laid + sum (drop at lens) ≡ length (table_text new) = omega (arith, g.long, ap sum g.whole, sum_by-append (λ y. y) g.laid (drop at lens)) in
      let nought_base : sum g.laid ≡ 0 + sum g.laid = omega arith in
      let rest : AreHoldersFrom new (sum g.laid) (take count (drop at lens)) (take count (drop at holders)) = kept_stand (sum g.laid) at count (omega (arith, g.within)) (λ j d lt.
      let left = g.kept (at + j) d (omega (arith, g.since)) (omega arith) in
      let here : at + j - at ≡ j = omega arith in
      (omega (arith, left.0, total, sum_part lens at (at + j) (omega arith), ap (λ i. sum (take i (drop at lens))) here), left.1)) in
      let lens_are : take count (drop at lens) ≡ drop at lens = take_rest lens at in
      let same : count ≡ length holders - at = omega (arith, many) in
      let every : AreHoldersFrom new 0 (g.laid ++ drop at lens) (made ++ take (length holders - at) (drop at holders)) =
      stand_append new 0 g.laid (drop at lens) made (take (length holders - at) (drop at holders)) g.stand
      (subst (λ b. AreHoldersFrom new b (drop at lens) (take (length holders - at) (drop at holders))) nought_base
      (subst (λ ls. AreHoldersFrom new (sum g.laid) ls (take (length holders - at) (drop at holders))) lens_are (subst (λ c. AreHoldersFrom new (sum g.laid) (take count (drop at lens)) (take c (drop at holders))) same rest))) in
      let stand : AreHoldersFrom new 0 planned all = subst (AreHoldersFrom new 0 planned) (sym is) (subst (λ ls. AreHoldersFrom new 0 ls (made ++ take (length holders - at) (drop at holders))) (sym g.whole) every) in
      record { many = stand.many; whole = g.long; each = λ k d lt. let at_k = stand.each k d lt in (omega (arith, at_k.0), at_k.1) }

  -- what is left after the last cut
  pub going_none : (planned : List ℕ) (runs : List Run) (cuts : List Cut) (at : ℕ) (made : List Holder) → cuts ≡ [] → Going planned runs cuts at made → Going planned [] [] at made
  going_none planned [] cuts at made none g = subst (λ cs. Going planned [] cs at made) none g
  going_none planned (run ∷ runs) cuts at made none g = absurd (subst (λ cs. AreCuts lens (run ∷ runs) cs) none g.of)

  -- the runs that are left begin with one where the cuts do
  pub going_run : (planned : List ℕ) (runs : List Run) (cuts : List Cut) (k at : ℕ) (made : List Holder) → k < length cuts → Going planned (drop k runs) (drop k cuts) at made → k < length runs
  going_run planned runs cuts k at made lt g = ⊎_elim
      (λ (inside : k < length runs). inside)
      (λ (past : length runs ≤ k).
      let none : AreCuts lens [] (get_or cuts k nought ∷ drop (k + 1) cuts) = subst (λ rs. AreCuts lens rs (get_or cuts k nought ∷ drop (k + 1) cuts)) (drop_all k runs past) (subst (AreCuts lens (drop k runs)) (drop_more cuts k nought lt) g.of) in
      absurd none)
      (cases_lt k (length runs))

  -- the run and the cut that are next
  pub going_next : (planned : List ℕ) (runs : List Run) (cuts : List Cut) (k at : ℕ) (made : List Holder) (run : Run) → k < length cuts → run ≡ get_or runs k run → Going planned (drop k runs) (drop k cuts) at made
      → Going planned (run ∷ drop (k + 1) runs) (get_or cuts k nought ∷ drop (k + 1) cuts) at made
  going_next planned runs cuts k at made run lt is g =
      let first : drop k runs ≡ run ∷ drop (k + 1) runs = drop_more runs k run (going_run planned runs cuts k at made lt g) ∙ ap (λ (r : Run). r ∷ drop (k + 1) runs) (sym is) in
      subst (λ rs. Going planned rs (get_or cuts k nought ∷ drop (k + 1) cuts) at made) first (subst (λ cs. Going planned (drop k runs) cs at made) (drop_more cuts k nought lt) g)

  pub going_last : (planned : List ℕ) (runs : List Run) (cuts : List Cut) (k at : ℕ) (made : List Holder) → length cuts ≤ k → Going planned (drop k runs) (drop k cuts) at made → Going planned [] [] at made
  going_last planned runs cuts k at made past g = going_none planned (drop k runs) (drop k cuts) at made (drop_all k cuts past) g

  pub going_here : (planned : List ℕ) (runs : List Run) (cuts : List Cut) (k at : ℕ) (made : List Holder) → k < length cuts → Going planned (drop k runs) (drop k cuts) at made
      → Going planned (get_or runs k nowhere ∷ drop (k + 1) runs) (get_or cuts k nought ∷ drop (k + 1) cuts) at made
  going_here planned runs cuts k at made lt g = going_next planned runs cuts k at made (get_or runs k nowhere) lt (get_or_default runs k nowhere (get_or runs k nowhere) (going_run planned runs cuts k at made lt g)) g

pub going_start : (new : Records) (holders made : List Holder) (runs : List Run) (cuts : List Cut) (planned : List ℕ) (p : IsPlanFor new holders runs cuts planned) → made ≡ [] → Going new holders p.old p.many planned runs cuts 0 made
going_start new holders made runs cuts planned p none = record {
  done = 0;
  low = 0;
  laid = [];
  are = p.runs_are;
  of = p.cuts_are;
  kept = p.kept;
  since = omega arith;
  near = λ some. absurd (omega arith);
  fresh = λ le. refl;
  within = omega arith;
  whole = p.lens;
  long = ap sum p.lens ∙ planned_sum p.old 0 0 0 runs cuts p.runs_are p.cuts_are (omega arith) (λ some. absurd (omega arith)) ∙ omega (arith, p.long);
  stand = subst (AreHoldersFrom new 0 []) (sym none) (record { many = refl; each = λ k d lt. absurd (omega arith) });
}

-- blocks that pages are cut into, by how many they are
pub slice_paged : (pages : List Page) (first count n : ℕ) → count ≡ cut_len n → lengths (take (cut_len n) (drop first pages)) ≡ cut_lengths n → IsPaged (lengths (take (first + count - first) (drop first pages)))
slice_paged pages first count n is lens =
    let same : first + count - first ≡ cut_len n = omega arith in
    subst (λ c. IsPaged (lengths (take c (drop first pages)))) (sym same) (subst IsPaged (sym lens) (cut_paged n))
