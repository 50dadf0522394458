-- The text of a plan's pages, and how long it is.
use Rattle.std.proofs.Common.{◌≡◌, ℕ, zero, suc, ◌+◌, ◌-◌, ◌*◌, ◌<◌, ◌≤◌, min, List, [], ◌∷◌, ◌++◌, length, get_or, take, drop, map, refl, sym, ◌∙◌, ap, arith, ⊎_elim, append_assoc, append-nil}
use Rattle.std.specs.List.{sum, range_with_len}
use Rattle.std.proofs.lemmas.List.{get_or_past, drop_all, take-append-drop, drop-take, take-take}
use Rattle.std.proofs.lemmas.List.FromFn.{map-range_with_len_more}
use Rattle.std.proofs.lemmas.List.Concat.{flat_map-append}
use Rattle.std.proofs.lemmas.List.Sums.{sum_by-append, sum_by-drop_more}
use Rattle.std.proofs.lemmas.Bool.{cases_lt}
use Rattle.tm_pages.specs.declared.page.Page.{Page}
use Rattle.tm_pages.specs.declared.cut.Cut.{Cut}
use Rattle.tm_pages.specs.declared.cut.Run.{Run}
use Rattle.tm_pages.specs.Paged.{lengths, text_on}
use Rattle.tm_pages.specs.Cuts.{IsCutOf, before_of, after_of, cut_len, piece_len, cut_lengths}
use Rattle.tm_pages.specs.Runs.{AreRuns, AreCuts, pages_on, planned, planned_lens, edited, edited_len}
use Rattle.tm_pages.specs.Plans.{new_part, AreWritten, page_before, AreBetween}
use Rattle.tm_pages.proofs.Planning.{parted}
use Rattle.tm_pages.proofs.Placing.{cut_to, cut_from}

sum_pieces : (n k : ℕ) → k ≤ cut_len n → sum (map (piece_len n) (range_with_len 0 k)) ≡ min n (4096 * k)
sum_pieces n zero le = omega arith
sum_pieces n (suc k) le =
    let next : suc k ≡ k + 1 = omega arith in
    ap (λ j. sum (map (piece_len n) (range_with_len 0 j))) next ∙ ap sum (map-range_with_len_more (piece_len n) 0 k k (omega arith))
    ∙ omega (arith, sum_by-append (λ y. y) (map (piece_len n) (range_with_len 0 k)) (piece_len n k ∷ []), sum_pieces n k (omega arith))

pub sum_cut : (n : ℕ) → sum (cut_lengths n) ≡ n
unfolding cut_lengths
sum_cut n = omega (arith, sum_pieces n (cut_len n) (omega arith))

-- the sum from one place on to another
pub sum_part : (lens : List ℕ) (at f : ℕ) → at ≤ f → sum (take (f - at) (drop at lens)) + sum (drop f lens) ≡ sum (drop at lens)
sum_part lens at f le = omega (arith, ap sum (parted lens at f le), sum_by-append (λ y. y) (take (f - at) (drop at lens)) (drop f lens))

sum_next : (lens : List ℕ) (k : ℕ) → sum (drop k lens) ≡ get_or lens k 0 + sum (drop (k + 1) lens)
sum_next lens k = ⊎_elim
    (λ (lt : k < length lens). sum_by-drop_more (λ y. y) lens k 0 lt)
    (λ (le : length lens ≤ k). omega (arith, get_or_past lens k 0 le, ap sum (drop_all k lens le), ap sum (drop_all (k + 1) lens (omega arith))))
    (cases_lt k (length lens))

pub sum_before : (lens : List ℕ) (from : ℕ) → sum (drop (from - 1) lens) ≡ before_of lens from + sum (drop from lens)
sum_before lens zero = omega arith
sum_before lens (suc k) =
    let here : suc k - 1 ≡ k = omega arith in
    let next : k + 1 ≡ suc k = omega arith in
    ap (λ i. sum (drop i lens)) here ∙ sum_next lens k ∙ ap (λ i. get_or lens k 0 + sum (drop i lens)) next

pub planned_sum : (lens : List ℕ) (at e low : ℕ) (runs : List Run) (cuts : List Cut) → AreRuns lens low runs → AreCuts lens runs cuts → at ≤ e → (0 < e → e + 1 ≤ low) → sum (planned_lens lens at cuts) ≡ sum (take (e - at) (drop at lens)) + edited_len lens e runs
planned_sum lens at e low [] [] are of le room = sym (sum_part lens at e le)
planned_sum lens at e low [] (cut ∷ cuts) are of le room = absurd of
planned_sum lens at e low (run ∷ runs) [] are of le room = absurd of
planned_sum lens at e low (run ∷ runs) (cut ∷ cuts) are of le room =
    let n : ℕ = cut.end - cut.start in
    let within = of.0.within in
    let begins = cut_from lens at low run cut are.0 of.0 are.1 (λ some. omega (arith, room (omega arith))) in
    let ends = cut_to lens run cut are.0 of.0 in
    let rest = planned_sum lens cut.to (run.to + 1) (run.to + 2) runs cuts are.2 of.1 ends.1 (λ some. omega arith) in
    let early : e ≤ run.from - 1 = ⊎_elim (λ (some : 0 < e). omega (arith, room some, are.1)) (λ (none : e ≤ 0). omega arith) (cases_lt 0 e) in
    let front : sum (drop (run.from - 1) lens) ≡ cut.start + sum (drop cut.from lens) = ⊎_elim
    (λ f. sum_before lens run.from ∙ omega (arith, f.1, ap (λ i. sum (drop i lens)) f.0))
    (λ f. let here : run.from - 1 ≡ cut.from = omega (arith, f.0) in omega (arith, f.1, ap (λ i. sum (drop i lens)) here))
    of.0.front in
    let back : sum (drop cut.to lens) + cut.end ≡ length run.text + sum (drop (run.to + 1) lens) = ⊎_elim
    (λ b. omega (arith, b.1, ap (λ i. sum (drop i lens)) b.0, sum_next lens run.to))
    (λ b. omega (arith, b.1, ap (λ i. sum (drop i lens)) b.0))
    of.0.back in
    omega (
      arith,
      rest,
      front,
      back,
      within.0,
      within.1,
      sum_cut n,
      sum_part lens at cut.from begins.0,
      sum_part lens at e le,
      sum_part lens e (run.from - 1) early,
      sum_part lens cut.to (run.to + 1) ends.1,
      sum_by-append (λ y. y) (take (cut.from - at) (drop at lens)) (cut_lengths n ++ planned_lens lens cut.to cuts),
      sum_by-append (λ y. y) (cut_lengths n) (planned_lens lens cut.to cuts),
    )

-- the part from one place on to another, in two
pub parted_twice : {A : Type 0} (xs : List A) (i j k : ℕ) → i ≤ j → j ≤ k → take (k - i) (drop i xs) ≡ take (j - i) (drop i xs) ++ take (k - j) (drop j xs)
parted_twice xs i j k le le2 =
    let whole : i + (k - i) ≡ k = omega arith in
    let tail : j + (k - j) ≡ k = omega arith in
    let all : drop i (take k xs) ≡ take (k - i) (drop i xs) = ap (λ m. drop i (take m xs)) (sym whole) ∙ drop-take i (k - i) xs in
    let end : drop j (take k xs) ≡ take (k - j) (drop j xs) = ap (λ m. drop j (take m xs)) (sym tail) ∙ drop-take j (k - j) xs in
    sym all ∙ parted (take k xs) i j le ∙ ap (λ t. take (j - i) t ++ drop j (take k xs)) all ∙ ap (λ t. t ++ drop j (take k xs)) (take-take (j - i) (k - i) (drop i xs) (omega arith)) ∙ ap (λ t. take (j - i) (drop i xs) ++ t) end

pub text-append : (xs ys : List Page) (bytes : ℕ → List ℕ) → text_on (xs ++ ys) bytes ≡ text_on xs bytes ++ text_on ys bytes
unfolding text_on
text-append xs ys bytes = flat_map-append (λ (p : Page). take p.length (bytes p.block)) xs ys

pub text-none : (bytes : ℕ → List ℕ) → text_on [] bytes ≡ []
unfolding text_on
text-none bytes = refl

-- the text of the pages from one place on to another
abbrev between : List Page → (ℕ → List ℕ) → ℕ → ℕ → List ℕ
between old bytes i j = text_on (take (j - i) (drop i old)) bytes

between_twice : (old : List Page) (bytes : ℕ → List ℕ) (i j k : ℕ) → i ≤ j → j ≤ k → between old bytes i k ≡ between old bytes i j ++ between old bytes j k
between_twice old bytes i j k le le2 = ap (λ ps. text_on ps bytes) (parted_twice old i j k le le2) ∙ text-append (take (j - i) (drop i old)) (take (k - j) (drop j old)) bytes

between_none : (old : List Page) (bytes : ℕ → List ℕ) (i j : ℕ) → j ≤ i → between old bytes i j ≡ []
between_none old bytes i j le =
    let nought : j - i ≡ 0 = omega arith in
    ap (λ m. text_on (take m (drop i old)) bytes) nought ∙ text-none bytes

pub between_rest : (old : List Page) (bytes : ℕ → List ℕ) (i j : ℕ) → i ≤ j → text_on (drop i old) bytes ≡ between old bytes i j ++ text_on (drop j old) bytes
between_rest old bytes i j le = ap (λ ps. text_on ps bytes) (parted old i j le) ∙ text-append (take (j - i) (drop i old)) (drop j old) bytes

-- the page before a run
between_before : (old : List Page) (bytes : ℕ → List ℕ) (at from : ℕ) → at ≤ from - 1 → at ≤ from → between old bytes at from ≡ between old bytes at (from - 1) ++ text_on (page_before old from) bytes
between_before old bytes at zero le le2 = sym (append-nil (between old bytes at zero)) ∙ ap (λ t. between old bytes at zero ++ t) (sym (text-none bytes))
between_before old bytes at (suc k) le le2 =
    let here : suc k - 1 ≡ k = omega arith in
    let one : suc k - k ≡ 1 = omega arith in
    between_twice old bytes at k (suc k) (omega arith) (omega arith) ∙ ap (λ m. between old bytes at k ++ text_on (take m (drop k old)) bytes) one
    ∙ ap (λ m. between old bytes at m ++ text_on (take 1 (drop k old)) bytes) (sym here)

module _ (old : List Page) (bytes : ℕ → List ℕ) (at : ℕ) (run : Run) (cut : Cut) (is : IsCutOf (lengths old) run cut) where
  front_text : at ≤ run.from - 1 → at ≤ run.from → text_on (page_before old run.from) bytes ≡ take (before_of (lengths old) run.from) run.text
      → between old bytes at cut.from ≡ between old bytes at (run.from - 1) ++ take cut.start run.text
  front_text le le2 before = ⊎_elim
      (λ f. ap (between old bytes at) f.0 ∙ between_before old bytes at run.from le le2 ∙ ap (λ t. between old bytes at (run.from - 1) ++ t) (before ∙ ap (λ m. take m run.text) (sym f.1)))
      (λ f.
      let here : cut.from ≡ run.from - 1 = omega (arith, f.0) in
      ap (between old bytes at) here ∙ sym (append-nil (between old bytes at (run.from - 1))) ∙ ap (λ m. between old bytes at (run.from - 1) ++ take m run.text) (sym f.1))
      is.front

  back_text : text_on (take 1 (drop run.to old)) bytes ≡ drop (length run.text - after_of (lengths old) run.to) run.text → between old bytes cut.to (run.to + 1) ≡ drop cut.end run.text
  back_text after = ⊎_elim
      (λ b.
      let one : run.to + 1 - run.to ≡ 1 = omega arith in
      let end : length run.text - after_of (lengths old) run.to ≡ cut.end = omega (arith, b.1) in
      ap (λ i. between old bytes i (run.to + 1)) b.0 ∙ ap (λ m. text_on (take m (drop run.to old)) bytes) one ∙ after ∙ ap (λ m. drop m run.text) end)
      (λ b.
      let end : length run.text ≤ cut.end = omega (arith, b.1) in
      between_none old bytes cut.to (run.to + 1) (omega (arith, b.0)) ∙ sym (drop_all cut.end run.text end))
      is.back

  -- the kept front, the new part and the kept end of a run's text
  whole_text : take cut.start run.text ++ (new_part run cut ++ drop cut.end run.text) ≡ run.text
  whole_text = ap (λ t. take cut.start run.text ++ t) (sym (parted run.text cut.start cut.end is.within.0)) ∙ take-append-drop cut.start run.text

regroup : (a b c d e : List ℕ) → (a ++ b) ++ (c ++ (d ++ e)) ≡ a ++ ((b ++ (c ++ d)) ++ e)
regroup a b c d e = simp append_assoc

pub planned_text : (old : List Page) (bytes : ℕ → List ℕ) (at e low : ℕ) (runs : List Run) (cuts : List Cut) (blocks : List ℕ) → AreRuns (lengths old) low runs → AreCuts (lengths old) runs cuts → at ≤ e → (0 < e → e + 1 ≤ low)
    → AreWritten bytes runs cuts blocks → AreBetween old bytes runs → text_on (planned old at cuts blocks) bytes ≡ between old bytes at e ++ edited old bytes e runs
planned_text old bytes at e low [] [] blocks are of le room written around = between_rest old bytes at e le
planned_text old bytes at e low [] (cut ∷ cuts) blocks are of le room written around = absurd of
planned_text old bytes at e low (run ∷ runs) [] blocks are of le room written around = absurd of
planned_text old bytes at e low (run ∷ runs) (cut ∷ cuts) blocks are of le room written around =
    let n : ℕ = cut.end - cut.start in
    let front : List Page = take (cut.from - at) (drop at old) in
    let later : List ℕ = drop (cut_len n) blocks in
    let rest : List Page = planned old cut.to cuts later in
    let begins = cut_from (lengths old) at low run cut are.0 of.0 are.1 (λ some. omega (arith, room (omega arith))) in
    let ends = cut_to (lengths old) run cut are.0 of.0 in
    let early : e ≤ run.from - 1 = ⊎_elim (λ (some : 0 < e). omega (arith, room some, are.1)) (λ (none : e ≤ 0). omega arith) (cases_lt 0 e) in
    let tail : List ℕ = edited old bytes (run.to + 1) runs in
    let there = planned_text old bytes cut.to (run.to + 1) (run.to + 2) runs cuts later are.2 of.1 ends.1 (λ some. omega arith) written.1 around.2 in
    let a : List ℕ = between old bytes at (run.from - 1) in
    text-append front (pages_on blocks n ++ rest) bytes
    ∙ ap (λ t. between old bytes at cut.from ++ t) (text-append (pages_on blocks n) rest bytes)
    ∙ ap (λ t. between old bytes at cut.from ++ (t ++ text_on rest bytes)) written.0
    ∙ ap (λ t. between old bytes at cut.from ++ (new_part run cut ++ t)) there
    ∙ ap (λ t. between old bytes at cut.from ++ (new_part run cut ++ (t ++ tail))) (back_text old bytes at run cut of.0 around.1)
    ∙ ap (λ t. t ++ (new_part run cut ++ (drop cut.end run.text ++ tail))) (front_text old bytes at run cut of.0 (omega arith) (omega arith) around.0)
    ∙ regroup a (take cut.start run.text) (new_part run cut) (drop cut.end run.text) tail
    ∙ ap (λ t. a ++ (t ++ tail)) (whole_text old bytes at run cut of.0)
    ∙ ap (λ t. t ++ (run.text ++ tail)) (between_twice old bytes at e (run.from - 1) le early)
    ∙ append_assoc (between old bytes at e) (between old bytes e (run.from - 1)) (run.text ++ tail)
