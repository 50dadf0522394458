-- What runs make of the text.
use Rattle.std.proofs.Common.{◌≡◌, ◌⊎◌, inl, inr, ⊎_elim, ℕ, zero, suc, ◌+◌, ◌-◌, ◌<◌, ◌≤◌, ◌^◌, List, [], ◌∷◌, ◌++◌, length, min, get_or, take, drop, refl, sym, ◌∙◌, ap, subst, arith, length-append, append_assoc, append-nil}
use Rattle.std.specs.List.{All, sum}
use Rattle.std.proofs.lemmas.Bool.{cases_lt}
use Rattle.std.proofs.lemmas.List.{get_or_default, get_or_past, take_at, drop_at, take_all, take-append-drop, length-take, length-take-le, length-map, length-drop, append_cancel_left}
use Rattle.std.proofs.lemmas.List.Elements.{All-cons, All-tail}
use Rattle.std.proofs.lemmas.List.Sums.{sum_by-append, sum_by-cons}
use Rattle.tm_pages.specs.declared.page.Page.{Page}
use Rattle.tm_pages.specs.declared.cut.Run.{Run}
use Rattle.tm_pages.specs.Paged.{IsPaged, lengths, text_on}
use Rattle.tm_pages.specs.Cuts.{before_of, after_of}
use Rattle.tm_pages.specs.Runs.{AreRuns, IsRun, edited, edited_len}
use Rattle.tm_pages.specs.Plans.{AreBetween, page_before}
use Rattle.tm_pages.proofs.Texts.{text-append, text-none, parted_twice}
use Rattle.tm_records.specs.Records.{Records}
use Rattle.tm_table.specs.Text.{table_text}
use Rattle.tm_runs.specs.declared.holder.Holder.{Holder}
use Rattle.tm_runs.specs.Marks.{below, part, one, place, text_between, end, mark_at, IsUpTo, IsNoLater, AreHolders, MarksRise}
use Rattle.tm_runs.specs.Changes.{IsChangedAt, IsClear, IsRunFor, AreRunsFor, AreNumbered, MakesText, RunsChangeTheText, HoldersRise, IsLeft, AreKept, FitPages, RunsFitPages}
use Rattle.tm_runs.proofs.Holding.{text_one, sum_more, holding}
use Rattle.tm_runs.proofs.Stretches.{IsIn, between_split, between_start, between_long, places_order, below_zero, rest_zero, table-none}

-- each page's block has as many bytes as are read
abbrev AreFull : List Page → (ℕ → List ℕ) → Type 0
AreFull pages bytes = All (λ p. p.length ≤ length (bytes p.block)) pages

text_cons : (bytes : ℕ → List ℕ) (p : Page) (ps : List Page) → length (text_on (p ∷ ps) bytes) ≡ min p.length (length (bytes p.block)) + length (text_on ps bytes)
text_cons bytes p ps =
    let one : length (text_on (p ∷ []) bytes) ≡ length (take p.length (bytes p.block)) = ap length (text_one bytes p) in
    let whole : length (text_on (p ∷ ps) bytes) ≡ length (text_on (p ∷ []) bytes ++ text_on ps bytes) = ap length (text-append (p ∷ []) ps bytes) in
    omega (arith, one, whole, length-take p.length (bytes p.block), length-append (text_on (p ∷ []) bytes) (text_on ps bytes))

text_le : (bytes : ℕ → List ℕ) (ps : List Page) → length (text_on ps bytes) ≤ sum (lengths ps)
text_le bytes [] = omega (arith, ap length (text-none bytes))
text_le bytes (p ∷ ps) =
    let total : sum (lengths (p ∷ ps)) ≡ p.length + sum (lengths ps) = sum_by-cons (λ y. y) p.length (lengths ps) in
    omega (arith, text_cons bytes p ps, text_le bytes ps, total)

-- a text that is as long as its pages are fills each
full_from : (bytes : ℕ → List ℕ) (ps : List Page) → length (text_on ps bytes) ≡ sum (lengths ps) → AreFull ps bytes
full_from bytes [] is = λ k d lt. absurd (omega arith)
full_from bytes (p ∷ ps) is =
    let total : sum (lengths (p ∷ ps)) ≡ p.length + sum (lengths ps) = sum_by-cons (λ y. y) p.length (lengths ps) in
    All-cons (λ (q : Page). q.length ≤ length (bytes q.block)) p ps (omega (arith, is, text_cons bytes p ps, text_le bytes ps, total)) (full_from bytes ps (omega (arith, is, text_cons bytes p ps, text_le bytes ps, total)))

-- the length of the first pages' text
text_long : (bytes : ℕ → List ℕ) (k : ℕ) (ps : List Page) → AreFull ps bytes → length (text_on (take k ps) bytes) ≡ sum (take k (lengths ps))
text_long bytes zero ps full = ap length (text-none bytes)
text_long bytes (suc k) [] full = ap length (text-none bytes)
text_long bytes (suc k) (p ∷ ps) full =
    let this : length (take p.length (bytes p.block)) ≡ p.length = length-take-le p.length (bytes p.block) (full 0 p (omega arith)) in
    let more : length (text_on (take k ps) bytes) ≡ sum (take k (lengths ps)) = text_long bytes k ps (All-tail (λ (q : Page). q.length ≤ length (bytes q.block)) p ps full) in
    let one : length (text_on (p ∷ []) bytes) ≡ length (take p.length (bytes p.block)) = ap length (text_one bytes p) in
    let whole : length (text_on (take (suc k) (p ∷ ps)) bytes) ≡ length (text_on (p ∷ []) bytes ++ text_on (take k ps) bytes) = ap length (text-append (p ∷ []) (take k ps) bytes) in
    let total : sum (take (suc k) (lengths (p ∷ ps))) ≡ p.length + sum (take k (lengths ps)) = sum_by-cons (λ y. y) p.length (take k (lengths ps)) in
    omega (arith, this, more, one, whole, total, length-append (text_on (p ∷ []) bytes) (text_on (take k ps) bytes))

pub sums_rise : (lens : List ℕ) → IsPaged lens → (i j : ℕ) → i < j → j ≤ length lens → sum (take i lens) < sum (take j lens)
sums_rise lens paged i zero lt le = absurd (omega arith)
sums_rise lens paged i (suc j) lt le =
    let next : j + 1 ≡ suc j = omega arith in
    let here : sum (take j lens) < sum (take (suc j) lens) = omega (arith, sum_more lens j (omega arith), (paged.each j (omega arith)).0, ap (λ k. sum (take k lens)) next) in
    ⊎_elim
    (λ (less : i < j). omega (arith, here, sums_rise lens paged i j less (omega arith)))
    (λ (ge : j ≤ i). let same : i ≡ j = omega arith in omega (arith, here, ap (λ k. sum (take k lens)) same))
    (cases_lt i j)

pub up_to_before : (m n : Holder) (k : ℕ) → IsNoLater m n → IsUpTo n k → IsUpTo m k
up_to_before m n k order is = ⊎_elim
    (λ (lt : m.key < n.key). inl (⊎_elim (λ (less : n.key < k). omega arith) (λ h. omega (arith, h.0)) is))
    (λ o. ⊎_elim (λ (less : n.key < k). inl (omega (arith, o.0))) (λ h. inr (omega (arith, o.0, h.0), omega (arith, o.1, h.1))) is)
    order

pub key_le : (m n : Holder) → IsNoLater m n → m.key ≤ n.key
key_le m n order = ⊎_elim (λ (lt : m.key < n.key). omega arith) (λ h. omega (arith, h.0)) order

module _ (old : Records) (pages : List Page) (holders : List Holder) (some : 0 < length pages) (paged : IsPaged (lengths pages)) (numbered : AreNumbered old) (are : AreHolders old (lengths pages) holders) where
  abbrev mark : ℕ → Holder
  mark k = mark_at holders k

  abbrev lens : List ℕ
  lens = lengths pages

  long : length holders ≡ length pages
  long = are.many ∙ length-map pages (λ (p : Page). p.length)

  mark_past : (k : ℕ) → length holders ≤ k → mark k ≡ end
  mark_past zero le = absurd (omega (arith, long, some))
  mark_past (suc k) le = get_or_past holders (suc k) end le

  pub mark_in : (k : ℕ) → IsIn old (mark k)
  mark_in zero = omega arith
  mark_in (suc k) = ⊎_elim
      (λ (lt : suc k < length holders). omega (arith, (are.each (suc k) end lt).1))
      (λ (le : length holders ≤ suc k). subst (IsIn old) (sym (mark_past (suc k) le)) (omega arith))
      (cases_lt (suc k) (length holders))

  place_end : place old end ≡ sum lens
  place_end =
      let all : below (2 ^ 64) old ≡ old = ap (below (2 ^ 64)) (sym (rest_zero old)) ∙ numbered in
      omega (arith, are.whole, ap (λ es. length (table_text es)) all)

  pub place_is : (k : ℕ) → place old (mark k) ≡ sum (take k lens)
  place_is zero = omega (arith, ap (λ es. length (table_text es)) (below_zero old), ap length table-none)
  place_is (suc k) = ⊎_elim
      (λ (lt : suc k < length holders). (are.each (suc k) end lt).0)
      (λ (le : length holders ≤ suc k). ap (place old) (mark_past (suc k) le) ∙ place_end ∙ ap sum (sym (take_all (suc k) lens (omega (arith, are.many)))))
      (cases_lt (suc k) (length holders))

  order_within : (i j : ℕ) → i ≤ j → j ≤ length holders → IsNoLater (mark i) (mark j)
  order_within i j le within = ⊎_elim
      (λ (lt : i < j). ⊎_elim
      (λ (less : (mark i).key < (mark j).key). inl less)
      (λ h. inr (h.0, omega (arith, h.1)))
      (places_order old (mark i) (mark j) (mark_in j) (omega (arith, place_is i, place_is j, sums_rise lens paged i j lt (omega (arith, are.many))))))
      (λ (ge : j ≤ i). let same : i ≡ j = omega arith in subst (λ k. IsNoLater (mark i) (mark k)) same (inr (refl, omega arith)))
      (cases_lt i j)

  order : (i j : ℕ) → i ≤ j → IsNoLater (mark i) (mark j)
  order i j le = ⊎_elim
      (λ (less : length holders < j). ⊎_elim
      (λ (lt : i < length holders). subst (IsNoLater (mark i)) (mark_past (length holders) (omega arith) ∙ sym (mark_past j (omega arith))) (order_within i (length holders) (omega arith) (omega arith)))
      (λ (ge : length holders ≤ i). subst (IsNoLater (mark i)) (mark_past i ge ∙ sym (mark_past j (omega arith))) (inr (refl, omega arith)))
      (cases_lt i (length holders)))
      (λ (within : j ≤ length holders). order_within i j le within)
      (cases_lt (length holders) j)

  pub marks_rise : MarksRise holders
  marks_rise i j le = order i j le

  order_end : (i : ℕ) → IsNoLater (mark i) end
  order_end i = subst (IsNoLater (mark i)) (mark_past (i + length holders) (omega arith)) (order i (i + length holders) (omega arith))

  pub inside_old : (k : ℕ) → 0 < k → k < length holders → (mark k).skip < length (table_text (one (mark k).key old))
  inside_old zero pos lt = absurd (omega arith)
  inside_old (suc k) pos lt = (are.each (suc k) end lt).1

  module _ (new : Records) (bytes : ℕ → List ℕ) (keys : List ℕ) (full : AreFull pages bytes) (new_numbered : AreNumbered new) (holds : text_on pages bytes ≡ table_text old) (changed : IsChangedAt keys old new) where
    prefix : (k : ℕ) → text_on (take k pages) bytes ≡ text_between old (mark 0) (mark k)
    prefix k =
        let parts : text_on (take k pages) bytes ++ text_on (drop k pages) bytes ≡ table_text old = sym (text-append (take k pages) (drop k pages) bytes) ∙ ap (λ ps. text_on ps bytes) (take-append-drop k pages) ∙ holds in
        sym (between_start old (mark k) (mark_in k) ∙ ap (λ n. take n (table_text old)) (place_is k) ∙ ap (take (sum (take k lens))) (sym parts)
        ∙ take_at (text_on (take k pages) bytes) (text_on (drop k pages) bytes) (sum (take k lens)) (text_long bytes k pages full))

    abbrev between : ℕ → ℕ → List ℕ
    between i j = text_on (take (j - i) (drop i pages)) bytes

    pages_split : (i j : ℕ) → i ≤ j → text_on (take j pages) bytes ≡ text_on (take i pages) bytes ++ between i j
    pages_split i j le =
        let zero_i : i - 0 ≡ i = omega arith in
        let zero_j : j ≡ j - 0 = omega arith in
        let parts : take j pages ≡ take i pages ++ take (j - i) (drop i pages) = ap (λ n. take n pages) zero_j ∙ parted_twice pages 0 i j (omega arith) le ∙ ap (λ n. take n pages ++ take (j - i) (drop i pages)) zero_i in
        ap (λ ps. text_on ps bytes) parts ∙ text-append (take i pages) (take (j - i) (drop i pages)) bytes

    page_text : (i j : ℕ) → i ≤ j → between i j ≡ text_between old (mark i) (mark j)
    page_text i j le = append_cancel_left (text_on (take i pages) bytes) (between i j) (text_between old (mark i) (mark j))
        (sym (pages_split i j le) ∙ prefix j ∙ between_split old (mark 0) (mark i) (order 0 i (omega arith)) (mark_in 0) (mark_in i) (mark j) (order i j le)
        ∙ ap (λ t. t ++ text_between old (mark i) (mark j)) (sym (prefix i)))

    page_long : (i j : ℕ) → i ≤ j → length (between i j) + sum (take i lens) ≡ sum (take j lens)
    page_long i j le = omega (arith, text_long bytes i pages full, text_long bytes j pages full, ap length (pages_split i j le), length-append (text_on (take i pages) bytes) (between i j))

    -- between two places with no change between, all is the same
    module _ (m n : Holder) (clear : IsClear keys m n) where
      one_same : (i : Holder) → IsNoLater m i → IsNoLater i n → (i.skip ≡ 0) ⊎ (one i.key old ≡ one i.key new)
      one_same i o1 o2 = ⊎_elim
          (λ (more : 0 < i.skip). inr (changed i.key (i.key + 1) (λ q d lt. ⊎_elim
          (λ (early : get_or keys q d < m.key). inl (omega (arith, key_le m i o1)))
          (λ late. inr (⊎_elim
          (λ (less : i.key < get_or keys q d). omega arith)
          (λ h. absurd (omega (arith, more, h.1)))
          (up_to_before i n (get_or keys q d) o2 late)))
          (clear q d lt))))
          (λ (none : i.skip ≤ 0). inl (omega arith))
          (cases_lt 0 i.skip)

      stays_in : (i : Holder) → IsNoLater m i → IsNoLater i n → IsIn old i → IsIn new i
      stays_in i o1 o2 is = ⊎_elim
          (λ (none : i.skip ≡ 0). omega (arith, none))
          (λ same. subst (λ es. i.skip ≤ length (table_text es)) same is)
          (one_same i o1 o2)

      same : (i j : Holder) → IsNoLater m i → IsNoLater i j → IsNoLater j n → IsNoLater m j → text_between old i j ≡ text_between new i j
      same i j o1 o2 o3 o4 =
          let parts : part i.key j.key old ≡ part i.key j.key new = changed i.key j.key (λ q d lt. ⊎_elim
          (λ (early : get_or keys q d < m.key). inl (omega (arith, key_le m i o1)))
          (λ late. inr (⊎_elim (λ (less : j.key < get_or keys q d). omega arith) (λ h. omega (arith, h.0)) (up_to_before j n (get_or keys q d) o3 late)))
          (clear q d lt)) in
          let ends : take j.skip (table_text (one j.key old)) ≡ take j.skip (table_text (one j.key new)) = ⊎_elim
          (λ (none : j.skip ≡ 0). ap (λ k. take k (table_text (one j.key old))) none ∙ sym (ap (λ k. take k (table_text (one j.key new))) none))
          (λ h. ap (λ es. take j.skip (table_text es)) h)
          (one_same j o4 o3) in
          ap (λ es. drop i.skip (table_text es ++ take j.skip (table_text (one j.key old)))) parts ∙ ap (λ t. drop i.skip (table_text (part i.key j.key new) ++ t)) ends

    -- behind a run no change touches the next page
    next_clear : (done : ℕ) (runs : List Run) → 0 < done → AreRunsFor new holders keys done runs → IsClear keys (mark done) (mark (done + 1))
    next_clear done [] pos h = λ q d lt. inl (h q d lt)
    next_clear done (run ∷ runs) pos h = λ q d lt. ⊎_elim
        (λ (early : get_or keys q d < (mark done).key). inl early)
        (λ late. inr (up_to_before (mark (done + 1)) (mark run.from) (get_or keys q d) (order (done + 1) run.from (omega (arith, h.0.apart pos))) late))
        (h.0.clear q d lt)

    front_pages : (k : ℕ) → take (k - (k - 1)) (drop (k - 1) pages) ≡ page_before pages k
    front_pages zero = refl
    front_pages (suc k) =
        let back : suc k - 1 ≡ k = omega arith in
        let one : suc k - k ≡ 1 = omega arith in
        ap (λ i. take (suc k - i) (drop i pages)) back ∙ ap (λ n. take n (drop k pages)) one

    back_pages : (k : ℕ) → take (k + 1 - k) (drop k pages) ≡ take 1 (drop k pages)
    back_pages k = let one : k + 1 - k ≡ 1 = omega arith in ap (λ n. take n (drop k pages)) one

    front_long : (k : ℕ) → k ≤ length pages → length (between (k - 1) k) ≡ before_of lens k
    front_long zero le = ap length (text-none bytes)
    front_long (suc k) le =
        let back : suc k - 1 ≡ k = omega arith in
        let next : k + 1 ≡ suc k = omega arith in
        ap (λ i. length (between i (suc k))) back ∙ omega (arith, page_long k (suc k) (omega arith), sum_more lens k (omega (arith, long, are.many)), ap (λ i. sum (take i lens)) next)

    back_long : (k : ℕ) → length (between k (k + 1)) ≡ after_of lens k
    back_long k = ⊎_elim
        (λ (lt : k < length lens). omega (arith, page_long k (k + 1) (omega arith), sum_more lens k lt))
        (λ (le : length lens ≤ k). omega (arith, page_long k (k + 1) (omega arith), get_or_past lens k 0 le, ap sum (take_all k lens le), ap sum (take_all (k + 1) lens (omega arith))))
        (cases_lt k (length lens))

    module _ (done : ℕ) (run : Run) (runs : List Run) (is : IsRunFor new holders keys done run) (more : AreRunsFor new holders keys run.to runs) where
      abbrev front : List ℕ
      front = between (run.from - 1) run.from

      abbrev back : List ℕ
      back = between run.to (run.to + 1)

      abbrev middle : List ℕ
      middle = text_between new (mark run.from) (mark run.to)

      after : IsClear keys (mark run.to) (mark (run.to + 1))
      after = next_clear run.to runs (omega (arith, is.rises)) more

      low : done ≤ run.from - 1
      low = ⊎_elim (λ (pos : 0 < done). omega (arith, is.apart pos)) (λ (none : done ≤ 0). omega arith) (cases_lt 0 done)

      in_before : (i : ℕ) → done ≤ i → i ≤ run.from → IsIn new (mark i)
      in_before i le le2 = stays_in (mark done) (mark run.from) is.clear (mark i) (order done i le) (order i run.from le2) (mark_in i)

      same_before : (i j : ℕ) → done ≤ i → i ≤ j → j ≤ run.from → between i j ≡ text_between new (mark i) (mark j)
      same_before i j le le2 le3 = page_text i j le2 ∙ same (mark done) (mark run.from) is.clear (mark i) (mark j) (order done i le) (order i j le2) (order j run.from le3) (order done j (omega arith))

      in_after : (i : ℕ) → run.to ≤ i → i ≤ run.to + 1 → IsIn new (mark i)
      in_after i le le2 = stays_in (mark run.to) (mark (run.to + 1)) after (mark i) (order run.to i le) (order i (run.to + 1) le2) (mark_in i)

      back_is : back ≡ text_between new (mark run.to) (mark (run.to + 1))
      back_is = page_text run.to (run.to + 1) (omega arith) ∙ same (mark run.to) (mark (run.to + 1)) after (mark run.to) (mark (run.to + 1)) (inr (refl, omega arith)) (order run.to (run.to + 1) (omega arith)) (inr (refl, omega arith)) (order run.to (run.to + 1) (omega arith))

      text_parts : run.text ≡ front ++ (middle ++ back)
      text_parts = is.text
          ∙ between_split new (mark (run.from - 1)) (mark run.from) (order (run.from - 1) run.from (omega arith)) (in_before (run.from - 1) low (omega arith)) (in_before run.from (omega (arith, low)) (omega arith)) (mark (run.to + 1)) (order run.from (run.to + 1) (omega (arith, is.rises)))
          ∙ ap (λ t. t ++ text_between new (mark run.from) (mark (run.to + 1))) (sym (same_before (run.from - 1) run.from low (omega arith) (omega arith)))
          ∙ ap (λ t. front ++ t) (between_split new (mark run.from) (mark run.to) (order run.from run.to (omega (arith, is.rises))) (in_before run.from (omega (arith, low)) (omega arith)) (in_after run.to (omega arith) (omega arith)) (mark (run.to + 1)) (order run.to (run.to + 1) (omega arith)))
          ∙ ap (λ t. front ++ (middle ++ t)) (sym back_is)

      front_len : length front ≡ before_of lens run.from
      front_len = front_long run.from (omega (arith, is.rises, is.inside, long))

      text_len : length run.text ≡ length front + (length middle + length back)
      text_len = omega (arith, ap length text_parts, length-append front (middle ++ back), length-append middle back)

      is_run : IsRun lens run
      is_run = record {
        rises = omega (arith, is.rises);
        inside = omega (arith, is.inside, are.many);
        holds = omega (arith, text_len, front_len, back_long run.to);
      }

      begins : text_on (page_before pages run.from) bytes ≡ take (before_of lens run.from) run.text
      begins = ap (λ ps. text_on ps bytes) (sym (front_pages run.from)) ∙ sym (ap (take (before_of lens run.from)) text_parts ∙ take_at front (middle ++ back) (before_of lens run.from) front_len)

      ends : text_on (take 1 (drop run.to pages)) bytes ≡ drop (length run.text - after_of lens run.to) run.text
      ends =
          let at : length (front ++ middle) ≡ length run.text - after_of lens run.to = omega (arith, text_len, length-append front middle, back_long run.to) in
          ap (λ ps. text_on ps bytes) (sym (back_pages run.to)) ∙ sym (ap (drop (length run.text - after_of lens run.to)) (text_parts ∙ sym (append_assoc front middle back)) ∙ drop_at (front ++ middle) back (length run.text - after_of lens run.to) at)

      -- from the end of the run before it on
      gap_and_run : (at : ℕ) → done ≤ at → at ≤ run.from - 1 → text_between new (mark at) end ≡ between at (run.from - 1) ++ (run.text ++ text_between new (mark (run.to + 1)) end)
      gap_and_run at le le2 =
          between_split new (mark at) (mark (run.from - 1)) (order at (run.from - 1) le2) (in_before at le (omega arith)) (in_before (run.from - 1) low (omega arith)) end (order_end (run.from - 1))
          ∙ ap (λ t. t ++ text_between new (mark (run.from - 1)) end) (sym (same_before at (run.from - 1) le le2 (omega arith)))
          ∙ ap (λ t. between at (run.from - 1) ++ t) (between_split new (mark (run.from - 1)) (mark (run.to + 1)) (order (run.from - 1) (run.to + 1) (omega (arith, is.rises))) (in_before (run.from - 1) low (omega arith)) (in_after (run.to + 1) (omega arith) (omega arith)) end (order_end (run.to + 1))
          ∙ ap (λ t. t ++ text_between new (mark (run.to + 1)) end) (sym is.text))

    -- behind the last run nothing changes
    rest_same : (done at : ℕ) → done ≤ at → All (λ k. k < (mark done).key) keys → text_between new (mark at) end ≡ text_on (drop at pages) bytes
    rest_same done at le h =
        let far : ℕ = at + length holders in
        let clear : IsClear keys (mark done) (mark far) = λ q d lt. inl (h q d lt) in
        let past : mark far ≡ end = mark_past far (omega arith) in
        let all : take (far - at) (drop at pages) ≡ drop at pages = take_all (far - at) (drop at pages) (omega (arith, long, length-drop at pages)) in
        ap (text_between new (mark at)) (sym past)
        ∙ sym (same (mark done) (mark far) clear (mark at) (mark far) (order done at le) (order at far (omega arith)) (inr (refl, omega arith)) (order done far (omega arith)))
        ∙ sym (page_text at far (omega arith)) ∙ ap (λ ps. text_on ps bytes) all

    are_runs : (done low : ℕ) (runs : List Run) → (low ≡ 0) ⊎ ((0 < done) × (low ≡ done + 2)) → AreRunsFor new holders keys done runs → AreRuns lens low runs
    are_runs done low [] from h = tt
    are_runs done low (run ∷ runs) from h = (
      is_run done run runs h.0 h.1,
      ⊎_elim (λ (none : low ≡ 0). omega (arith, none)) (λ f. omega (arith, f.1, h.0.apart f.0)) from,
      are_runs run.to (run.to + 2) runs (inr (omega (arith, h.0.rises), refl)) h.1,
    )

    are_between : (done : ℕ) (runs : List Run) → AreRunsFor new holders keys done runs → AreBetween pages bytes runs
    are_between done [] h = tt
    are_between done (run ∷ runs) h = (begins done run runs h.0 h.1, ends done run runs h.0 h.1, are_between run.to runs h.1)

    edited_is : (done at : ℕ) (runs : List Run) → ((done ≡ 0) × (at ≡ 0)) ⊎ ((0 < done) × (at ≡ done + 1)) → AreRunsFor new holders keys done runs → text_between new (mark at) end ≡ edited pages bytes at runs
    edited_is done at [] from h = rest_same done at (⊎_elim (λ f. omega (arith, f.0, f.1)) (λ f. omega (arith, f.1)) from) h
    edited_is done at (run ∷ runs) from h =
        let le : done ≤ at = ⊎_elim (λ f. omega (arith, f.0, f.1)) (λ f. omega (arith, f.1)) from in
        let le2 : at ≤ run.from - 1 = ⊎_elim (λ f. omega (arith, f.1)) (λ f. omega (arith, f.1, h.0.apart f.0)) from in
        gap_and_run done run runs h.0 h.1 at le le2
        ∙ ap (λ t. between at (run.from - 1) ++ (run.text ++ t)) (edited_is run.to (run.to + 1) runs (inr (omega (arith, h.0.rises), refl)) h.1)

    whole_new : text_between new (mark 0) end ≡ table_text new
    whole_new = append-nil (table_text (part 0 (2 ^ 64) new)) ∙ ap table_text new_numbered

    -- how long the edited text is
    drop_long : (at : ℕ) → length (text_on (drop at pages) bytes) ≡ sum (drop at lens)
    drop_long at =
        let all : take (length pages) pages ≡ pages = take_all (length pages) pages (omega arith) in
        let every : take (length pages) lens ≡ lens = take_all (length pages) lens (omega (arith, long, are.many)) in
        omega (
          arith,
          text_long bytes at pages full,
          text_long bytes (length pages) pages full,
          ap (λ ps. length (text_on ps bytes)) all,
          ap sum every,
          ap (λ ps. length (text_on ps bytes)) (take-append-drop at pages),
          ap length (text-append (take at pages) (drop at pages) bytes),
          length-append (text_on (take at pages) bytes) (text_on (drop at pages) bytes),
          ap sum (take-append-drop at lens),
          sum_by-append (λ y. y) (take at lens) (drop at lens),
        )

    lens_between : (i j : ℕ) → i ≤ j → sum (take (j - i) (drop i lens)) + sum (take i lens) ≡ sum (take j lens)
    lens_between i j le =
        let zero_i : i - 0 ≡ i = omega arith in
        let zero_j : j ≡ j - 0 = omega arith in
        let parts : take j lens ≡ take i lens ++ take (j - i) (drop i lens) = ap (λ n. take n lens) zero_j ∙ parted_twice lens 0 i j (omega arith) le ∙ ap (λ n. take n lens ++ take (j - i) (drop i lens)) zero_i in
        omega (arith, ap sum parts, sum_by-append (λ y. y) (take i lens) (take (j - i) (drop i lens)))

    longer : (done : ℕ) (run : Run) (runs : List Run) → IsRunFor new holders keys done run → AreRunsFor new holders keys run.to runs → (at : ℕ) → at ≤ run.from - 1 → length (edited pages bytes (run.to + 1) runs) ≡ edited_len lens (run.to + 1) runs
        → length (edited pages bytes at (run ∷ runs)) ≡ edited_len lens at (run ∷ runs)
    longer done run runs is more at le rest_long = omega (
      arith,
      rest_long,
      page_long at (run.from - 1) le,
      lens_between at (run.from - 1) le,
      length-append (between at (run.from - 1)) (run.text ++ edited pages bytes (run.to + 1) runs),
      length-append run.text (edited pages bytes (run.to + 1) runs),
    )

    edited_long : (done at : ℕ) (runs : List Run) → ((done ≡ 0) × (at ≡ 0)) ⊎ ((0 < done) × (at ≡ done + 1)) → AreRunsFor new holders keys done runs → length (edited pages bytes at runs) ≡ edited_len lens at runs
    edited_long done at [] from h = drop_long at
    edited_long done at (run ∷ runs) from h =
        let le2 : at ≤ run.from - 1 = ⊎_elim (λ f. omega (arith, f.1)) (λ f. omega (arith, f.1, h.0.apart f.0)) from in
        longer done run runs h.0 h.1 at le2 (edited_long run.to (run.to + 1) runs (inr (omega (arith, h.0.rises), refl)) h.1)

    pub makes_text : (runs : List Run) → AreRunsFor new holders keys 0 runs → MakesText pages bytes runs new
    makes_text runs h = record { between = are_between 0 runs h; changed = sym (edited_is 0 0 runs (inl (refl, refl)) h) ∙ whole_new }

    whole_long : (runs : List Run) → AreRunsFor new holders keys 0 runs → edited_len lens 0 runs ≡ length (table_text new)
    whole_long runs h = sym (edited_long 0 0 runs (inl (refl, refl)) h) ∙ ap length (makes_text runs h).changed

    -- a page before a run keeps its holder
    strict : (i j : ℕ) → i < j → j ≤ length holders → ((mark i).key < (mark j).key) ⊎ (((mark i).key ≡ (mark j).key) × ((mark i).skip < (mark j).skip))
    strict i j lt within = places_order old (mark i) (mark j) (mark_in j) (omega (arith, place_is i, place_is j, sums_rise lens paged i j lt (omega (arith, are.many))))

    inside_new : (k : ℕ) → 0 < k → k < length holders → ((q d : ℕ) → q < length keys → (get_or keys q d < (mark k).key) ⊎ ((mark k).key < get_or keys q d)) → (mark k).skip < length (table_text (one (mark k).key new))
    inside_new k pos lt away =
        let here : one (mark k).key old ≡ one (mark k).key new = changed (mark k).key ((mark k).key + 1) (λ q d within. ⊎_elim (λ (early : get_or keys q d < (mark k).key). inl early) (λ (late : (mark k).key < get_or keys q d). inr (omega arith)) (away q d within)) in
        subst (λ es. (mark k).skip < length (table_text es)) here (inside_old k pos lt)

    new_end : place new end ≡ length (table_text new)
    new_end =
        let all : below (2 ^ 64) new ≡ new = ap (below (2 ^ 64)) (sym (rest_zero new)) ∙ new_numbered in
        omega (arith, ap (λ es. length (table_text es)) all)

    left_is : (k : ℕ) → IsIn new (mark k) → (left : ℕ) → length (text_between new (mark k) end) ≡ left → place new (mark k) + left ≡ length (table_text new)
    left_is k k_in left is = omega (arith, is, between_long new (mark k) end (order_end k) k_in (omega arith), new_end)

    -- the first page keeps its holder where nothing changes at its record or before it
    abbrev hold : ℕ → Holder
    hold k = get_or holders k end

    first_kept : (runs : List Run) → AreRunsFor new holders keys 0 runs → 0 < length holders → ((q d : ℕ) → q < length keys → (hold 0).key < get_or keys q d) → IsLeft new (edited_len lens 0 runs) (hold 0)
    first_kept runs h lt later =
        let at = are.each 0 end lt in
        let front : below (hold 0).key old ≡ below (hold 0).key new = ap (below (hold 0).key) (sym (rest_zero old)) ∙ changed 0 (hold 0).key (λ q d within. inr (omega (arith, later q d within))) ∙ ap (below (hold 0).key) (rest_zero new) in
        let here : one (hold 0).key old ≡ one (hold 0).key new = changed (hold 0).key ((hold 0).key + 1) (λ q d within. inr (omega (arith, later q d within))) in
        let place_same : place new (hold 0) ≡ 0 = ap (λ es. length (table_text es) + (hold 0).skip) (sym front) ∙ at.0 in
        (omega (arith, place_same, whole_long runs h), subst (λ es. (hold 0).skip < length (table_text es)) here at.1)

    kept_last : (done : ℕ) → AreRunsFor new holders keys done [] → (k : ℕ) → done ≤ k → k < length lens → IsLeft new (edited_len lens k []) (hold k)
    kept_last done h zero since lt =
        let start_is : done ≡ 0 = omega arith in
        let none : (q d : ℕ) → q < length keys → get_or keys q d < 0 = λ q d within. subst (λ i. get_or keys q d < (mark i).key) start_is (h q d within) in
        first_kept [] none (omega (arith, are.many)) (λ q d within. absurd (omega (arith, none q d within)))
    kept_last done h (suc k) since lt =
        let in_new = inside_new (suc k) (omega arith) (omega (arith, are.many)) (λ q d within. inl (omega (arith, h q d within, key_le (mark done) (mark (suc k)) (order done (suc k) since)))) in
        (left_is (suc k) (omega (arith, in_new)) (sum (drop (suc k) lens)) (ap length (rest_same done (suc k) since h) ∙ drop_long (suc k)), in_new)

    kept_first : (run : Run) (runs : List Run) → AreRunsFor new holders keys 0 (run ∷ runs) → 0 < run.from → IsLeft new (edited_len lens 0 (run ∷ runs)) (hold 0)
    kept_first run runs h lt =
        let some_hold : 0 < length holders = omega (arith, h.0.rises, h.0.inside) in
        let at = are.each 0 end some_hold in
        let further = places_order old (hold 0) (mark run.from) (mark_in run.from) (omega (arith, at.0, place_is run.from, sums_rise lens paged 0 run.from lt (omega (arith, h.0.rises, h.0.inside, are.many)))) in
        first_kept (run ∷ runs) h some_hold (λ q d within. ⊎_elim
        (λ (early : get_or keys q d < 0). absurd (omega arith))
        (λ late. ⊎_elim
        (λ (less : (hold 0).key < (mark run.from).key). ⊎_elim (λ (l : (mark run.from).key < get_or keys q d). omega arith) (λ e. omega (arith, e.0)) late)
        (λ f. ⊎_elim (λ (l : (mark run.from).key < get_or keys q d). omega (arith, f.0)) (λ e. absurd (omega (arith, f.1, e.1))) late)
        further)
        (h.0.clear q d within))

    kept_before : (done : ℕ) (run : Run) (runs : List Run) → AreRunsFor new holders keys done (run ∷ runs) → (k : ℕ) → done ≤ k → k < run.from → IsLeft new (edited_len lens k (run ∷ runs)) (hold k)
    kept_before done run runs h zero since lt =
        let start_is : done ≡ 0 = omega arith in
        kept_first run runs (subst (λ i. AreRunsFor new holders keys i (run ∷ runs)) start_is h) lt
    kept_before done run runs h (suc k) since lt =
        let before : suc k ≤ run.from - 1 = omega arith in
        let further = strict (suc k) run.from lt (omega (arith, h.0.rises, h.0.inside)) in
        let in_new = inside_new (suc k) (omega arith) (omega (arith, h.0.rises, h.0.inside)) (λ q d within. ⊎_elim
        (λ (early : get_or keys q d < (mark done).key). inl (omega (arith, key_le (mark done) (mark (suc k)) (order done (suc k) since))))
        (λ late. inr (⊎_elim
        (λ (less : (mark (suc k)).key < (mark run.from).key). ⊎_elim (λ (l : (mark run.from).key < get_or keys q d). omega arith) (λ e. omega (arith, e.0)) late)
        (λ f. ⊎_elim (λ (l : (mark run.from).key < get_or keys q d). omega (arith, f.0)) (λ e. absurd (omega (arith, f.1, e.1))) late)
        further))
        (h.0.clear q d within)) in (
          left_is (suc k) (omega (arith, in_new)) (edited_len lens (suc k) (run ∷ runs))
              (ap length (gap_and_run done run runs h.0 h.1 (suc k) since before ∙ ap (λ t. between (suc k) (run.from - 1) ++ (run.text ++ t)) (edited_is run.to (run.to + 1) runs (inr (omega (arith, h.0.rises), refl)) h.1))
              ∙ longer done run runs h.0 h.1 (suc k) before (edited_long run.to (run.to + 1) runs (inr (omega (arith, h.0.rises), refl)) h.1)),
          in_new,
        )

    same_hold : (k left : ℕ) (d : Holder) → k < length holders → IsLeft new left (hold k) → IsLeft new left (get_or holders k d)
    same_hold k left d lt is = subst (IsLeft new left) (sym (get_or_default holders k d end lt)) is

    kept : (done : ℕ) (runs : List Run) → AreRunsFor new holders keys done runs → AreKept new holders lens done runs
    kept done [] h = λ k d since lt. same_hold k (edited_len lens k []) d (omega (arith, are.many)) (kept_last done h k since lt)
    kept done (run ∷ runs) h = (
      λ k d since lt. same_hold k (edited_len lens k (run ∷ runs)) d (omega (arith, h.0.rises, h.0.inside)) (kept_before done run runs h k since lt),
      kept run.to runs h.1,
    )

    pub fit_pages : (runs : List Run) → AreRunsFor new holders keys 0 runs → FitPages lens holders runs new
    fit_pages runs h = record { runs_are = are_runs 0 0 runs (inl refl) h; long = whole_long runs h; kept = kept 0 runs h }

pub RunsChangeTheText-holds : RunsChangeTheText
RunsChangeTheText-holds old new pages holders bytes keys runs some paged old_numbered new_numbered are holds changed h =
    makes_text old pages holders some paged old_numbered are new bytes keys (full_from bytes pages (ap length holds ∙ sym are.whole)) new_numbered holds changed runs h

pub RunsFitPages-holds : RunsFitPages
RunsFitPages-holds old new lens holders keys runs some paged old_numbered new_numbered are changed h =
    let some_text = holding lens (table_text old) are.whole in
    let same : lens ≡ lengths some_text.pages = sym some_text.lens_are in
    let are2 : AreHolders old (lengths some_text.pages) holders = subst (λ ls. AreHolders old ls holders) same are in
    subst (λ ls. FitPages ls holders runs new) some_text.lens_are
    (fit_pages old some_text.pages holders (omega (arith, some, ap length same, length-map some_text.pages (λ (p : Page). p.length))) (subst IsPaged same paged) old_numbered are2 new some_text.bytes keys
    (full_from some_text.bytes some_text.pages (ap length some_text.holds ∙ sym are2.whole)) new_numbered some_text.holds changed runs h)

pub HoldersRise-holds : HoldersRise
HoldersRise-holds records lens holders some paged numbered are =
    let some_text = holding lens (table_text records) are.whole in
    let same : lens ≡ lengths some_text.pages = sym some_text.lens_are in
    marks_rise records some_text.pages holders (omega (arith, some, ap length same, length-map some_text.pages (λ (p : Page). p.length))) (subst IsPaged same paged) numbered (subst (λ ls. AreHolders records ls holders) same are)
