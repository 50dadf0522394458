-- What a touched page has of the text.
use Rattle.std.proofs.Common.{◌≡◌, ◌⊎◌, inl, inr, ⊎_elim, ℕ, zero, suc, ◌+◌, ◌<◌, ◌≤◌, List, length, take, refl, sym, ◌∙◌, ap, subst, arith, length-append}
use Rattle.std.specs.List.{sum}
use Rattle.std.proofs.lemmas.Bool.{cases_lt}
use Rattle.std.proofs.lemmas.List.{length-map}
use Rattle.tm_pages.specs.declared.page.Page.{Page}
use Rattle.tm_pages.specs.Paged.{IsPaged, lengths}
use Rattle.tm_records.specs.Records.{Records}
use Rattle.tm_table.specs.Text.{table_text}
use Rattle.tm_runs.specs.declared.holder.Holder.{Holder}
use Rattle.tm_runs.specs.Marks.{below, part, one, mark_at, IsUpTo, AreHolders}
use Rattle.tm_runs.specs.Changes.{AreNumbered}
use Rattle.tm_runs.specs.Touched.{Touches, begins_at, ends_at, HasByteAt, TouchedHasByte}
use Rattle.tm_runs.proofs.Stretches.{below_split, table-append}
use Rattle.tm_runs.proofs.Changing.{mark_in, place_is, inside_old}
use Rattle.tm_runs.proofs.Holding.{holding}

-- records below a key are among those below a higher one
low_le : (a b : ℕ) (es : Records) → a ≤ b → length (table_text (below a es)) ≤ length (table_text (below b es))
low_le a b es le = omega (arith, ap length (ap table_text (below_split a b es le) ∙ table-append (below a es) (part a b es)), length-append (table_text (below a es)) (table_text (part a b es)))

next_is : (a : ℕ) (es : Records) → length (table_text (below (a + 1) es)) ≡ length (table_text (below a es)) + length (table_text (one a es))
next_is a es = ap length (ap table_text (below_split a (a + 1) es (omega arith)) ∙ table-append (below a es) (one a es)) ∙ length-append (table_text (below a es)) (table_text (one a es))

module _ (es : Records) (pages : List Page) (holders : List Holder) (some : 0 < length pages) (paged : IsPaged (lengths pages)) (numbered : AreNumbered es) (are : AreHolders es (lengths pages) holders) where
  abbrev lens : List ℕ
  lens = lengths pages

  abbrev mark : ℕ → Holder
  mark k = mark_at holders k

  -- a page begins before the record at a key ends, if its holder has that key or a lower one
  front_is : (key k : ℕ) → k < length lens → (mark k).key ≤ key → (k ≡ 0) ⊎ ((sum (take k lens) < begins_at key es) ⊎ ((sum (take k lens) < ends_at key es) × (begins_at key es < ends_at key es)))
  front_is key zero lt le = inl refl
  front_is key (suc k) lt le =
      let at = place_is es pages holders some paged numbered are (suc k) in
      let inside = inside_old es pages holders some paged numbered are (suc k) (omega arith) (omega (arith, are.many)) in
      inr (⊎_elim
      (λ (less : (mark (suc k)).key < key). inl (omega (arith, at, inside, next_is (mark (suc k)).key es, low_le ((mark (suc k)).key + 1) key es (omega arith))))
      (λ (ge : key ≤ (mark (suc k)).key).
      let same : (mark (suc k)).key ≡ key = omega arith in
      let there = ap (λ i. length (table_text (below i es))) same in
      let record_is = ap (λ i. length (table_text (one i es))) same in
      inr (omega (arith, at, inside, there, record_is, next_is key es), omega (arith, inside, record_is, next_is key es)))
      (cases_lt (mark (suc k)).key key))

  -- and the next one begins behind where that record begins, or would
  back_is : (key k : ℕ) → (IsUpTo (mark (k + 1)) key → ⊥) → (ends_at key es ≤ sum (take (k + 1) lens)) ⊎ ((begins_at key es < sum (take (k + 1) lens)) × (begins_at key es < ends_at key es))
  back_is key k not =
      let at = place_is es pages holders some paged numbered are (k + 1) in
      let in_is = mark_in es pages holders some paged numbered are (k + 1) in
      ⊎_elim
      (λ (less : (mark (k + 1)).key < key). absurd (not (inl less)))
      (λ (ge : key ≤ (mark (k + 1)).key). ⊎_elim
      (λ (lt : key < (mark (k + 1)).key). inl (omega (arith, at, low_le (key + 1) (mark (k + 1)).key es (omega arith))))
      (λ (le : (mark (k + 1)).key ≤ key).
      let same : (mark (k + 1)).key ≡ key = omega arith in
      let there = ap (λ i. length (table_text (below i es))) same in
      let record_is = ap (λ i. length (table_text (one i es))) same in
      ⊎_elim
      (λ (more : 0 < (mark (k + 1)).skip). inr (omega (arith, at, there, more), omega (arith, in_is, record_is, next_is key es, more)))
      (λ (none : (mark (k + 1)).skip ≤ 0). absurd (not (inr (same, omega arith))))
      (cases_lt 0 (mark (k + 1)).skip))
      (cases_lt key (mark (k + 1)).key))
      (cases_lt (mark (k + 1)).key key)

  has_byte : (key k : ℕ) → k < length lens → Touches holders key k → HasByteAt es lens key k
  has_byte key k lt touched =
      let order = next_is key es in
      ⊎_elim
      (λ (there : begins_at key es < ends_at key es).
      let before : sum (take k lens) < ends_at key es = ⊎_elim
      (λ (first : k ≡ 0). omega (arith, there, ap (λ i. sum (take i lens)) first))
      (λ later. ⊎_elim (λ (less : sum (take k lens) < begins_at key es). omega arith) (λ h. omega (arith, h.0)) later)
      (front_is key k lt touched.0) in
      inl (before, ⊎_elim (λ (le : ends_at key es ≤ sum (take (k + 1) lens)). omega arith) (λ h. omega (arith, h.0)) (back_is key k touched.1)))
      (λ (none : ends_at key es ≤ begins_at key es).
      let same : begins_at key es ≡ ends_at key es = omega (arith, order) in
      inr (
        same,
        ⊎_elim (λ (le : ends_at key es ≤ sum (take (k + 1) lens)). omega (arith, same)) (λ h. omega (arith, h.0)) (back_is key k touched.1),
        ⊎_elim (λ (first : k ≡ 0). inr first) (λ later. ⊎_elim (λ (less : sum (take k lens) < begins_at key es). inl less) (λ h. absurd (omega (arith, h.1))) later) (front_is key k lt touched.0),
      ))
      (cases_lt (begins_at key es) (ends_at key es))

pub TouchedHasByte-holds : TouchedHasByte
TouchedHasByte-holds records lens holders key k some paged numbered are lt touched =
    let some_text = holding lens (table_text records) are.whole in
    let same : lens ≡ lengths some_text.pages = sym some_text.lens_are in
    subst (λ ls. HasByteAt records ls key k) some_text.lens_are
    (has_byte records some_text.pages holders (omega (arith, some, ap length same, length-map some_text.pages (λ (p : Page). p.length))) (subst IsPaged same paged) numbered (subst (λ ls. AreHolders records ls holders) same are) key k (omega (arith, lt, ap length same)) touched)
