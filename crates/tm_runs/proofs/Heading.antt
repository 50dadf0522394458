-- Holders that are found one after another.
use Rattle.std.proofs.Common.{◌≡◌, ⊎_elim, ℕ, zero, suc, ◌+◌, ◌<◌, ◌≤◌, List, [], ◌∷◌, ◌++◌, length, get_or, take, refl, sym, ◌∙◌, ap, subst, arith, length-append}
use Rattle.std.specs.List.{sum}
use Rattle.std.proofs.lemmas.Bool.{cases_lt}
use Rattle.std.proofs.lemmas.List.{get_or_append_left, get_or_at, take_all, length-map}
use Rattle.tm_pages.specs.declared.page.Page.{Page}
use Rattle.tm_pages.specs.Paged.{IsPaged, lengths}
use Rattle.tm_records.specs.Records.{Records}
use Rattle.tm_table.specs.Text.{table_text}
use Rattle.tm_runs.specs.declared.holder.Holder.{Holder}
use Rattle.tm_runs.specs.Marks.{one, place, start, AreHolders, AreHoldersFrom}
use Rattle.tm_runs.proofs.Stretches.{below_zero, table-none}
use Rattle.tm_runs.proofs.Holding.{sum_more}
use Rattle.tm_runs.proofs.Changing.{sums_rise}

-- the holders of the first pages
pub record AreFirst (records : Records) (base : ℕ) (lens : List ℕ) (count : ℕ) (holders : List Holder) : Type 0 where
  pub many : length holders ≡ count
  pub each : (k : ℕ) (d : Holder) → k < length holders → (place records (get_or holders k d) ≡ base + sum (take k lens)) × (get_or holders k d).skip < length (table_text (one (get_or holders k d).key records))

pub first_none : (records : Records) (base : ℕ) (lens : List ℕ) (holders : List Holder) → holders ≡ [] → AreFirst records base lens 0 holders
first_none records base lens holders is = record { many = ap length is; each = λ k d lt. absurd (omega (arith, lt, ap length is)) }

pub start_place : (records : Records) → place records start ≡ 0
start_place records = omega (arith, ap (λ es. length (table_text es)) (below_zero records), ap length table-none)

pub first_more : (records : Records) (base : ℕ) (lens : List ℕ) (count : ℕ) (holders later : List Holder) (h : Holder) → AreFirst records base lens count holders → later ≡ holders ++ h ∷ [] → place records h ≡ base + sum (take count lens)
    → h.skip < length (table_text (one h.key records)) → AreFirst records base lens (count + 1) later
first_more records base lens count holders later h are is stands inside = subst (AreFirst records base lens (count + 1)) (sym is) (record {
  many = omega (arith, length-append holders (h ∷ []), are.many);
  each = λ k d lt. ⊎_elim
      (λ (early : k < length holders). subst (λ (x : Holder). (place records x ≡ base + sum (take k lens)) × x.skip < length (table_text (one x.key records))) (sym (get_or_append_left holders (h ∷ []) d k early)) (are.each k d early))
      (λ (late : length holders ≤ k).
      let same : length holders ≡ k = omega (arith, lt, length-append holders (h ∷ [])) in
      let at : count ≡ k = omega (arith, same, are.many) in
      subst (λ (x : Holder). (place records x ≡ base + sum (take k lens)) × x.skip < length (table_text (one x.key records))) (sym (get_or_at holders h [] d k same)) (stands ∙ ap (λ n. base + sum (take n lens)) at, inside))
      (cases_lt k (length holders));
})

pub first_all : (records : Records) (base : ℕ) (lens : List ℕ) (count : ℕ) (holders : List Holder) → AreFirst records base lens count holders → count ≡ length lens → AreHoldersFrom records base lens holders
first_all records base lens count holders are all = record { many = are.many ∙ all; each = are.each }

pub from_start : (records : Records) (lens : List ℕ) (holders : List Holder) → AreHoldersFrom records (place records start + 0) lens holders → sum lens ≡ length (table_text records) → AreHolders records lens holders
from_start records lens holders are whole = record {
  many = are.many;
  whole = whole;
  each = λ k d lt. (omega (arith, start_place records, (are.each k d lt).0), (are.each k d lt).1);
}

pub sum_within : (pages : List Page) (i : ℕ) → IsPaged (lengths pages) → i < length pages → sum (take i (lengths pages)) < sum (lengths pages)
sum_within pages i paged lt =
    let long : length (lengths pages) ≡ length pages = length-map pages (λ (p : Page). p.length) in
    omega (arith, sums_rise (lengths pages) paged i (length (lengths pages)) (omega (arith, long)) (omega arith), ap sum (take_all (length (lengths pages)) (lengths pages) (omega arith)))

page_length : (pages : List Page) (i : ℕ) (d : Page) → i < length pages → get_or (lengths pages) i 0 ≡ (get_or pages i d).length
page_length [] i d lt = absurd (omega arith)
page_length (p ∷ pages) zero d lt = refl
page_length (p ∷ pages) (suc i) d lt = page_length pages i d (omega arith)

pub sum_next : (pages : List Page) (i : ℕ) (d : Page) → i < length pages → sum (take (i + 1) (lengths pages)) ≡ sum (take i (lengths pages)) + (get_or pages i d).length
sum_next pages i d lt =
    let long : length (lengths pages) ≡ length pages = length-map pages (λ (p : Page). p.length) in
    sum_more (lengths pages) i (omega (arith, long)) ∙ ap (λ n. sum (take i (lengths pages)) + n) (page_length pages i d lt)
