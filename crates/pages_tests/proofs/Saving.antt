-- Runs and plans of changed records.
use Rattle.std.proofs.Common.{◌≡◌, ℕ, ◌<◌, ◌≤◌, ◌^◌, suc, List, [], ◌∷◌, length, get_or, sym, ◌∙◌, ap, subst, arith, append-nil}
use Rattle.std.specs.List.{sum}
use Rattle.std.proofs.lemmas.List.{length-map, get_or-map}
use Rattle.std.proofs.lemmas.List.Sums.{sum_by-cons}
use Rattle.std.specs.List.{All, Contains}
use Rattle.std.specs.List.Sorted.{IsStrictlySortedBy}
use Rattle.std.specs.Ordering.{nat_cmp}
use Rattle.std.specs.BTreeMap.{insert_entry, is_at}
use Rattle.std.specs.Map.{keys_of, values_of, remove_entry}
use Rattle.std.proofs.lemmas.List.Elements.{Contains-get_or, All-nil}
use Rattle.std.proofs.lemmas.Map.Views.{All-keys-insert_entry, All-values-insert_entry, All-map-remove_entry}
use Rattle.tm_records.specs.declared.record.Record.{Record}
use Rattle.tm_records.specs.Removes.{without}
use Rattle.tm_blockmap.specs.Marks.{AreMarks}
use Rattle.tm_blockmap.specs.Counts.{times}
use Rattle.tm_blockmap.specs.Laws.{CountIsAtMostSum}
use Rattle.tm_records.specs.Records.{Records}
use Rattle.tm_table.specs.Text.{table_text}
use Rattle.tm_pages.specs.declared.page.Page.{Page}
use Rattle.tm_pages.specs.declared.cut.Cut.{Cut}
use Rattle.tm_pages.specs.declared.cut.Run.{Run}
use Rattle.tm_pages.specs.Paged.{IsPaged, lengths, blocks_of}
use Rattle.tm_pages.specs.Runs.{AreCuts, planned_lens, edited_len}
use Rattle.tm_pages.specs.Laws.{TextIsShort}
use Rattle.tm_runs.specs.declared.holder.Holder.{Holder}
use Rattle.tm_runs.specs.Marks.{part, text_between, start, end, MarksRise, AreHolders}
use Rattle.tm_runs.specs.Changes.{AreRunsFor, FitPages, RunsFitPages, HoldersRise, ChangesByKey, KeysAreNumbers}
use Rattle.tm_runs.specs.After.{IsPlanFor}
use Rattle.pages_tests.specs.Tables.{IsChange}

sum_marks : (marks : List ℕ) → ((k : ℕ) → k < length marks → get_or marks k 0 ≤ 1) → sum marks ≤ length marks
sum_marks [] each = omega arith
sum_marks (m ∷ marks) each = omega (arith, sum_by-cons (λ y. y) m marks, each 0 (omega arith), sum_marks marks (λ k lt. each (suc k) (omega arith)))

module _ (new : Records) (old : List Page) (holders : List Holder) (keys : List ℕ) (change : IsChange new (lengths old) holders keys) where
  pub rises : HoldersRise → MarksRise holders
  rises law = law change.old (lengths old) holders change.some change.paged change.numbered change.are

  module _ (runs : List Run) (law : RunsFitPages) (for : AreRunsFor new holders keys 0 runs) where
    pub fit : FitPages (lengths old) holders runs new
    fit = law change.old new (lengths old) holders keys runs change.some change.paged change.numbered change.new_numbered change.are change.changed for

    module _ (pages : List Page) (long : sum (lengths pages) ≡ edited_len (lengths old) 0 runs) where
      pub small : TextIsShort → CountIsAtMostSum → (map : List ℕ) → IsPaged (lengths pages) → AreMarks map → length map ≤ 2 ^ 32 → ((b : ℕ) → times b (blocks_of pages) ≤ get_or map b 0) → length (table_text new) < 2 ^ 63
      small short count map paged are few used = omega (
        arith,
        long,
        fit.long,
        short (lengths pages) paged,
        length-map pages (λ (p : Page). p.length),
        length-map pages (λ (p : Page). p.block),
        count (blocks_of pages) map used,
        sum_marks map (λ k lt. are k),
        few,
      )

      pub plan_for : (cuts : List Cut) → AreCuts (lengths old) runs cuts → lengths pages ≡ planned_lens (lengths old) 0 cuts → IsPlanFor new holders runs cuts (lengths pages)
      plan_for cuts of lens = record { old = lengths old; many = change.are.many; runs_are = fit.runs_are; cuts_are = of; lens = lens; kept = fit.kept; long = fit.long }

-- a put, and a removal, of one key
module _ (old : Records) (pages : List Page) (holders : List Holder) (k : ℕ) (some : 0 < length pages) (paged : IsPaged (lengths pages)) (keys : All (λ x. x < 2 ^ 64) (keys_of old)) (are : AreHolders old (lengths pages) holders) (by_key : ChangesByKey) (numbers : KeysAreNumbers) where
  some_lens : 0 < length (lengths pages)
  some_lens = omega (arith, some, length-map pages (λ (p : Page). p.length))

  there : Contains (k ∷ []) k
  there = Contains-get_or (k ∷ []) 0 k (omega arith)

  pub change_put : (v : Record) → k < 2 ^ 64 → IsChange (insert_entry nat_cmp old k v) (lengths pages) holders (k ∷ [])
  change_put v small_key = record {
    old = old;
    some = some_lens;
    paged = paged;
    numbered = numbers old keys;
    new_numbered = numbers (insert_entry nat_cmp old k v) (All-keys-insert_entry nat_cmp k v (λ x. x < 2 ^ 64) old keys small_key);
    are = are;
    changed = by_key.puts (k ∷ []) old k v there;
  }

  pub change_remove : IsStrictlySortedBy nat_cmp (keys_of old) → IsChange (without (k ∷ []) old) (lengths pages) holders (k ∷ [])
  change_remove sorted = record {
    old = old;
    some = some_lens;
    paged = paged;
    numbered = numbers old keys;
    new_numbered = numbers (without (k ∷ []) old) (All-map-remove_entry (is_at (nat_cmp k)) (λ (e : ℕ × Record). e.0) (λ x. x < 2 ^ 64) old keys);
    are = are;
    changed = by_key.removes (k ∷ []) old k sorted there;
  }

pub metas_of : (es : Records) → All (λ r. length r.meta < 2 ^ 32) (values_of es) → All (λ e. length e.1.meta < 2 ^ 32) es
metas_of es all = λ k d lt.
    let f : ℕ × Record → Record = λ e. e.1 in
    let here : get_or (values_of es) k (f d) ≡ f (get_or es k d) = get_or-map f es k d (f d) lt in
    subst (λ (r : Record). length r.meta < 2 ^ 32) here (all k (f d) (omega (arith, lt, length-map es f)))

abbrev IsSpelled : Record → Type 0
IsSpelled r = length r.meta < 2 ^ 32

abbrev IsNumber : ℕ → Type 0
IsNumber k = k < 2 ^ 64

module _ (es new : Records) (k : ℕ) (v : Record) (is : new ≡ insert_entry nat_cmp es k v) where
  pub put_metas : All IsSpelled (values_of es) → length v.meta < 2 ^ 32 → All IsSpelled (values_of new)
  put_metas all small = subst (λ rs. All IsSpelled (values_of rs)) (sym is) (All-values-insert_entry nat_cmp k v IsSpelled es all small)

  pub put_keys : All IsNumber (keys_of es) → k < 2 ^ 64 → All IsNumber (keys_of new)
  put_keys all small = subst (λ rs. All IsNumber (keys_of rs)) (sym is) (All-keys-insert_entry nat_cmp k v IsNumber es all small)

module _ (es new : Records) (k : ℕ) (is : new ≡ remove_entry (is_at (nat_cmp k)) es) where
  pub removed_metas : All IsSpelled (values_of es) → All IsSpelled (values_of new)
  removed_metas all = subst (λ rs. All IsSpelled (values_of rs)) (sym is) (All-map-remove_entry (is_at (nat_cmp k)) (λ (e : ℕ × Record). e.1) IsSpelled es all)

  pub removed_keys : All IsNumber (keys_of es) → All IsNumber (keys_of new)
  removed_keys all = subst (λ rs. All IsNumber (keys_of rs)) (sym is) (All-map-remove_entry (is_at (nat_cmp k)) (λ (e : ℕ × Record). e.0) IsNumber es all)

pub change_for : (new : Records) (keys : List ℕ) (pages items : List Page) (holders hs : List Holder) → items ≡ pages → hs ≡ holders → IsChange new (lengths pages) holders keys → IsChange new (lengths items) hs keys
change_for new keys pages items holders hs same same2 change = subst (λ ps. IsChange new (lengths ps) hs keys) (sym same) (subst (λ h. IsChange new (lengths pages) h keys) (sym same2) change)

-- the text of all records is spelled for a first table
pub first_whole : (es : Records) (k : ℕ) (v : Record) (text : List ℕ) (total : ℕ) → es ≡ insert_entry nat_cmp [] k v → k < 2 ^ 64 → KeysAreNumbers → text ≡ text_between es start end → total ≡ length text → total ≡ length (table_text es)
first_whole es k v text total is small numbers text_is long =
    let keys : All IsNumber (keys_of es) = put_keys [] es k v is (All-nil IsNumber) small in
    long ∙ ap length (text_is ∙ append-nil (table_text (part 0 (2 ^ 64) es)) ∙ ap table_text (numbers es keys))
