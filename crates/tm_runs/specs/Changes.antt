-- The runs of pages that a change of records touches.
use Rattle.std.specs.Prelude.{◌≡◌, ◌≤◌, ◌<◌, ◌+◌, ◌-◌, ◌^◌, ◌⊎◌, ℕ, List, [], ◌∷◌, length, slice_index_or}
use Rattle.std.specs.List.{All, Contains}
use Rattle.std.specs.List.Sorted.{IsStrictlySortedBy}
use Rattle.std.specs.Ordering.{nat_cmp}
use Rattle.std.specs.BTreeMap.{insert_entry, is_at}
use Rattle.std.specs.Map.{keys_of, remove_entry}
use Rattle.tm_records.specs.declared.record.Record.{Record}
use Rattle.tm_records.specs.Records.{Records}
use Rattle.tm_table.specs.Text.{table_text}
use Rattle.tm_pages.specs.declared.page.Page.{Page}
use Rattle.tm_pages.specs.declared.cut.Run.{Run}
use Rattle.tm_pages.specs.Paged.{IsPaged, lengths, text_on}
use Rattle.tm_pages.specs.Runs.{AreRuns, edited, edited_len}
use Rattle.tm_pages.specs.Plans.{AreBetween}
use Rattle.tm_runs.specs.declared.holder.Holder.{Holder}
use Rattle.tm_runs.specs.Marks.{place, one, part, text_between, mark_at, IsUpTo, AreHolders, MarksRise}

-- records differ at these keys alone: on a stretch with none of them they are the same
abbrev pub IsChangedAt : List ℕ → Records → Records → Type 0
IsChangedAt keys old new = (low high : ℕ) → All (λ k. (k < low) ⊎ (high ≤ k)) keys → part low high old ≡ part low high new

-- no record at these keys has a byte between the two places
abbrev pub IsClear : List ℕ → Holder → Holder → Type 0
IsClear keys m n = All (λ k. (k < m.key) ⊎ IsUpTo n k) keys

-- a run for changes at these keys, behind one that ends before page `done`, or the first of all: from there on to where it begins
-- nothing changes, and its text is what the new records spell from the page before it on to the end of the page after it
pub record IsRunFor (new : Records) (holders : List Holder) (keys : List ℕ) (done : ℕ) (run : Run) : Type 0 where
  pub apart : 0 < done → done + 2 ≤ run.from
  pub rises : run.from < run.to
  pub inside : run.to ≤ length holders
  pub clear : IsClear keys (mark_at holders done) (mark_at holders run.from)
  pub text : run.text ≡ text_between new (mark_at holders (run.from - 1)) (mark_at holders (run.to + 1))

-- runs for changes at these keys, at least two pages between any two; from page `done` on nothing changes but in them
abbrev pub AreRunsFor : Records → List Holder → List ℕ → ℕ → List Run → Type 0
AreRunsFor new holders keys done [] = All (λ k. k < (mark_at holders done).key) keys
AreRunsFor new holders keys done (run ∷ runs) = IsRunFor new holders keys done run × AreRunsFor new holders keys run.to runs

-- every key is that of a number of 64 bits
abbrev pub AreNumbered : Records → Type 0
AreNumbered records = part 0 (2 ^ 64) records ≡ records

abbrev pub KeysAreNumbers : Type 0
KeysAreNumbers = (records : Records) → All (λ k. k < 2 ^ 64) (keys_of records) → AreNumbered records

-- what the runs make of the text that the pages hold
pub record MakesText (pages : List Page) (bytes : ℕ → List ℕ) (runs : List Run) (new : Records) : Type 0 where
  pub between : AreBetween pages bytes runs
  pub changed : edited pages bytes 0 runs ≡ table_text new

abbrev pub RunsChangeTheText : Type 0
RunsChangeTheText = (old new : Records) (pages : List Page) (holders : List Holder) (bytes : ℕ → List ℕ) (keys : List ℕ) (runs : List Run) → 0 < length pages → IsPaged (lengths pages)
    → AreNumbered old → AreNumbered new → AreHolders old (lengths pages) holders → text_on pages bytes ≡ table_text old → IsChangedAt keys old new → AreRunsFor new holders keys 0 runs → MakesText pages bytes runs new

-- what runs are found by
abbrev pub HoldersRise : Type 0
HoldersRise = (records : Records) (lens : List ℕ) (holders : List Holder) → 0 < length lens → IsPaged lens → AreNumbered records → AreHolders records lens holders → MarksRise holders

-- how records that change one key after another differ
pub record ChangesByKey : Type 0 where
  pub same : (keys : List ℕ) (records : Records) → IsChangedAt keys records records
  pub puts : (keys : List ℕ) (records : Records) (k : ℕ) (v : Record) → Contains keys k → IsChangedAt keys records (insert_entry nat_cmp records k v)
  pub removes : (keys : List ℕ) (records : Records) (k : ℕ) → IsStrictlySortedBy nat_cmp (keys_of records) → Contains keys k → IsChangedAt keys records (remove_entry (is_at (nat_cmp k)) records)
  pub joined : (keys : List ℕ) (a b c : Records) → IsChangedAt keys a b → IsChangedAt keys b c → IsChangedAt keys a c

-- so many bytes of the text are left from a holder's place on, and its record has the byte there
abbrev pub IsLeft : Records → ℕ → Holder → Type 0
IsLeft records left m = (place records m + left ≡ length (table_text records)) × (m.skip < length (table_text (one m.key records)))

-- the pages from `done` on that no run touches keep their holders: each stands where the page begins in the edited text
abbrev pub AreKept : Records → List Holder → List ℕ → ℕ → List Run → Type 0
AreKept new holders lens done [] = (k : ℕ) (d : Holder) → done ≤ k → k < length lens → IsLeft new (edited_len lens k []) (slice_index_or holders k d)
AreKept new holders lens done (run ∷ runs) = ((k : ℕ) (d : Holder) → done ≤ k → k < run.from → IsLeft new (edited_len lens k (run ∷ runs)) (slice_index_or holders k d)) × AreKept new holders lens run.to runs

-- what runs of pages of these lengths are, whatever the pages hold: such as a plan asks for, with a text as long as that of the changed
-- records, and all other pages keep their holders
pub record FitPages (lens : List ℕ) (holders : List Holder) (runs : List Run) (new : Records) : Type 0 where
  pub runs_are : AreRuns lens 0 runs
  pub long : edited_len lens 0 runs ≡ length (table_text new)
  pub kept : AreKept new holders lens 0 runs

abbrev pub RunsFitPages : Type 0
RunsFitPages = (old new : Records) (lens : List ℕ) (holders : List Holder) (keys : List ℕ) (runs : List Run) → 0 < length lens → IsPaged lens → AreNumbered old → AreNumbered new → AreHolders old lens holders
    → IsChangedAt keys old new → AreRunsFor new holders keys 0 runs → FitPages lens holders runs new
