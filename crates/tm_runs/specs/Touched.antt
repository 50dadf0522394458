-- Which pages a change of records touches.
use Rattle.std.specs.Prelude.{◌≡◌, ◌≤◌, ◌<◌, ◌+◌, ◌-◌, ◌⊎◌, ℕ, List, length, slice_index, sum, take}
use Rattle.std.specs.List.{All}
use Rattle.tm_pages.specs.declared.cut.Run.{Run}
use Rattle.tm_pages.specs.Plans.{IsFar}
use Rattle.tm_pages.specs.Paged.{IsPaged}
use Rattle.tm_records.specs.Records.{Records}
use Rattle.tm_table.specs.Text.{table_text}
use Rattle.tm_runs.specs.declared.holder.Holder.{Holder}
use Rattle.tm_runs.specs.Marks.{below, mark_at, IsUpTo, AreHolders}
use Rattle.tm_runs.specs.Changes.{AreNumbered}

-- a change at a key touches a page: the page begins before the record at the key ends, and the next page begins behind where that
-- record begins, or would
abbrev pub Touches : List Holder → ℕ → ℕ → Type 0
Touches holders key k = ((mark_at holders k).key ≤ key) × (IsUpTo (mark_at holders (k + 1)) key → ⊥)

-- a change at one of these keys touches a page
pub record IsTouched (holders : List Holder) (keys : List ℕ) (k : ℕ) : Type 0 where
  pub at : ℕ
  pub within : at < length keys
  pub touches : Touches holders (slice_index keys at) k

-- the pages from one on to before another hold only touched ones, and single ones between two of these; the first and the last are
-- touched
pub record HoldsTouched (holders : List Holder) (keys : List ℕ) (from to : ℕ) : Type 0 where
  pub rises : from < to
  pub first : IsTouched holders keys from
  pub last : IsTouched holders keys (to - 1)
  pub each : (k : ℕ) → from ≤ k → k < to → IsTouched holders keys k ⊎ (IsTouched holders keys (k - 1) × IsTouched holders keys (k + 1))

-- such runs are far from a page that is neither touched nor next to a touched one
abbrev pub UntouchedIsFar : Type 0
UntouchedIsFar = (holders : List Holder) (keys : List ℕ) (runs : List Run) (k : ℕ) → All (λ run. HoldsTouched holders keys run.from run.to) runs
    → (IsTouched holders keys k → ⊥) → (0 < k → IsTouched holders keys (k - 1) → ⊥) → (IsTouched holders keys (k + 1) → ⊥) → IsFar k runs

-- where the record at a key begins in the text, or would, and where it ends
abbrev pub begins_at : ℕ → Records → ℕ
begins_at key records = length (table_text (below key records))

abbrev pub ends_at : ℕ → Records → ℕ
ends_at key records = length (table_text (below (key + 1) records))

-- the k-th page of these lengths has a byte of the record at a key; or, where none stands there, the last byte before the place, or is
-- the first page, with nothing before the place
abbrev pub HasByteAt : Records → List ℕ → ℕ → ℕ → Type 0
HasByteAt records lens key k = ((sum (take k lens) < ends_at key records) × (begins_at key records < sum (take (k + 1) lens)))
    ⊎ ((begins_at key records ≡ ends_at key records) × (begins_at key records ≤ sum (take (k + 1) lens)) × ((sum (take k lens) < begins_at key records) ⊎ (k ≡ 0)))

-- a page is touched only where it has such a byte
abbrev pub TouchedHasByte : Type 0
TouchedHasByte = (records : Records) (lens : List ℕ) (holders : List Holder) (key k : ℕ) → 0 < length lens → IsPaged lens → AreNumbered records → AreHolders records lens holders → k < length lens
    → Touches holders key k → HasByteAt records lens key k
