-- Places in the text of a table, told by a key and a number of bytes.
use Rattle.std.specs.Prelude.{◌≡◌, ◌≤◌, ◌<◌, ◌+◌, ◌^◌, ◌⊎◌, ℕ, zero, suc, List, [], ◌∷◌, ◌++◌, length, take, drop, sum, nat_lt, if◌then◌else◌, slice_index_or}
use Rattle.tm_records.specs.Records.{Records}
use Rattle.tm_table.specs.Text.{table_text}
use Rattle.tm_runs.specs.declared.holder.Holder.{Holder}

-- the records before the first whose key isn't below this one
abbrev pub below : ℕ → Records → Records
below key [] = []
below key (e ∷ es) = if nat_lt e.0 key then e ∷ below key es else []

-- the records from that one on
abbrev pub rest : ℕ → Records → Records
rest key [] = []
rest key (e ∷ es) = if nat_lt e.0 key then rest key es else e ∷ es

-- the records from one key on to before another
abbrev pub part : ℕ → ℕ → Records → Records
part low high records = below high (rest low records)

-- the record at a key, if there is one
abbrev pub one : ℕ → Records → Records
one key records = part key (key + 1) records

-- where a holder stands in the text: so many bytes behind where the record at its key begins, or would
abbrev pub place : Records → Holder → ℕ
place records m = length (table_text (below m.key records)) + m.skip

-- the text from one place on to before another
abbrev pub text_between : Records → Holder → Holder → List ℕ
text_between records m n = drop m.skip (table_text (part m.key n.key records) ++ take n.skip (table_text (one n.key records)))

-- before and behind all records
abbrev pub start : Holder
start = record { key = 0; skip = 0 }

abbrev pub end : Holder
end = record { key = 2 ^ 64; skip = 0 }

-- where a page begins: the first before all records, behind the last page is the end
abbrev pub mark_at : List Holder → ℕ → Holder
mark_at holders zero = start
mark_at holders (suc k) = slice_index_or holders (suc k) end

-- one place isn't behind another
abbrev pub IsNoLater : Holder → Holder → Type 0
IsNoLater m n = (m.key < n.key) ⊎ ((m.key ≡ n.key) × (m.skip ≤ n.skip))

-- a place isn't behind that where the record at a key begins, or would
abbrev pub IsUpTo : Holder → ℕ → Type 0
IsUpTo m key = (m.key < key) ⊎ ((m.key ≡ key) × (m.skip ≡ 0))

-- holders of pages of these lengths: each stands where its page begins, and its record has that byte
pub record AreHolders (records : Records) (lens : List ℕ) (holders : List Holder) : Type 0 where
  pub many : length holders ≡ length lens
  pub whole : sum lens ≡ length (table_text records)
  pub each : (k : ℕ) (d : Holder) → k < length holders → (place records (slice_index_or holders k d) ≡ sum (take k lens))
      × (slice_index_or holders k d).skip < length (table_text (one (slice_index_or holders k d).key records))

-- no page begins before an earlier one
abbrev pub MarksRise : List Holder → Type 0
MarksRise holders = (i j : ℕ) → i ≤ j → IsNoLater (mark_at holders i) (mark_at holders j)

-- holders of pages of these lengths, the first of which begins at this place of the text
pub record AreHoldersFrom (records : Records) (at : ℕ) (lens : List ℕ) (holders : List Holder) : Type 0 where
  pub many : length holders ≡ length lens
  pub each : (k : ℕ) (d : Holder) → k < length holders → (place records (slice_index_or holders k d) ≡ at + sum (take k lens))
      × (slice_index_or holders k d).skip < length (table_text (one (slice_index_or holders k d).key records))
