-- Where a table breaks a rule first.
use Rattle.std.specs.Prelude.{◌≡◌, ◌<◌, ℕ, List, ◌++◌, length, drop, None}
use Rattle.tm_codec.specs.Places.{IsTextAt}
use Rattle.tm_records.specs.declared.record.Record.{Record}
use Rattle.tm_records.specs.Records.{Records}
use Rattle.tm_table.specs.Text.{record_text, table_text}
use Rattle.tm_table.specs.Good.{IsRecord, AreRecords, last_key}

-- at this offset begins the first record that breaks a rule: those before it keep them, the text goes on, and no record
-- that keeps them stands there
pub record BreaksAt (total : ℕ) (text : List ℕ) (offset : ℕ) : Type 0 where
  pub records : Records
  pub are : AreRecords total None records
  pub starts : text ≡ table_text records ++ drop offset text
  pub reaches : offset ≡ length (table_text records)
  pub goes_on : offset < length text
  pub none : (e : ℕ × Record) → IsRecord total (last_key None records) e → IsTextAt (record_text e) offset text → ⊥
