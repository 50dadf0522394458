-- What every reader of a table may rely on.
use Rattle.std.specs.Prelude.{◌≡◌, ◌≤◌, ◌^◌, ℕ, List, None}
use Rattle.tm_records.specs.Records.{Records}
use Rattle.tm_table.specs.Text.{table_text}
use Rattle.tm_table.specs.Good.{AreRecords}
use Rattle.tm_table.specs.Breaks.{BreaksAt}

-- a text is that of one list of records at most
abbrev pub OneTable : Type 0
OneTable = (total : ℕ) (a b : Records) → total ≤ 2 ^ 32 → AreRecords total None a → AreRecords total None b → table_text a ≡ table_text b → a ≡ b

-- a text of records that keep the rules breaks none
abbrev pub TableOrBreak : Type 0
TableOrBreak = (total : ℕ) (records : Records) (offset : ℕ) → total ≤ 2 ^ 32 → AreRecords total None records → BreaksAt total (table_text records) offset → ⊥

-- at most one place is the first that breaks a rule
abbrev pub OneBreak : Type 0
OneBreak = (total : ℕ) (text : List ℕ) (offset offset2 : ℕ) → total ≤ 2 ^ 32 → BreaksAt total text offset → BreaksAt total text offset2 → offset ≡ offset2
