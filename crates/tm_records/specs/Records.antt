-- The records of an image, by rising key.
use Rattle.std.specs.Prelude.{ℕ, List, Option}
use Rattle.std.specs.List.{sum_by}
use Rattle.std.specs.Ordering.{nat_cmp}
use Rattle.std.specs.BTreeMap.{is_at}
use Rattle.std.specs.Map.{lookup, values_of}
use Rattle.tm_records.specs.declared.record.Record.{Record}

-- each with its key
abbrev pub Records : Type 0
Records = List (ℕ × Record)

-- the record at a key
abbrev pub at : ℕ → Records → Option Record
at k records = lookup (is_at (nat_cmp k)) records

-- what the blocks of the records weigh together, by a weight of each block
abbrev pub weigh : (ℕ → ℕ) → Records → ℕ
weigh w records = sum_by (λ r. sum_by w r.blocks) (values_of records)
