-- What the rules of records look at: keys, metas and lengths of data.
use Rattle.std.specs.Prelude.{ℕ, List, length, map, Option}
use Rattle.std.specs.Ordering.{nat_cmp}
use Rattle.std.specs.BTreeMap.{is_at}
use Rattle.std.specs.Map.{lookup}
use Rattle.tm_records.specs.Records.{Records}
use Rattle.tm_image.specs.Reads.{Entries}

pub record RecordHead : Type 0 where
  pub meta : List ℕ
  pub size : ℕ

-- each with its key, by rising key
abbrev pub RecordHeads : Type 0
RecordHeads = List (ℕ × RecordHead)

-- those of what an image stands for
abbrev pub heads_in : Entries → RecordHeads
heads_in entries = map (λ e. (e.0, record { meta = e.1.meta; size = length e.1.bytes })) entries

-- those of records in memory
abbrev pub heads_of : Records → RecordHeads
heads_of records = map (λ e. (e.0, record { meta = e.1.meta; size = e.1.length })) records

-- the one at a key
abbrev pub head_at : ℕ → RecordHeads → Option RecordHead
head_at key heads = lookup (is_at (nat_cmp key)) heads
