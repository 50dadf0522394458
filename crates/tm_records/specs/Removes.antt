-- What removals make of the records.
use Rattle.std.specs.Prelude.{ℕ, List, [], ◌∷◌}
use Rattle.std.specs.Ordering.{nat_cmp}
use Rattle.std.specs.BTreeMap.{is_at}
use Rattle.std.specs.Map.{remove_entry}
use Rattle.tm_records.specs.Records.{Records}

-- the records without these keys
abbrev pub without : List ℕ → Records → Records
without [] records = records
without (k ∷ ks) records = without ks (remove_entry (is_at (nat_cmp k)) records)
