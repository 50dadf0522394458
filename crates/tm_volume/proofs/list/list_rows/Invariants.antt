use Rattle.std.proofs.Common.{◌≡◌, ℕ, List, ◌++◌}
use Rattle.tm_volume.specs.Listed.{AreThere, listed_rows}
use Rattle.tm_volume_records.specs.Records.{items_in}
use Rattle.tm_volume.proofs.list.list_rows.Given as goal

abbrev pub invariant-loop-name : goal.invariant-loop-name
invariant-loop-name l = record {
  there : AreThere l.image.records l.name-iterator;
  so_far : (bytes : ℕ → List ℕ) → l.rows.items ++ listed_rows (items_in l.image.records bytes) l.name-iterator ≡ listed_rows (items_in l.image.records bytes) l.entries.entries;
}
