use Rattle.std.proofs.Common.{◌≤◌, ℕ, List}
use Rattle.tm_index.specs.Folders.{numbers_in}
use Rattle.tm_items.specs.Index.{IsLoaded}
use Rattle.tm_volume_records.specs.Loads.{items_from}
use Rattle.tm_volume_records.proofs.indexing.load_items.Given as goal

abbrev pub invariant-loop-number : goal.invariant-loop-number
invariant-loop-number l = record {
  low : 2 ≤ l.number;
  loaded : (bytes : ℕ → List ℕ) → IsLoaded (items_from l.image.records bytes) l.number (numbers_in l.numbers);
}
