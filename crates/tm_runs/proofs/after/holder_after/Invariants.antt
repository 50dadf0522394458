use Rattle.std.proofs.Common.{◌≡◌, ◌+◌, length, map}
use Rattle.std.specs.Map.Iter.{deref_pair}
use Rattle.tm_table.specs.Text.{table_text}
use Rattle.tm_table.proofs.Writing.{without_keys}
use Rattle.tm_runs.proofs.after.holder_after.Given as goal

abbrev pub invariant-loop-key : goal.invariant-loop-key
invariant-loop-key l = record {
  gone : l.left + length (table_text (without_keys l.left_out (map deref_pair l.yielded))) ≡ l.from.skip + l.by;
}
