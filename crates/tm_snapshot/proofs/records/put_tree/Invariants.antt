use Rattle.std.proofs.Common.{◌≡◌, ◌++◌}
use Rattle.tm_snapshot.specs.Puts.{tree_puts}
use Rattle.tm_snapshot.proofs.records.put_tree.Given as goal

abbrev pub invariant-loop-place : goal.invariant-loop-place
invariant-loop-place l = l.puts.items ≡ l.fn.puts.items ++ tree_puts l.graph l.last l.place
