use Rattle.std.proofs.Common.{◌≡◌, ◌++◌, take}
use Rattle.tm_snapshot.specs.Puts.{old_puts}
use Rattle.tm_snapshot.proofs.records.put_old.Given as goal

abbrev pub invariant-loop-child : goal.invariant-loop-child
invariant-loop-child l = l.puts.items ≡ l.fn.puts.items ++ old_puts l.graph l.last (take l.child-index l.children)
