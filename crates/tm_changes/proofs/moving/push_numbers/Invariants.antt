use Rattle.std.proofs.Common.{◌≡◌, ◌++◌}
use Rattle.tm_changes.proofs.Deepening.{numbers_of}
use Rattle.tm_changes.proofs.moving.push_numbers.Given as goal

abbrev pub invariant-loop-name : goal.invariant-loop-name
invariant-loop-name l = l.next.items ++ numbers_of l._name-iterator ≡ l.fn.next.items ++ numbers_of l.entries.entries
