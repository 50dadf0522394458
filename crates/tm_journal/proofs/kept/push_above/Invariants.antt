use Rattle.std.proofs.Common.{◌≡◌, ◌++◌, take}
use Rattle.tm_journal.specs.Rows.{rows_above}
use Rattle.tm_journal.proofs.kept.push_above.Given as goal

abbrev pub invariant-loop-row : goal.invariant-loop-row
invariant-loop-row l = l.out.items ≡ l.initial.out.items ++ rows_above l.cursor (take l.row-index l.rows)
