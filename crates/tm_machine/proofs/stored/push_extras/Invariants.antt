use Rattle.std.proofs.Common.{◌≡◌, ◌++◌, map}
use Rattle.tm_machine.specs.Queries.{extra_row, extra_rows}
use Rattle.tm_machine.proofs.stored.push_extras.Given as goal

abbrev pub invariant-loop-name : goal.invariant-loop-name
invariant-loop-name l = l.rows ++ map extra_row l.name-iterator ≡ l.initial.rows ++ extra_rows l.attrs
