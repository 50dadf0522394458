use Rattle.std.proofs.Common.{◌≡◌, ℕ, ◌≤◌, ◌<◌, ◌==◌, false, get_or}
use Rattle.tm_tree.specs.declared.rows.Row.{Row}
use Rattle.tm_journal.proofs.kept.plain_place.Given as goal

abbrev pub invariant-loop-at : goal.invariant-loop-at
invariant-loop-at l = (k : ℕ) (d : Row) → l.start ≤ k → k < l.at → ((get_or l.rows k d).flags == 0) ≡ false
