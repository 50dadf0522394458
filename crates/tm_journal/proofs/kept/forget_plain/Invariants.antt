use Rattle.std.proofs.Common.{◌≡◌, ◌≤◌, filter, not, vec_len, vec_capacity}
use Rattle.tm_journal.specs.Rows.{replaces}
use Rattle.tm_journal.specs.Kept.{IsByPath}
use Rattle.tm_journal.proofs.kept.forget_plain.Given as goal

abbrev pub invariant-loop-at : goal.invariant-loop-at
invariant-loop-at l =
    IsByPath l.rows.items × (filter (λ row. not (replaces l.touch row)) l.rows.items ≡ filter (λ row. not (replaces l.touch row)) l.initial.rows.items)
    × (vec_len l.rows ≤ vec_len l.initial.rows) × (vec_capacity l.rows ≡ vec_capacity l.initial.rows)

abbrev pub decreases-loop-at : goal.decreases-loop-at
decreases-loop-at l = vec_len l.rows
