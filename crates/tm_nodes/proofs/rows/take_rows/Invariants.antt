use Rattle.std.proofs.Common.{◌+◌, ◌-◌, ◌≤◌, None, length, vec_len}
use Rattle.tm_nodes.specs.Readers.{to_end}
use Rattle.tm_nodes.specs.Reading.{next_row_at}
use Rattle.tm_nodes.proofs.Loops.{IsReadOn}
use Rattle.tm_nodes.proofs.rows.take_rows.Given as goal

abbrev pub invariant-loop-alloc : goal.invariant-loop-alloc
invariant-loop-alloc l = (vec_len l.rows + length l.rest ≤ length l.bytes) × IsReadOn next_row_at (length l.bytes - vec_len l.rows) l.rows.items l.rest (to_end next_row_at (length l.bytes) None l.bytes)

abbrev pub decreases-loop-alloc : goal.decreases-loop-alloc
decreases-loop-alloc l = length l.rest
