use Rattle.std.proofs.Common.{None, length}
use Rattle.tm_nodes.specs.Reading.{next_row_at}
use Rattle.tm_nodes.specs.Records.{rows_of}
use Rattle.tm_nodes.specs.Readers.{to_end, whole}
use Rattle.tm_nodes.proofs.Formats.{answer_is, answer_bad}
use Rattle.tm_nodes.proofs.RowLemmas.{rows_finds}
use Rattle.tm_nodes.proofs.rows.read_rows.Goals as goal

pub returns-clause-told : goal.returns-clause-told
unfolding rows_of whole
returns-clause-told c = c.alone.ensures (to_end next_row_at (length c.args.data.now) None c.args.data.now) c.take_rows.ensures

pub returns-clause-rows : goal.returns-clause-rows
unfolding rows_of whole
returns-clause-rows c = answer_is rows_finds 2 c.args.data.now c.alone.result (c.alone.ensures (to_end next_row_at (length c.args.data.now) None c.args.data.now) c.take_rows.ensures)

pub returns-clause-bad : goal.returns-clause-bad
unfolding rows_of whole
returns-clause-bad c = answer_bad rows_finds 2 c.args.data.now c.alone.result (c.alone.ensures (to_end next_row_at (length c.args.data.now) None c.args.data.now) c.take_rows.ensures)
