use Rattle.std.proofs.Common.{None}
use Rattle.tm_nodes.specs.Reading.{next_path_at}
use Rattle.tm_nodes.specs.Records.{paths_of}
use Rattle.tm_nodes.specs.Readers.{to_end, whole}
use Rattle.tm_nodes.proofs.Formats.{answer_is, answer_bad}
use Rattle.tm_nodes.proofs.RowLemmas.{paths_finds}
use Rattle.tm_nodes.proofs.path.read_paths.Goals as goal

pub returns-clause-told : goal.returns-clause-told
unfolding paths_of whole
returns-clause-told c = c.alone.ensures (to_end next_path_at 256 None c.args.data.now) c.take_paths.ensures

pub returns-clause-paths : goal.returns-clause-paths
unfolding paths_of whole
returns-clause-paths c = answer_is paths_finds 1 c.args.data.now c.alone.result (c.alone.ensures (to_end next_path_at 256 None c.args.data.now) c.take_paths.ensures)

pub returns-clause-bad : goal.returns-clause-bad
unfolding paths_of whole
returns-clause-bad c = answer_bad paths_finds 1 c.args.data.now c.alone.result (c.alone.ensures (to_end next_path_at 256 None c.args.data.now) c.take_paths.ensures)
