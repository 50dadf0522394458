use Rattle.std.proofs.Common.{◌-◌, ◌≤◌, None, vec_len}
use Rattle.tm_nodes.specs.Readers.{to_end}
use Rattle.tm_nodes.specs.Reading.{next_path_at}
use Rattle.tm_nodes.proofs.Loops.{IsReadOn}
use Rattle.tm_nodes.proofs.path.take_paths.Given as goal

abbrev pub invariant-loop-alloc : goal.invariant-loop-alloc
invariant-loop-alloc l = (vec_len l.paths ≤ 256) × IsReadOn next_path_at (256 - vec_len l.paths) l.paths.items l.rest (to_end next_path_at 256 None l.bytes)

abbrev pub decreases-loop-alloc : goal.decreases-loop-alloc
decreases-loop-alloc l = 256 - vec_len l.paths
