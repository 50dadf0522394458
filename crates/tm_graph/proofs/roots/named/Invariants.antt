use Rattle.std.proofs.Common.{◌≡◌, ◌+◌, sum_by}
use Rattle.tm_graph.specs.Nodes.{named, row_names}
use Rattle.tm_graph.proofs.roots.named.Given as goal

abbrev pub invariant-loop-row : goal.invariant-loop-row
invariant-loop-row l = l.named + sum_by (row_names l.number) l.row-iterator ≡ named l.nodes.entries l.number
