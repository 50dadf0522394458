use Rattle.std.proofs.Common.{◌≡◌, ◌+◌, sum_by}
use Rattle.tm_graph.specs.Nodes.{bytes_of, stored_in}
use Rattle.tm_graph.proofs.graph.Graph.stored_bytes.Given as goal

abbrev pub invariant-loop-row : goal.invariant-loop-row
invariant-loop-row l = l.stored + sum_by bytes_of l.row-iterator ≡ stored_in l.self
