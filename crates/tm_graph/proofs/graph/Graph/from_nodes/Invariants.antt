use Rattle.std.proofs.Common.{◌≡◌, ◌++◌}
use Rattle.std.specs.Vec.Iter.{into_iter_items}
use Rattle.tm_graph.proofs.graph.Graph.from_nodes.Given as goal

abbrev pub invariant-loop-number : goal.invariant-loop-number
invariant-loop-number l = l.by_number.entries ++ into_iter_items l.number-iterator ≡ l.fn.nodes
