use Rattle.std.proofs.Common.{◌≡◌, drop}
use Rattle.tm_graph.specs.Walks.{down}
use Rattle.tm_graph.proofs.graph.Graph.node_at.Given as goal

abbrev pub invariant-loop-name : goal.invariant-loop-name
invariant-loop-name l = down l.self l.number (drop l.name-index l.name-items) ≡ down l.fn.self l.fn.root l.fn.path
