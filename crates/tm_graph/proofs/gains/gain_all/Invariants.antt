use Rattle.std.proofs.Common.{◌≡◌, ℕ, take}
use Rattle.std.specs.Option.{option_map}
use Rattle.tm_graph.specs.Nodes.{node, more, times}
use Rattle.tm_graph.proofs.gains.gain_all.Given as goal

abbrev pub invariant-loop-child : goal.invariant-loop-child
invariant-loop-child l = (q : ℕ) → node l.nodes.entries q ≡ option_map (more (times q (take l.child-index l.children))) (node l.fn.nodes.entries q)
