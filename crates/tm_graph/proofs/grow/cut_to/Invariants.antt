use Rattle.std.proofs.Common.{◌≡◌, ◌≤◌, take, length}
use Rattle.tm_graph.proofs.grow.cut_to.Given as goal

abbrev pub invariant-loop-nodes : goal.invariant-loop-nodes
invariant-loop-nodes l = record {
  enough : l.count ≤ length l.nodes.entries;
  kept : take l.count l.nodes.entries ≡ take l.count l.fn.nodes.entries;
}

abbrev pub decreases-loop-nodes : goal.decreases-loop-nodes
decreases-loop-nodes l = length l.nodes.entries
