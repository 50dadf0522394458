use Rattle.std.proofs.Common.{◌≡◌, ℕ, length}
use Rattle.std.specs.Option.{unwrap_or}
use Rattle.std.specs.Ordering.{nat_cmp}
use Rattle.std.specs.BTreeMap.{get}
use Rattle.tm_graph.specs.Nodes.{node}
use Rattle.tm_graph.specs.Losing.{less}
use Rattle.tm_graph.proofs.losses.apply.Given as goal

abbrev pub invariant-loop-number : goal.invariant-loop-number
invariant-loop-number l = (q : ℕ) → less (unwrap_or (get nat_cmp l.counts q) 0) (node l.nodes.entries q) ≡ less (unwrap_or (get nat_cmp l.fn.counts q) 0) (node l.fn.nodes.entries q)

abbrev pub decreases-loop-number : goal.decreases-loop-number
decreases-loop-number l = length l.counts.entries
