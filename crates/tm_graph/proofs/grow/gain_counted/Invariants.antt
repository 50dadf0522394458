use Rattle.std.proofs.Common.{◌≡◌, ◌+◌, ◌≤◌, ◌^◌, ℕ, length}
use Rattle.std.specs.Option.{option_map, unwrap_or}
use Rattle.std.specs.Ordering.{nat_cmp}
use Rattle.std.specs.BTreeMap.{get}
use Rattle.tm_graph.specs.Nodes.{node, links_of, more}
use Rattle.tm_graph.proofs.grow.gain_counted.Given as goal

abbrev pub invariant-loop-number : goal.invariant-loop-number
invariant-loop-number l = record {
  each : (q : ℕ) → option_map (more (unwrap_or (get nat_cmp l.gains q) 0)) (node l.nodes.entries q) ≡ option_map (more (unwrap_or (get nat_cmp l.fn.gains q) 0)) (node l.fn.nodes.entries q);
  few : (q : ℕ) → links_of l.nodes.entries q + unwrap_or (get nat_cmp l.gains q) 0 ≤ 2 ^ 62;
}

abbrev pub decreases-loop-number : goal.decreases-loop-number
decreases-loop-number l = length l.gains.entries
