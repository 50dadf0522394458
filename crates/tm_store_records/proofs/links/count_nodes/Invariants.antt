use Rattle.std.proofs.Common.{◌≡◌, ℕ, ◌+◌, take}
use Rattle.std.specs.Option.{unwrap_or}
use Rattle.std.specs.Ordering.{nat_cmp}
use Rattle.std.specs.BTreeMap.{get}
use Rattle.tm_graph.specs.Nodes.{named}
use Rattle.tm_store_records.proofs.links.count_nodes.Given as goal

abbrev pub invariant-loop-number : goal.invariant-loop-number
invariant-loop-number l = (q : ℕ) → unwrap_or (get nat_cmp l.counts q) 0 ≡ unwrap_or (get nat_cmp l.fn.counts q) 0 + named (take l._number-index l.nodes) q
