use Rattle.std.proofs.Common.{◌≡◌, ℕ, ◌+◌, take}
use Rattle.std.specs.Option.{unwrap_or}
use Rattle.std.specs.Ordering.{nat_cmp}
use Rattle.std.specs.BTreeMap.{get}
use Rattle.tm_graph.specs.Nodes.{times}
use Rattle.tm_store_records.proofs.links.count_entries.Given as goal

abbrev pub invariant-loop-child : goal.invariant-loop-child
invariant-loop-child l = (q : ℕ) → unwrap_or (get nat_cmp l.counts q) 0 ≡ unwrap_or (get nat_cmp l.fn.counts q) 0 + times q (take l.child-index l.children)
