use Rattle.std.proofs.Common.{◌≡◌, ◌&&◌, true, is_some, nat_lt, take}
use Rattle.std.specs.List.{list_all}
use Rattle.tm_graph.specs.Nodes.{node}
use Rattle.tm_store_records.proofs.node_rules.are_lower.Given as goal

abbrev pub invariant-loop-child : goal.invariant-loop-child
invariant-loop-child l = list_all (λ child. nat_lt child.node l.number && is_some (node l.nodes child.node)) (take l.child-index l.children) ≡ true
