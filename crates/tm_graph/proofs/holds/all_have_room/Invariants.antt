use Rattle.std.proofs.Common.{◌≡◌, true, take}
use Rattle.std.specs.Option.{unwrap_or}
use Rattle.std.specs.List.{list_all}
use Rattle.std.specs.Ordering.{nat_cmp}
use Rattle.std.specs.BTreeMap.{get}
use Rattle.tm_graph.specs.Nodes.{has_room, node}
use Rattle.tm_graph.proofs.holds.all_have_room.Given as goal

abbrev pub invariant-loop-child : goal.invariant-loop-child
invariant-loop-child l = list_all (λ child. has_room (unwrap_or (get nat_cmp l.counts child.node) 0) (node l.nodes.entries child.node)) (take l.child-index l.children) ≡ true
