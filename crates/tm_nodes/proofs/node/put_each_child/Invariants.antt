use Rattle.std.proofs.Common.{◌≡◌, ◌++◌, take}
use Rattle.std.specs.List.{flat_map}
use Rattle.tm_nodes.specs.Nodes.{child_text}
use Rattle.tm_nodes.proofs.node.put_each_child.Given as goal

abbrev pub invariant-loop-child : goal.invariant-loop-child
invariant-loop-child l = l.out.items ≡ l.fn.out.items ++ flat_map child_text (take l.child-index l.entries)
