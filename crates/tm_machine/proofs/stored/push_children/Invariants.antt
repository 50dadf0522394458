use Rattle.std.proofs.Common.{◌≡◌, ◌++◌, take}
use Rattle.tm_machine.specs.Queries.{child_lines}
use Rattle.tm_machine.proofs.stored.push_children.Given as goal

abbrev pub invariant-loop-child : goal.invariant-loop-child
invariant-loop-child l = l.rows ≡ l.initial.rows ++ child_lines l.graph (take l.child-index l.children)
