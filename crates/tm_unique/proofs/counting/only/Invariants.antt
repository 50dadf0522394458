use Rattle.std.proofs.Common.{◌≡◌, ◌+◌, sum_by}
use Rattle.tm_identity.specs.Uniques.{only_of}
use Rattle.tm_unique.proofs.Sizes.{size_of}
use Rattle.tm_unique.proofs.counting.only.Given as goal

abbrev pub invariant-loop-next : goal.invariant-loop-next
invariant-loop-next l = l.bytes + sum_by (only_of l.graph) l.todo.items ≡ only_of l.fn.graph l.fn.node

abbrev pub decreases-loop-next : goal.decreases-loop-next
decreases-loop-next l = sum_by (size_of l.graph) l.todo.items
