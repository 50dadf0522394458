use Rattle.std.proofs.Common.{◌≡◌, ℕ, ◌+◌, sum_by, take}
use Rattle.tm_unique.proofs.counting.push_all.Given as goal

abbrev pub invariant-loop-child : goal.invariant-loop-child
invariant-loop-child l = (f : ℕ → ℕ) → sum_by f l.todo.items ≡ sum_by f l.fn.todo.items + sum_by (λ child. f child.node) (take l.child-index l.children)
