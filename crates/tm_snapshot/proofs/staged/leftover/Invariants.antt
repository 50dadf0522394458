use Rattle.std.proofs.Common.{◌≡◌, ◌==◌, take, filter, not}
use Rattle.std.specs.List.{list_any}
use Rattle.tm_snapshot.specs.Puts.{built_blocks}
use Rattle.tm_snapshot.proofs.staged.leftover.Given as goal

abbrev pub invariant-loop-block : goal.invariant-loop-block
invariant-loop-block l = l.left.items ≡ filter (λ b. not (list_any (λ x. x == b) (built_blocks l.blobs))) (take l.block-index l.staged)
