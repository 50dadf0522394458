use Rattle.std.proofs.Common.{◌≡◌, ◌-◌, ◌++◌, replicate}
use Rattle.tm_blockmap.proofs.BlockMap.new.Given as goal

abbrev pub invariant-loop-block : goal.invariant-loop-block
invariant-loop-block l = l.map ≡ replicate l.block 1 ++ replicate (l.n - l.block) 0
