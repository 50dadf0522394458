use Rattle.std.proofs.Common.{◌≡◌, ◌+◌, ℕ, length, get_or, take}
use Rattle.std.specs.List.{sum}
use Rattle.tm_blockmap.specs.Counts.{times}
use Rattle.tm_blockmap.proofs.BlockMap.give_all.Given as goal

abbrev pub invariant-loop-block : goal.invariant-loop-block
invariant-loop-block l = record {
  marks : (b : ℕ) → get_or l.self b 0 + times b (take l.block-index l.blocks) ≡ get_or l.initial.self b 0;
  size : length l.self ≡ length l.initial.self;
  count : sum l.self + l.block-index ≡ sum l.initial.self;
}
