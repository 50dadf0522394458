use Rattle.std.proofs.Common.{◌≡◌, ◌+◌, ℕ, length, get_or, take}
use Rattle.tm_blockmap.specs.Marks.{AreMarks}
use Rattle.tm_blockmap.specs.Counts.{times}
use Rattle.tm_image.proofs.load.claim_list.Given as goal

abbrev pub invariant-loop-block : goal.invariant-loop-block
invariant-loop-block l = record {
  claimed : (b : ℕ) → get_or l.map b 0 ≡ get_or l.initial.map b 0 + times b (take l.block-index l.blocks);
  size : length l.map ≡ length l.initial.map;
  marks : AreMarks l.map;
}
