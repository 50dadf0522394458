use Rattle.std.proofs.Common.{◌≡◌, ◌+◌, ◌≤◌, ℕ, length, get_or, vec_capacity}
use Rattle.std.specs.List.{sum}
use Rattle.tm_blockmap.specs.Marks.{AreMarks}
use Rattle.tm_blockmap.specs.Counts.{times}
use Rattle.tm_blockmap.specs.Takes.{Takes}
use Rattle.tm_blockmap.proofs.BlockMap.take_all.Given as goal

abbrev pub invariant-loop-i : goal.invariant-loop-i
invariant-loop-i l = record {
  taken : Takes l.blocks.items l.initial.self l.self;
  many : length l.blocks.items ≡ l._i;
  marks : (b : ℕ) → get_or l.self b 0 ≡ get_or l.initial.self b 0 + times b l.blocks.items;
  count : sum l.self ≡ sum l.initial.self + l._i;
  size : length l.self ≡ length l.initial.self;
  are_marks : AreMarks l.self;
  space : l.count ≤ vec_capacity l.blocks;
}
