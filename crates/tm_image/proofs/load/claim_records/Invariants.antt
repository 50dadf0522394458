use Rattle.std.proofs.Common.{◌≡◌, ◌+◌, ℕ, length, get_or, map}
use Rattle.std.specs.Map.Iter.{deref_pair}
use Rattle.tm_blockmap.specs.Marks.{AreMarks}
use Rattle.tm_image.specs.Content.{in_data}
use Rattle.tm_image.proofs.load.claim_records.Given as goal

abbrev pub invariant-loop-key : goal.invariant-loop-key
invariant-loop-key l = record {
  claimed : (b : ℕ) → get_or l.map b 0 ≡ get_or l.initial.map b 0 + in_data b (map deref_pair l.yielded);
  size : length l.map ≡ length l.initial.map;
  marks : AreMarks l.map;
}
