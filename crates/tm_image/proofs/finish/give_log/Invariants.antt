use Rattle.std.proofs.Common.{◌≡◌, ◌+◌, ℕ, length, get_or, take}
use Rattle.std.specs.List.{sum}
use Rattle.tm_image.specs.Commit.{released, released_len}
use Rattle.tm_image.proofs.finish.give_log.Given as goal

abbrev pub invariant-loop-undo : goal.invariant-loop-undo
invariant-loop-undo l = record {
  marks : (b : ℕ) → get_or l.map b 0 + released b (take l.undo-index l.log) ≡ get_or l.initial.map b 0;
  size : length l.map ≡ length l.initial.map;
  count : sum l.map + released_len (take l.undo-index l.log) ≡ sum l.initial.map;
}
