use Rattle.std.proofs.Common.{◌+◌, ◌≤◌, length, map}
use Rattle.tm_text.specs.Pieces.{words_of, parts_left}
use Rattle.tm_text.proofs.WordLemmas.{length_left}
use Rattle.tm_text.proofs.ScriptLemmas.{IsRead}
use Rattle.tm_text.proofs.script.parse.Given as goal

abbrev pub invariant-loop-left : goal.invariant-loop-left
invariant-loop-left l = record {
  read : IsRead l.script (map words_of (parts_left 0x0A l.left)) l.number l.lines;
  short : l.number + length_left l.left ≤ length l.script + 1;
}

abbrev pub decreases-loop-left : goal.decreases-loop-left
decreases-loop-left l = length_left l.left
