use Rattle.std.proofs.Common.{◌≡◌, length, take}
use Rattle.tm_text.specs.Pieces.{texts}
use Rattle.tm_text.specs.Words.{AreNames}
use Rattle.tm_text.proofs.words.names.Given as goal

abbrev pub invariant-loop-part : goal.invariant-loop-part
invariant-loop-part l = record { named : AreNames (texts (take l.part-index l.parts)) l.path; count : length l.path ≡ l.part-index }
