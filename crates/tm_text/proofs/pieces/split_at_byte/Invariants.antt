use Rattle.std.proofs.Common.{◌≡◌, ◌++◌, length, filter, nat_lt}
use Rattle.tm_text.proofs.WordLemmas.{length_left}
use Rattle.tm_text.specs.Pieces.{pieces, parts_left, texts}
use Rattle.tm_text.proofs.pieces.split_at_byte.Given as goal

abbrev pub invariant-loop-left : goal.invariant-loop-left
invariant-loop-left l = texts l.parts.items ++ filter (λ part. nat_lt 0 (length part)) (parts_left l.at l.left) ≡ pieces l.at l.bytes

abbrev pub decreases-loop-left : goal.decreases-loop-left
decreases-loop-left l = length_left l.left
