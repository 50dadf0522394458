use Rattle.std.proofs.Common.{◌≡◌, ◌==◌, ◌-◌, ◌+◌, length, take, drop, arith, length-drop}
use Rattle.std.proofs.lemmas.List.{take_all}
use Rattle.std.proofs.lemmas.List.Splits.{slice_split_none, slice_split_first}
use Rattle.tm_text.proofs.WordLemmas.{position_some}
use Rattle.tm_text.proofs.pieces.cut_at.Goals as goal

pub returns-in-Some-clause-parts : goal.returns-in-Some-clause-parts
returns-in-Some-clause-parts c =
    let found = position_some (λ b. b == c.args.at) c.args.bytes.now c.in-Some.end c.in-Some.ensures.first in
    let rest = drop (c.in-Some.end + 1) c.args.bytes.now in
    let whole : take (length c.args.bytes.now - (c.in-Some.end + 1)) rest ≡ rest =
    take_all _ _ (omega (arith, length-drop (c.in-Some.end + 1) c.args.bytes.now)) in
    rw (whole, found.0) (slice_split_first (λ b. b == c.args.at) c.args.bytes.now 0 found.1)

pub returns-in-None-clause-parts : goal.returns-in-None-clause-parts
returns-in-None-clause-parts c = slice_split_none (λ b. b == c.args.at) c.args.bytes.now c.in-None.ensures.none
