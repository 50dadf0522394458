use Rattle.std.proofs.Common.{◌+◌, length, arith}
use Rattle.tm_codec.specs.Fields.{short_text}
use Rattle.tm_codec.proofs.Fields.{length-short_text, IsTextAt-fits}
use Rattle.tm_nodes.proofs.Places.{stands, absent, exits}
use Rattle.tm_nodes.proofs.Fields.{short_reads}
use Rattle.tm_nodes.proofs.field.take_short.Goals as goal

pub split_at-requires : goal.split_at-requires
split_at-requires c =
    let part = c.in_ok-part.part.now in
    omega (arith, length-short_text part, IsTextAt-fits (short_text part) c.args.bytes.now 0 (omega (arith, length-short_text part)) c.in_ok-part.ensures.stands.1)

pub returns : goal.returns
returns c =
    let part = c.in_ok-part.part.now in
    stands short_reads part c.args.bytes.now _ (1 + length part) c.in_ok-part.ensures.stands.0 (length-short_text part) c.in_ok-part.ensures.stands.1 c.split_at.ensures.back

pub returns-in_err-part : goal.returns-in_err-part
returns-in_err-part c = exits _ c.from_residual.result _ c.from_residual.ensures.1 (absent short_reads c.args.bytes.now (λ part small there. c.in_err-part.ensures.read part small there))
