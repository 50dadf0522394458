use Rattle.std.proofs.Common.{◌+◌, length, arith}
use Rattle.tm_codec.specs.Fields.{long_text}
use Rattle.tm_codec.proofs.Fields.{length-long_text, IsTextAt-fits}
use Rattle.tm_nodes.proofs.Places.{stands, absent, exits}
use Rattle.tm_nodes.proofs.Fields.{long_reads}
use Rattle.tm_nodes.proofs.field.take_long.Goals as goal

pub split_at-requires : goal.split_at-requires
split_at-requires c =
    let part = c.in_ok-part.part.now in
    omega (arith, length-long_text part, IsTextAt-fits (long_text part) c.args.bytes.now 0 (omega (arith, length-long_text part)) c.in_ok-part.ensures.stands.1)

pub returns : goal.returns
returns c =
    let part = c.in_ok-part.part.now in
    stands long_reads part c.args.bytes.now _ (2 + length part) c.in_ok-part.ensures.stands.0 (length-long_text part) c.in_ok-part.ensures.stands.1 c.split_at.ensures.back

pub returns-in_err-part : goal.returns-in_err-part
returns-in_err-part c = exits _ c.from_residual.result _ c.from_residual.ensures.1 (absent long_reads c.args.bytes.now (λ part small there. c.in_err-part.ensures.read part small there))
