use Rattle.std.proofs.Common.{arith}
use Rattle.tm_codec.proofs.Fields.{length-u64_text}
use Rattle.tm_nodes.proofs.Places.{stands, too_short, exits}
use Rattle.tm_nodes.proofs.Numbers.{u64_reads}
use Rattle.tm_nodes.proofs.field.take_u64.Goals as goal

pub returns-in_err-number : goal.returns-in_err-number
returns-in_err-number c = exits _ c.from_residual.result _ c.from_residual.ensures.1 (too_short u64_reads 8 length-u64_text c.args.bytes.now c.in_err-number.ensures.short.0)

pub returns : goal.returns
returns c = stands u64_reads c.in_ok-number.number c.args.bytes.now _ 8 (omega arith) (length-u64_text c.in_ok-number.number) c.in_ok-number.ensures.stands c.split_at.ensures.back
