use Rattle.std.proofs.Common.{ap, Ok}
use Rattle.tm_codec.specs.Fields.{u16_text}
use Rattle.tm_codec.proofs.Fields.{number-stands, number-read, number-none}
use Rattle.tm_codec.proofs.get.get_u16.Goals as goal

pub returns-in_err-array_at-clause-read : goal.returns-in_err-array_at-clause-read
unfolding u16_text
returns-in_err-array_at-clause-read c n fits stands = absurd (number-none 1 c.args.at n c.args.bytes.now c.in_err-array_at.ensures.short.0 stands)

pub returns-clause-stands : goal.returns-clause-stands
unfolding u16_text
returns-clause-stands c = number-stands 1 c.args.at _ c.args.bytes.now _ c.type_inv.bytes c.in_ok-array_at.ensures.ok.0 c.in_ok-array_at.ensures.ok.1 c.from_be_bytes.ensures

pub returns-clause-read : goal.returns-clause-read
unfolding u16_text
returns-clause-read c n fits stands =
    ap Ok (number-read 1 c.args.at _ c.args.bytes.now _ c.type_inv.bytes c.in_ok-array_at.ensures.ok.0 c.in_ok-array_at.ensures.ok.1 c.from_be_bytes.ensures n c.from_be_bytes.type_inv fits stands)
