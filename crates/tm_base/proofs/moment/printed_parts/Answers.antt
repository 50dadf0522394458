use Rattle.std.proofs.Common.{refl}
use Rattle.tm_base.proofs.moment.printed_parts.Goals as goal

pub returns : goal.returns
returns c =
    rw (c.digit_byte.ensures, c.digit_byte-2.ensures, c.digit_byte-3.ensures, c.digit_byte-4.ensures, c.digit_byte-5.ensures, c.digit_byte-6.ensures, c.digit_byte-7.ensures, c.digit_byte-8.ensures, c.digit_byte-9.ensures, c.digit_byte-10.ensures, c.digit_byte-11.ensures, c.digit_byte-12.ensures, c.digit_byte-13.ensures, c.digit_byte-14.ensures)
    refl
