use Rattle.std.proofs.Common.{◌∙◌, ap, ℤ, unsigned_abs, arith, FitsSigned, w16}
use Rattle.std.proofs.lemmas.Int.{to_z-of_z}
use Rattle.jiff_core.proofs.SignedLemmas.{signed_arith}
use Rattle.tm_base.specs.Moments.{text_of, date_text}
use Rattle.tm_base.proofs.moment.printed.Goals as goal

pub returns-clause-text : goal.returns-clause-text
unfolding text_of
returns-clause-text c =
    let at = c.args.at in
    let fits : FitsSigned w16 at.date.year = omega (arith, signed_arith, at.date.year_in) in
    c.printed_parts.ensures
    ∙ ap (λ (z : ℤ). date_text (unsigned_abs z) at.date.month at.date.day at.time.hour at.time.minute at.time.second) (to_z-of_z w16 at.date.year fits)
