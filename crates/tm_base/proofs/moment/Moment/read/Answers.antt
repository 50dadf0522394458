use Rattle.std.proofs.Common.{subst, sym}
use Rattle.tm_base.specs.Moments.{Names}
use Rattle.tm_base.proofs.DayLemmas.{names_text, text_is}
use Rattle.tm_base.proofs.moment.Moment.read.Goals as goal

pub returns-in-Some-clause-value : goal.returns-in-Some-clause-value
returns-in-Some-clause-value c = text_is c.args.text.now c.in-Some.moment c.in-Some.ensures.in_range c.in-Some.ensures.some

pub returns-in-None-clause-bad : goal.returns-in-None-clause-bad
returns-in-None-clause-bad c =
    λ n small is. c.in-None.ensures.none n (subst (λ text. Names text n) (sym is) (names_text n small))
