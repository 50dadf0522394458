use Rattle.std.proofs.Common.{◌≡◌, ◌+◌, ◌*◌, arith}
use Rattle.tm_base.proofs.moment.civil_of.Goals as goal

pub returns-clause-none : goal.returns-clause-none
returns-clause-none c =
    let year : c.number.result * 100 + c.number-2.result ≡ 100 * c.number.result + c.number-2.result = omega arith in
    rw (← c.number.ensures.value, ← c.number-2.ensures.value, ← c.number-month.ensures.value, ← c.number-day.ensures.value, ← c.number-hour.ensures.value, ← c.number-minute.ensures.value, ← c.number-second.ensures.value, ← year)
    c.civil_at.ensures.none
