use Rattle.std.proofs.Common.{◌<◌, ◌^◌, arith, refl}
use Rattle.tm_codec.proofs.Fields.{long_count, long-stands, long-read, long-none, long-missing}
use Rattle.tm_codec.proofs.get.get_long.Goals as goal

pub returns-in_err-count-clause-read : goal.returns-in_err-count-clause-read
returns-in_err-count-clause-read c part fits stands = absurd (long-missing c.args.bytes.now part c.args.at c.in_err-count.ensures.short.0 stands)

pub returns-in-Ok-clause-stands : goal.returns-in-Ok-clause-stands
returns-in-Ok-clause-stands c =
    let small : c.in_ok-count.count < 2 ^ 16 = omega arith in
    long-stands c.args.bytes.now c.args.at c.in_ok-count.count small c.in_ok-count.ensures.stands c.in-Ok.part.now c.in-Ok.ensures.ok.0 c.in-Ok.ensures.ok.1

pub returns-in-Ok-clause-read : goal.returns-in-Ok-clause-read
returns-in-Ok-clause-read c other fits stands =
    let small : c.in_ok-count.count < 2 ^ 16 = omega arith in
    long-read c.args.bytes.now c.args.at c.in_ok-count.count small c.in_ok-count.ensures.stands c.in-Ok.part.now other c.in-Ok.ensures.ok.0 c.in-Ok.ensures.ok.1 fits stands

pub returns-in-Ok-clause-short : goal.returns-in-Ok-clause-short
returns-in-Ok-clause-short c =
    let small : c.in_ok-count.count < 2 ^ 16 = omega arith in
    omega (arith, long_count c.args.bytes.now c.args.at c.in_ok-count.count small c.in_ok-count.ensures.stands, c.in-Ok.ensures.short, c.in-Ok.ensures.ok.0)

pub returns-in-Err-clause-read : goal.returns-in-Err-clause-read
returns-in-Err-clause-read c part fits stands =
    let small : c.in_ok-count.count < 2 ^ 16 = omega arith in
    absurd (long-none c.args.bytes.now c.args.at c.in_ok-count.count small c.in_ok-count.ensures.stands part c.in-Err.ensures.short.0 fits stands)

pub returns-in-Err-clause-short : goal.returns-in-Err-clause-short
returns-in-Err-clause-short c =
    let small : c.in_ok-count.count < 2 ^ 16 = omega arith in
    (omega (arith, long_count c.args.bytes.now c.args.at c.in_ok-count.count small c.in_ok-count.ensures.stands, c.in-Err.ensures.short.0), refl)
