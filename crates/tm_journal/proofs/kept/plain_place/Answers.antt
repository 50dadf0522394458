use Rattle.std.proofs.Common.{◌<◌, ◌≤◌, not, get_or, ap, ⊎_elim, arith}
use Rattle.std.proofs.lemmas.Bool.{cases_lt}
use Rattle.tm_journal.proofs.ByPath.{before_kept, past_kept, plain_keeps}
use Rattle.tm_journal.proofs.kept.plain_place.Goals as goal

pub returns-clause-none : goal.returns-clause-none
returns-clause-none c k d l =
    let rows = c.args.rows.now in
    let touch = c.args.touch.now in
    let start = c.first_from-start.result in
    let end = c.first_past-at-end.result in
    let done : end ≤ c.loop-at.at = omega (arith, c.loop-at-test.false) in
    ⊎_elim (λ (a : k < start). ap not (before_kept touch (get_or rows k d) (c.first_from-start.ensures.parts.0 k d (omega arith) a)))
    (λ (a : start ≤ k). ⊎_elim (λ (b : k < end). ap not (plain_keeps touch (get_or rows k d) c.requires.plain (c.loop-at.invariant k d a (omega (arith, b, done)))))
    (λ (b : end ≤ k). ap not (past_kept touch (get_or rows k d) (c.first_past-at-end.ensures.parts.1 k d b l))) (cases_lt k end)) (cases_lt k start)
