use Rattle.std.proofs.Common.{Result, Err, List, sym, ◌∙◌, ap, subst}
use Rattle.std.proofs.lemmas.Result.{err_from_is_err_and}
use Rattle.tm_base.specs.declared.refused.LineFault.{LineFault}
use Rattle.tm_reply.specs.declared.row.ReplyRow.{ReplyRow}
use Rattle.tm_world.specs.Log.{now}
use Rattle.tm_machine.specs.Allowed.{Did, MayDo}
use Rattle.tm_machine.specs.Session.{state_on}
use Rattle.tm_machine.proofs.Allowing.{did_change, did_nothing}
use Rattle.tm_machine.proofs.session.Session.answer.Goals as goal

pub returns-in_err-change-clause-does : goal.returns-in_err-change-clause-does
returns-in_err-change-clause-does g c told =
    let start = g.W.World.log c.args.world.now in
    let q = err_from_is_err_and c.from_residual.result c.from_residual.ensures.1 in
    subst (λ (r : Result (List ReplyRow) LineFault). Did (MayDo (state_on c.args.self.now (now start)) c.args.line.now) c.args.self.now c.args.self.now start start r) (sym (q.1 ∙ ap Err q.2))
    (did_nothing c.args.line.now c.args.self.now start)

pub returns-in-Some-clause-does : goal.returns-in-Some-clause-does
returns-in-Some-clause-does g c told =
    did_change c.args.line.now c.args.self.now c.change.new.self (g.W.World.log c.args.world.now) (g.W.World.log c.change.new.world) c.change.result c.in-Some.change
    (sym c.in_ok-change.ensures ∙ c.in-Some.is) (c.change.ensures.does told)
