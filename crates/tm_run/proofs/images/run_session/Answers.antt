use Rattle.std.proofs.Common.{List, ap, ◌∙◌, subst, sym}
use Rattle.tm_text.specs.declared.line.Line.{Line}
use Rattle.tm_world.specs.Log.{now}
use Rattle.tm_machine.specs.Session.{state_on}
use Rattle.tm_machine.specs.States.{State, kept}
use Rattle.tm_machine.specs.Stops.{LeavesPair}
use Rattle.tm_run.specs.Done.{EndsDone, SaidLines}
use Rattle.tm_run.specs.Outcomes.{done_status}
use Rattle.tm_run.proofs.images.run_session.Goals as goal

pub returns-in-Ok-close-clause-does : goal.returns-in-Ok-close-clause-does
returns-in-Ok-close-clause-does g c told =
    let old = g.W.World.log c.args.world.now in
    let end = g.W.World.log c.run_lines.new.world in
    let s = state_on c.args.session.now (now old) in
    let did = c.in-Ok.ensures.does told in
    let left = c.session_is_left.ensures c.run_lines.new.session _ (now end) c.in-Ok.ensures.open (c.in-Ok.ensures.standing told) in
    let ended : SaidLines s c.as_slice.result.now old end (λ done. EndsDone c.done.result s done (now old) (now end)) = record {
      done = did.done;
      may = did.may;
      moments = did.moments;
      answers = λ whole. (c.done.ensures ∙ ap done_status did.answers.0, did.answers.2, subst (λ (t : State). LeavesPair (kept t) (now end)) did.answers.1 left);
    } in
    subst (λ w. SaidLines s c.args.lines.now old (g.W.World.log w) (λ done. EndsDone c.done.result s done (now old) (now (g.W.World.log w)))) (sym c.close.ensures.world)
    (subst (λ (lines : List Line). SaidLines s lines old end (λ done. EndsDone c.done.result s done (now old) (now end))) c.as_slice.ensures ended)
