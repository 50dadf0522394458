use Rattle.std.proofs.Common.{ap, ◌∙◌, is_some, subst, List, ℕ}
use Rattle.std.proofs.lemmas.Result.{err_from_is_err_and}
use Rattle.tm_reply.specs.Replies.{reply_text}
use Rattle.tm_reply.specs.declared.reply.Reply.{Reply}
use Rattle.tm_world.specs.Log.{now}
use Rattle.tm_machine.specs.Session.{state_on}
use Rattle.tm_run.specs.Ends.{SaysAll}
use Rattle.tm_run.proofs.SayLemmas.{all_after}
use Rattle.tm_run.proofs.SessionLemmas.{line_silent}
use Rattle.tm_run.proofs.DoneLemmas.{effect_done, effect_said, left_after_effect, none_ok, refused_of, state_kept}
use Rattle.tm_run.proofs.lines.run_line.Goals as goal

pub returns-in-Err-clause-does : goal.returns-in-Err-clause-does
returns-in-Err-clause-does g c told =
    let old = g.W.World.log c.args.world.now in
    let did = c.line.ensures.does told in
    record { effect = did.effect; may = did.may; moments = effect_done (state_on c.args.session.now (now old)) did.effect old (g.W.World.log c.line.new.world) did.moments; answers = tt }

pub returns-in-Err-Fault-clause-does : goal.returns-in-Err-Fault-clause-does
returns-in-Err-Fault-clause-does g c told =
    let old = g.W.World.log c.args.world.now in
    let did = c.line.ensures.does told in
    record { effect = did.effect; may = did.may; moments = effect_done (state_on c.args.session.now (now old)) did.effect old (g.W.World.log c.line.new.world) did.moments; answers = tt }

pub returns-in-Err-Memory-clause-does : goal.returns-in-Err-Memory-clause-does
returns-in-Err-Memory-clause-does g c told =
    let old = g.W.World.log c.args.world.now in
    let did = c.line.ensures.does told in
    record { effect = did.effect; may = did.may; moments = effect_done (state_on c.args.session.now (now old)) did.effect old (g.W.World.log c.line.new.world) did.moments; answers = tt }

pub returns-in_err-say-clause-does : goal.returns-in_err-say-clause-does
returns-in_err-say-clause-does g c told =
    let old = g.W.World.log c.args.world.now in
    let mid = g.W.World.log c.line.new.world in
    let s = state_on c.args.session.now (now old) in
    let did = c.in-Ok.ensures.does told in
    let left = left_after_effect c.session_is_left.ensures c.line.new.self _ (now mid) did.effect c.in-Ok.ensures.open (c.in-Ok.ensures.standing told) did.answers.1 in
    let text = c.as_slice.ensures ∙ c.in-Ok-print.ensures ∙ ap reply_text did.answers.0 in
    let q = err_from_is_err_and c.from_residual.result c.from_residual.ensures.1 in
    record {
      effect = did.effect;
      may = did.may;
      moments = effect_said s did.effect old mid (g.W.World.log c.say.new.world) c.as_slice.result.now did.moments (line_silent _ _ old mid did.moments) left text (c.say.ensures.any_moment told);
      answers = none_ok c.from_residual.result _ _ q.1;
    }

pub returns-clause-does : goal.returns-clause-does
returns-clause-does g c told =
    let old = g.W.World.log c.args.world.now in
    let mid = g.W.World.log c.line.new.world in
    let end = g.W.World.log c.say.new.world in
    let s = state_on c.args.session.now (now old) in
    let did = c.in-Ok.ensures.does told in
    let left = left_after_effect c.session_is_left.ensures c.line.new.self _ (now mid) did.effect c.in-Ok.ensures.open (c.in-Ok.ensures.standing told) did.answers.1 in
    let text = c.as_slice.ensures ∙ c.in-Ok-print.ensures ∙ ap reply_text did.answers.0 in
    let silent = line_silent _ _ old mid did.moments in
    record {
      effect = did.effect;
      may = did.may;
      moments = effect_said s did.effect old mid end c.as_slice.result.now did.moments silent left text (c.say.ensures.any_moment told);
      answers = (
        c.is_some.ensures ∙ ap is_some (ap (λ (r : Reply). r.refused) did.answers.0 ∙ refused_of did.effect),
        state_kept c.line.new.self (now mid) (now end) (c.say.ensures.pair told) ∙ did.answers.1,
        subst (λ (t : List ℕ). SaysAll t (now old) (now end)) text (all_after c.as_slice.result.now (now old) (now mid) (now end) silent (c.in_ok-say.ensures.said told)),
      );
    }
