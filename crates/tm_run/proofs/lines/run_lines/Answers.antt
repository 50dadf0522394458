use Rattle.std.proofs.Common.{◌≡◌, ◌<◌, [], drop, ◌∙◌, ◌+◌, arith, length, subst, sym, append-nil, ◌||◌}
use Rattle.std.proofs.lemmas.List.{drop_all}
use Rattle.std.proofs.lemmas.List.Elements.{All-get_or}
use Rattle.std.proofs.lemmas.Result.{err_from_is_err_and}
use Rattle.tm_text.specs.Bounds.{IsValidLine}
use Rattle.tm_world.specs.Log.{now}
use Rattle.tm_machine.specs.Session.{state_on}
use Rattle.tm_machine.specs.States.{State}
use Rattle.tm_run.proofs.DoneLemmas.{EffectLaws, SoFar, cut_short, lines_more, none_ok, one_more, or_none}
use Rattle.tm_run.proofs.lines.run_lines.Goals as goal

pub run_line-requires-clause-line : goal.run_line-requires-clause-line
run_line-requires-clause-line g c =
    let i = c.loop-line.line-index in
    let line = c.line-item.result in
    let low : i < length c.args.lines.now = omega arith in
    subst IsValidLine (sym c.line-item.is) (All-get_or IsValidLine c.args.lines.now i line low c.requires.lines)

pub returns-in_err-refused-clause-does : goal.returns-in_err-refused-clause-does
returns-in_err-refused-clause-does g c told =
    let start = g.W.World.log c.args.world.now in
    let mid = g.W.World.log c.loop-line.world in
    let s0 = state_on c.args.session.now (now start) in
    let s = state_on c.loop-line.session (now mid) in
    let i = c.loop-line.line-index in
    let line = c.line-item.result in
    let low : i < length c.args.lines.now = omega arith in
    let laws : EffectLaws = record { last = c.commits_end.ensures.last; plain = c.plain_is_history.ensures.lines } in
    let so_far = subst (SoFar laws start s0 c.args.lines.now mid s c.loop-line.refused) (lines_more c.args.lines.now i line low c.line-item.is) (c.loop-line.invariant.so_far told laws) in
    let did = c.run_line.ensures.does told in
    let q = err_from_is_err_and c.from_residual.result c.from_residual.ensures.1 in
    cut_short laws start s0 c.args.lines.now mid (g.W.World.log c.run_line.new.world) s c.loop-line.refused line (drop (i + 1) c.args.lines.now) so_far did.effect did.may did.moments
    _ (λ done. none_ok c.from_residual.result _ _ q.1)

pub loop-line-preserved : goal.loop-line-preserved
loop-line-preserved g c = record {
  «open» = c.in_ok-refused.ensures.open;
  standing = c.in_ok-refused.ensures.standing;
  so_far = λ told laws.
      let start = g.W.World.log c.args.world.now in
      let mid = g.W.World.log c.loop-line.world in
      let end = g.W.World.log c.run_line.new.world in
      let s0 = state_on c.args.session.now (now start) in
      let s = state_on c.loop-line.session (now mid) in
      let i = c.loop-line.line-index in
      let line = c.line-item.result in
      let low : i < length c.args.lines.now = omega arith in
      let so_far = subst (SoFar laws start s0 c.args.lines.now mid s c.loop-line.refused) (lines_more c.args.lines.now i line low c.line-item.is) (c.loop-line.invariant.so_far told laws) in
      let did = c.in_ok-refused.ensures.does told in
      subst (λ (x : State). SoFar laws start s0 c.args.lines.now end x (c.loop-line.refused || c.in_ok-refused.field-0) (drop (i + 1) c.args.lines.now)) (sym did.answers.1)
      (one_more laws start s0 c.args.lines.now mid end s c.loop-line.refused line (drop (i + 1) c.args.lines.now) so_far did.effect did.may did.moments c.in_ok-refused.field-0 did.answers.0 did.answers.2);
  blocks = c.in_ok-refused.ensures.blocks ∙ c.loop-line.invariant.blocks;
  faults = λ part. omega (arith, c.in_ok-refused.ensures.never_less part, c.loop-line.invariant.faults part);
}

pub returns-clause-does : goal.returns-clause-does
returns-clause-does g c told =
    let start = g.W.World.log c.args.world.now in
    let mid = g.W.World.log c.loop-line.world in
    let s0 = state_on c.args.session.now (now start) in
    let s = state_on c.loop-line.session (now mid) in
    let laws : EffectLaws = record { last = c.commits_end.ensures.last; plain = c.plain_is_history.ensures.lines } in
    let none : drop c.loop-line.line-index c.args.lines.now ≡ [] = drop_all c.loop-line.line-index c.args.lines.now (omega arith) in
    let w = subst (SoFar laws start s0 c.args.lines.now mid s c.loop-line.refused) none (c.loop-line.invariant.so_far told laws) [] tt in
    record {
      done = w.done;
      may = w.may;
      moments = w.passes;
      answers = (sym (w.refuses ∙ or_none c.loop-line.refused), sym w.state, record { all = sym (append-nil (now mid).said) ∙ sym w.said });
    }
