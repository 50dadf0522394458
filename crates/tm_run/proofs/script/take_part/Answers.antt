use Rattle.std.proofs.Common.{ap, ◌∙◌, sym, subst}
use Rattle.tm_world.specs.Log.{now}
use Rattle.tm_world.specs.Outside.{Outside}
use Rattle.tm_run.specs.Scripts.{IsReading}
use Rattle.tm_run.proofs.ScriptLemmas.{left_took, reading_steps, same_reads, took_reads}
use Rattle.tm_run.proofs.script.take_part.Goals as goal

pub returns-in_err-extend_from_slice-clause-reading : goal.returns-in_err-extend_from_slice-clause-reading
returns-in_err-extend_from_slice-clause-reading g c told =
    let old = now (g.W.World.log c.args.world.now) in
    subst (λ (s : Outside). IsReading old s) (sym (c.in_ok-taken.ensures.steps told).ends) (took_reads old c.in_ok-taken.taken)

pub returns-clause-left : goal.returns-clause-left
returns-clause-left g c told =
    ap (λ (s : Outside). s.unread) (c.in_ok-taken.ensures.steps told).ends ∙ left_took (now (g.W.World.log c.args.world.now)) c.in_ok-taken.taken

pub returns-clause-reading : goal.returns-clause-reading
returns-clause-reading g c told =
    let old = now (g.W.World.log c.args.world.now) in
    subst (λ (s : Outside). IsReading old s) (sym (c.in_ok-taken.ensures.steps told).ends) (took_reads old c.in_ok-taken.taken)

pub returns-in_err-taken-clause-any_moment : goal.returns-in_err-taken-clause-any_moment
returns-in_err-taken-clause-any_moment g c told =
    reading_steps (g.W.World.log c.args.world.now) (g.W.World.log c.take.new.self) _ (c.in_err-taken.ensures.err told) (same_reads _)

pub returns-in_err-extend_from_slice-clause-any_moment : goal.returns-in_err-extend_from_slice-clause-any_moment
returns-in_err-extend_from_slice-clause-any_moment g c told =
    let old = g.W.World.log c.args.world.now in
    reading_steps old (g.W.World.log c.take.new.self) _ (c.in_ok-taken.ensures.steps told) (took_reads (now old) c.in_ok-taken.taken)

pub returns-clause-any_moment : goal.returns-clause-any_moment
returns-clause-any_moment g c told =
    let old = g.W.World.log c.args.world.now in
    reading_steps old (g.W.World.log c.take.new.self) _ (c.in_ok-taken.ensures.steps told) (took_reads (now old) c.in_ok-taken.taken)
