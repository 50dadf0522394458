use Rattle.std.proofs.Common.{ap, ◌∙◌, sym, subst, refl, Some}
use Rattle.tm_world.specs.Log.{now}
use Rattle.tm_world.specs.Outside.{Outside}
use Rattle.tm_run.specs.Scripts.{IsReading}
use Rattle.tm_run.proofs.ScriptLemmas.{attached_left, attached_reads, reading_steps, same_reads}
use Rattle.tm_run.proofs.script.attach_script.Goals as goal

pub returns-clause-script : goal.returns-clause-script
returns-clause-script g c told =
    attached_left c.args.path.now (now (g.W.World.log c.args.world.now)) (c.in_ok-attach.ensures.script told refl)
    ∙ ap (λ (s : Outside). Some s.unread) (sym (c.in_ok-attach.ensures.ok told).ends)

pub returns-clause-reading : goal.returns-clause-reading
returns-clause-reading g c told =
    let old = now (g.W.World.log c.args.world.now) in
    subst (λ (s : Outside). IsReading old s) (sym (c.in_ok-attach.ensures.ok told).ends) (attached_reads c.args.path.now old)

pub returns-in_err-attach-clause-any_moment : goal.returns-in_err-attach-clause-any_moment
returns-in_err-attach-clause-any_moment g c told =
    reading_steps (g.W.World.log c.args.world.now) (g.W.World.log c.attach.new.self) _ (c.in_err-attach.ensures.err told) (same_reads _)

pub returns-clause-any_moment : goal.returns-clause-any_moment
returns-clause-any_moment g c told =
    let old = g.W.World.log c.args.world.now in
    reading_steps old (g.W.World.log c.attach.new.self) _ (c.in_ok-attach.ensures.ok told) (attached_reads c.args.path.now (now old))
