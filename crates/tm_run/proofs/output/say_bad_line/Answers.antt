use Rattle.std.proofs.Common.{List, ℕ, subst, ◌∙◌}
use Rattle.tm_world.specs.Log.{now, Passes}
use Rattle.tm_run.specs.Ends.{SaysPrefix, Speaks}
use Rattle.tm_run.specs.Outcomes.{bad_line}
use Rattle.tm_run.proofs.output.say_bad_line.Goals as goal

pub returns-in-Ok-clause-cut : goal.returns-in-Ok-clause-cut
unfolding bad_line
returns-in-Ok-clause-cut g c told =
    subst (λ (t : List ℕ). SaysPrefix t (now (g.W.World.log c.args.world.now)) (now (g.W.World.log c.say_last.new.world)))
    (c.as_str.ensures.value ∙ c.in-Ok.ensures.ok) (c.say_last.ensures.cut told)

pub returns-in-Ok-clause-any_moment : goal.returns-in-Ok-clause-any_moment
unfolding bad_line
returns-in-Ok-clause-any_moment g c told =
    let old = g.W.World.log c.args.world.now in
    subst (λ (t : List ℕ). Passes old (g.W.World.log c.say_last.new.world) (Speaks t (now old))) (c.as_str.ensures.value ∙ c.in-Ok.ensures.ok) (c.say_last.ensures.any_moment told)
