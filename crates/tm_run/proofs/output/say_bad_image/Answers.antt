use Rattle.std.proofs.Common.{List, ℕ, subst, ◌∙◌}
use Rattle.tm_world.specs.Log.{now, Passes}
use Rattle.tm_run.specs.Ends.{SaysAll, SaysPrefix, Speaks}
use Rattle.tm_run.proofs.SayLemmas.{bad_image_is}
use Rattle.tm_run.proofs.output.say_bad_image.Goals as goal

pub returns-in-Ok-clause-said : goal.returns-in-Ok-clause-said
returns-in-Ok-clause-said g c told is =
    subst (λ (t : List ℕ). SaysAll t (now (g.W.World.log c.args.world.now)) (now (g.W.World.log c.say_last.new.world)))
    (bad_image_is c.args.side c.args.cause c.args.place _ _ _ c.side_word-which.ensures c.cause_word-why.ensures (c.as_str.ensures.value ∙ c.in-Ok.ensures.ok)) (c.say_last.ensures.said told (λ fault. cc))

pub returns-in-Ok-clause-cut : goal.returns-in-Ok-clause-cut
returns-in-Ok-clause-cut g c told =
    subst (λ (t : List ℕ). SaysPrefix t (now (g.W.World.log c.args.world.now)) (now (g.W.World.log c.say_last.new.world)))
    (bad_image_is c.args.side c.args.cause c.args.place _ _ _ c.side_word-which.ensures c.cause_word-why.ensures (c.as_str.ensures.value ∙ c.in-Ok.ensures.ok)) (c.say_last.ensures.cut told)

pub returns-in-Ok-clause-any_moment : goal.returns-in-Ok-clause-any_moment
returns-in-Ok-clause-any_moment g c told =
    let old = g.W.World.log c.args.world.now in
    subst (λ (t : List ℕ). Passes old (g.W.World.log c.say_last.new.world) (Speaks t (now old)))
    (bad_image_is c.args.side c.args.cause c.args.place _ _ _ c.side_word-which.ensures c.cause_word-why.ensures (c.as_str.ensures.value ∙ c.in-Ok.ensures.ok)) (c.say_last.ensures.any_moment told)
