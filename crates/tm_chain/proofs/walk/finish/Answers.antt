use Rattle.std.proofs.Common.{◌∙◌, ℕ, List, refl, ap, subst, arith}
use Rattle.tm_world.specs.Outside.{disk}
use Rattle.tm_world.specs.Log.{now}
use Rattle.tm_chain.specs.Walk.{IsLast}
use Rattle.tm_chain.proofs.Walking.{last_read}
use Rattle.tm_chain.proofs.walk.finish.Goals as goal

pub returns-clause-read : goal.returns-clause-read
returns-clause-read g c told =
    let bytes : ℕ → List ℕ = (disk c.args.side (now (g.W.World.log c.args.world.now))).bytes in
    subst (λ block. IsLast c.args.walk.text.items c.of.result c.args.rest block) (c.in_ok-read.ensures.bytes told ∙ ap bytes c.last-at.ensures)
    (last_read c.args.walk.text.items c.of.result c.read.new.into c.args.rest _ c.read.array_long c.requires.short (c.if-not-ends.ensures.0 refl) (omega arith) (c.of.ensures ∙ c.in_ok-extend_from_slice.ensures.items))
