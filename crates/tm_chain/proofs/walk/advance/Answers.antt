use Rattle.std.proofs.Common.{◌≡◌, ℕ, List, ap, subst, sym, refl, arith, ◌∙◌}
use Rattle.std.proofs.lemmas.Bool.{false≢true}
use Rattle.tm_world.specs.Outside.{disk}
use Rattle.tm_world.specs.Log.{now}
use Rattle.tm_chain.specs.Way.{Names}
use Rattle.tm_chain.proofs.Walking.{refused, advanced, read_on, named_part, part_long}
use Rattle.tm_chain.proofs.walk.advance.Goals as goal

pub returns-then-not-follow-clause-bad : goal.returns-then-not-follow-clause-bad
returns-then-not-follow-clause-bad g c told block is other name follows =
    let same : c.last-at.result ≡ block = cc in
    let bytes : ℕ → List ℕ = (disk c.args.side (now (g.W.World.log c.args.world.now))).bytes in
    let here : Names c.next_in-next.result (bytes block) = subst (λ b. Names c.next_in-next.result b) (c.in_ok-read.ensures.bytes told ∙ ap bytes same) c.next_in-next.ensures in
    refused c.args.walk.now.blocks.items c.args.walk.now.text.items c.args.walk.now.used (bytes block) c.next_in-next.result other c.requires.walk
    (λ free. false≢true (c.if-not-follow.ensures.was_free.1 free)) c.next_in-next.type_inv (omega (arith, follows.1, c.requires.walk.small)) here name follows

pub returns-clause-walk : goal.returns-clause-walk
returns-clause-walk g c =
    let free = c.if-not-follow.ensures.was_free.0 refl in
    advanced c.args.walk.now.blocks.items c.args.walk.now.text.items c.args.walk.now.used c.next_in-next.result c.requires.walk free.0 free.1
    _ _ _ _ c.in_ok-push.ensures.items c.in_ok-extend_from_slice.ensures.items (part_long c.read.new.into c.read.array_long) c.if-not-follow.ensures.claimed

pub returns-clause-read : goal.returns-clause-read
returns-clause-read g c told =
    let free = c.if-not-follow.ensures.was_free.0 refl in
    read_on c.args.walk.now.blocks.items c.args.walk.now.text.items c.args.walk.now.used c.next_in-next.result c.requires.walk free.0 free.1
    _ _ c.follow.new.used _ c.in_ok-push.ensures.items c.in_ok-extend_from_slice.ensures.items (part_long c.read.new.into c.read.array_long) c.if-not-follow.ensures.claimed
    (disk c.args.side (now (g.W.World.log c.args.world.now))).bytes
    (sym (c.in_ok-read.ensures.bytes told ∙ ap (disk c.args.side (now (g.W.World.log c.args.world.now))).bytes c.last-at.ensures) ∙ named_part c.next_in-next.result 4092 c.read.new.into (omega (arith, c.read.array_long)) c.next_in-next.ensures)
