use Rattle.std.proofs.Common.{◌≡◌, ap, refl, sym, subst, ◌∙◌}
use Rattle.tm_world.specs.Log.{now}
use Rattle.tm_world.specs.Outside.{Outside, attached}
use Rattle.tm_world.specs.Torn.{as_read}
use Rattle.tm_world.specs.declared.world.Part.TheVariants as part
use Rattle.tm_world.proofs.Going.{Passes-then}
use Rattle.tm_run.specs.Moments.{IsFinding}
use Rattle.tm_run.specs.Pairs.{IsPair, found}
use Rattle.tm_run.proofs.FindingLemmas.{both_attached, finding_now, finding_same, finding_steps, finding_then, store_found, volume_found}
use Rattle.tm_run.proofs.PairLemmas.{pair_attached, said_attached, said_volume}
use Rattle.tm_run.proofs.pair.attach_pair.Goals as goal

pub returns-in-Err-attach-clause-said : goal.returns-in-Err-attach-clause-said
returns-in-Err-attach-clause-said g c told =
    ap (λ (s : Outside). s.said) (c.in-Err-attach.ensures.err told).ends
    ∙ ap (λ (s : Outside). s.said) (c.in-Ok.ensures.ok told).ends ∙ said_volume c.args.command.volume.now c.args.command.create (now (g.W.World.log c.args.world.now))

pub returns-clause-pair : goal.returns-clause-pair
returns-clause-pair g c told =
    let old = now (g.W.World.log c.args.world.now) in
    let command = c.args.command in
    let ends : now (g.W.World.log c.attach-2.new.self) ≡ attached part.Store command.store.now command.create (attached part.Volume command.volume.now command.create old) =
    (c.in-Ok-attach.ensures.ok told).ends ∙ ap (attached part.Store command.store.now command.create) (c.in-Ok.ensures.ok told).ends in
    subst (λ (o : Outside). IsPair (as_read (found command.volume.now command.create old)) (as_read (found command.store.now command.create old)) o) (sym ends)
    (pair_attached command.volume.now command.store.now command.create old c.requires.differ)

pub returns-clause-said : goal.returns-clause-said
returns-clause-said g c told =
    let old = now (g.W.World.log c.args.world.now) in
    let command = c.args.command in
    let ends : now (g.W.World.log c.attach-2.new.self) ≡ attached part.Store command.store.now command.create (attached part.Volume command.volume.now command.create old) =
    (c.in-Ok-attach.ensures.ok told).ends ∙ ap (attached part.Store command.store.now command.create) (c.in-Ok.ensures.ok told).ends in
    ap (λ (o : Outside). o.said) ends ∙ said_attached command.volume.now command.store.now command.create old

pub returns-clause-attached : goal.returns-clause-attached
returns-clause-attached g c told =
    let old = now (g.W.World.log c.args.world.now) in
    let command = c.args.command in
    both_attached command.volume.now command.store.now c.requires.differ command.create old (now (g.W.World.log c.attach-2.new.self))
    ((c.in-Ok-attach.ensures.ok told).ends ∙ ap (attached part.Store command.store.now command.create) (c.in-Ok.ensures.ok told).ends)

pub returns-in-Err-clause-any_moment : goal.returns-in-Err-clause-any_moment
returns-in-Err-clause-any_moment g c told =
    let old = g.W.World.log c.args.world.now in
    let p = c.args.command.volume.now in
    let q = c.args.command.store.now in
    let create = c.args.command.create in
    finding_steps p q create (now old) old (g.W.World.log c.attach.new.self) (now old) (c.in-Err.ensures.err told) (finding_same p q create (now old) (now old) refl refl)

pub returns-in-Err-attach-clause-any_moment : goal.returns-in-Err-attach-clause-any_moment
returns-in-Err-attach-clause-any_moment g c told =
    let old = g.W.World.log c.args.world.now in
    let mid = g.W.World.log c.attach.new.self in
    let new = g.W.World.log c.attach-2.new.self in
    let p = c.args.command.volume.now in
    let q = c.args.command.store.now in
    let create = c.args.command.create in
    let first = finding_steps p q create (now old) old mid _ (c.in-Ok.ensures.ok told) (volume_found p q c.requires.differ create (now old)) in
    Passes-then old mid new (IsFinding p q create (now old)) first
    (finding_steps p q create (now old) mid new (now mid) (c.in-Err-attach.ensures.err told) (finding_now p q create old mid first))

pub returns-clause-any_moment : goal.returns-clause-any_moment
returns-clause-any_moment g c told =
    let old = g.W.World.log c.args.world.now in
    let mid = g.W.World.log c.attach.new.self in
    let new = g.W.World.log c.attach-2.new.self in
    let p = c.args.command.volume.now in
    let q = c.args.command.store.now in
    let create = c.args.command.create in
    let first = finding_steps p q create (now old) old mid _ (c.in-Ok.ensures.ok told) (volume_found p q c.requires.differ create (now old)) in
    Passes-then old mid new (IsFinding p q create (now old)) first
    (finding_steps p q create (now old) mid new _ (c.in-Ok-attach.ensures.ok told)
    (finding_then p q create (now old) (now mid) (attached part.Store q create (now mid)) (finding_now p q create old mid first) (store_found p q c.requires.differ create (now mid))))
