use Rattle.std.proofs.Common.{◌≡◌, ◌≢◌, length, sym, ◌∙◌, ap, subst, Result, Err}
use Rattle.tm_base.specs.declared.refused.LineFault.{LineFault}
use Rattle.tm_base.specs.declared.refused.LineFault.TheVariants.{Fault}
use Rattle.tm_base.specs.declared.refused.Side.{Side as RefusedSide}
use Rattle.tm_chain.specs.Blob.{blob_len}
use Rattle.tm_world.specs.Outside.{disk}
use Rattle.tm_world.specs.Log.{now}
use Rattle.tm_world.specs.declared.bytes.Blob.{Blob}
use Rattle.tm_world.specs.declared.world.Side.TheVariants.{Volume as OfVolume}
use Rattle.tm_changes.specs.Answers.{MeetsChange}
use Rattle.tm_changes.specs.Changes.{after_change}
use Rattle.tm_volume.specs.Seen.{stored_on}
use Rattle.tm_changes.specs.Writes.{IsBlobOf}
use Rattle.tm_changes.proofs.Backing.{back_exact}
use Rattle.tm_changes.proofs.Bringing.{back_twice, brings_by, stored_there}
use Rattle.tm_changes.proofs.Results.{on_err}
use Rattle.tm_changes.proofs.Telling.{fine_back, err_back, both_errs}
use Rattle.tm_changes.proofs.Writing.{bring_meets, bring_run, can_bring, can_good, old_is, stage_meets, staging_run}
use Rattle.tm_changes.proofs.with_data.bring_planned.Goals as goal

pub apply-made-requires-clause-edit : goal.apply-made-requires-clause-edit
apply-made-requires-clause-edit g c =
    let m = c.args.volume.now in
    let n = c.stage.new.self in
    let w = c.requires.edit in
    let blob = c.in-Ok.blob in
    let of : IsBlobOf blob (length c.args.contents.now) = record { size_is = c.in-Ok.ensures.length; many = c.in-Ok.ensures.many ∙ ap blob_len c.in-Ok.ensures.length } in
    can_bring m n c.args.change.now c.args.moment (length c.args.contents.now) c.args.edit c.bring.result blob w c.in-Ok.ensures.back of c.bring.ensures

pub apply-made-requires-clause-staged : goal.apply-made-requires-clause-staged
apply-made-requires-clause-staged g c = λ b.
    let w = c.requires.edit in
    c.in-Ok.ensures.staged b ∙ sym (brings_by c.args.edit c.bring.result c.in-Ok.blob c.bring.ensures w.first w.rest w.put w.no_data b)

pub apply-made-requires-clause-good : goal.apply-made-requires-clause-good
apply-made-requires-clause-good g c = λ told.
    let m = c.args.volume.now in
    let n = c.stage.new.self in
    let w = c.requires.edit in
    let blob = c.in-Ok.blob in
    let of : IsBlobOf blob (length c.args.contents.now) = record { size_is = c.in-Ok.ensures.length; many = c.in-Ok.ensures.many ∙ ap blob_len c.in-Ok.ensures.length } in
    let s = c.rules.ensures.shelved in
    let blocks = g.W.World.blocks c.args.world.now OfVolume in
    let room = c.rules.ensures.room blocks c.requires.ready in
    let d0 = disk OfVolume (now (g.W.World.log c.args.world.now)) in
    let d1 = disk OfVolume (now (g.W.World.log c.stage.new.world)) in
    let holds = c.in-Ok.ensures.holds told ∙ c.requires.contents told in
    can_good m s blocks room c.args.change.now c.args.moment (length c.args.contents.now) c.args.edit w d0 (c.requires.stands told) n c.in-Ok.ensures.back d1 (c.in-Ok.ensures.data told) (c.in-Ok.ensures.stands told)
    blob of holds c.in-Ok.ensures.free c.in-Ok.ensures.fits c.bring.result c.bring.ensures

pub returns-in-Ok-clause-any_moment : goal.returns-in-Ok-clause-any_moment
returns-in-Ok-clause-any_moment g c told =
    let m = c.args.volume.now in
    let n = c.stage.new.self in
    let w = c.requires.edit in
    let blob = c.in-Ok.blob in
    let of : IsBlobOf blob (length c.args.contents.now) = record { size_is = c.in-Ok.ensures.length; many = c.in-Ok.ensures.many ∙ ap blob_len c.in-Ok.ensures.length } in
    let s = c.rules.ensures.shelved in
    let blocks = g.W.World.blocks c.args.world.now OfVolume in
    let room = c.rules.ensures.room blocks c.requires.ready in
    let d0 = disk OfVolume (now (g.W.World.log c.args.world.now)) in
    let d1 = disk OfVolume (now (g.W.World.log c.stage.new.world)) in
    let holds = c.in-Ok.ensures.holds told ∙ c.requires.contents told in
    let made = c.apply-made.ensures in
    bring_run m s blocks room c.args.change.now c.args.moment (length c.args.contents.now) c.args.edit w d0 (c.requires.stands told) n c.in-Ok.ensures.back d1 (c.in-Ok.ensures.data told) (c.in-Ok.ensures.stands told)
    blob of holds c.in-Ok.ensures.free c.in-Ok.ensures.fits c.bring.result c.bring.ensures
    c.apply-made.result (g.W.World.log c.args.world.now) (g.W.World.log c.stage.new.world) (g.W.World.log c.apply-made.new.world) (c.in-Ok.ensures.any_moment told) (made.any_moment told)
    made.fits made.tried (on_err c.apply-made.result (λ h fine. ap g.W.World.log (h fine)) made.untouched)

pub returns-in-Ok-clause-answer : goal.returns-in-Ok-clause-answer
returns-in-Ok-clause-answer g c told =
    let m = c.args.volume.now in
    let n = c.stage.new.self in
    let w = c.requires.edit in
    let blob = c.in-Ok.blob in
    let of : IsBlobOf blob (length c.args.contents.now) = record { size_is = c.in-Ok.ensures.length; many = c.in-Ok.ensures.many ∙ ap blob_len c.in-Ok.ensures.length } in
    let s = c.rules.ensures.shelved in
    let blocks = g.W.World.blocks c.args.world.now OfVolume in
    let room = c.rules.ensures.room blocks c.requires.ready in
    let d0 = disk OfVolume (now (g.W.World.log c.args.world.now)) in
    let d1 = disk OfVolume (now (g.W.World.log c.stage.new.world)) in
    let holds = c.in-Ok.ensures.holds told ∙ c.requires.contents told in
    let made = c.apply-made.ensures in
    let new = stored_on c.apply-made.new.self (disk OfVolume (now (g.W.World.log c.apply-made.new.world))).bytes in
    let old = old_is m s blocks room c.args.change.now c.args.moment (length c.args.contents.now) c.args.edit w d0 (c.requires.stands told) n c.in-Ok.ensures.back d1 (c.in-Ok.ensures.data told) (c.in-Ok.ensures.stands told)
    blob of holds c.in-Ok.ensures.free c.in-Ok.ensures.fits c.bring.result c.bring.ensures in
    let back = both_errs c.apply-made.result
    (λ b u fine. let v = u fine in (λ i. stored_on c.apply-made.new.self (disk OfVolume (now (g.W.World.log (v i)))).bytes) ∙ stored_there n c.apply-made.new.self (b fine) d1.bytes ∙ old) made.err made.untouched in
    subst (λ r. MeetsChange blocks (stored_on m d0.bytes) c.args.change.now c.args.moment new r) (sym c.touching.ensures)
    (bring_meets m s blocks room c.args.change.now c.args.moment (length c.args.contents.now) c.args.edit w d0 (c.requires.stands told) n c.in-Ok.ensures.back d1 (c.in-Ok.ensures.data told) (c.in-Ok.ensures.stands told)
    blob of holds c.in-Ok.ensures.free c.in-Ok.ensures.fits c.bring.result c.bring.ensures
    c.args.touched c.apply-made.result new (c.requires.touched d0.bytes) (made.stored told) made.fits made.full (λ side is. (made.fault side is).0) back)

pub returns-in-Ok-clause-stands : goal.returns-in-Ok-clause-stands
returns-in-Ok-clause-stands g c told = λ fine. c.apply-made.ensures.stands told (fine_back c.apply-made.result c.args.touched c.touching.result c.touching.ensures fine)

pub returns-in-Ok-clause-err : goal.returns-in-Ok-clause-err
returns-in-Ok-clause-err g c =
    let m = c.args.volume.now in
    let end = c.apply-made.new.self in
    err_back (end ≡ m) c.apply-made.result c.args.touched c.touching.result c.touching.ensures (on_err c.apply-made.result
    (λ back fine. back_exact m end c.rules.ensures.shelved.image c.rules-in-Ok.ensures.shelved.image (back_twice m c.stage.new.self end c.in-Ok.ensures.back (back fine)) c.requires.ready.unstaged (c.apply-made.ensures.ready fine).unstaged)
    c.apply-made.ensures.err)

pub returns-in-Err-clause-any_moment : goal.returns-in-Err-clause-any_moment
returns-in-Err-clause-any_moment g c told =
    let old = stored_on c.args.volume.now (disk OfVolume (now (g.W.World.log c.args.world.now))).bytes in
    staging_run old (after_change (g.W.World.blocks c.args.world.now OfVolume) old c.args.change.now c.args.moment) (g.W.World.log c.args.world.now) (g.W.World.log c.stage.new.world) (c.in-Err.ensures.any_moment told)

pub returns-in-Err-clause-answer : goal.returns-in-Err-clause-answer
returns-in-Err-clause-answer g c told =
    let m = c.args.volume.now in
    let blocks = g.W.World.blocks c.args.world.now OfVolume in
    let d0 = disk OfVolume (now (g.W.World.log c.args.world.now)) in
    stage_meets m c.rules.ensures.shelved blocks (c.rules.ensures.room blocks c.requires.ready) c.args.change.now c.args.moment (length c.args.contents.now) c.args.edit c.requires.edit d0 (c.requires.stands told)
    (stored_on c.stage.new.self (disk OfVolume (now (g.W.World.log c.stage.new.world))).bytes) c.in-Err.fault
    (λ x is. c.in-Err.ensures.full x (ap Err is)) (λ side is. (c.in-Err.ensures.fault side (ap Err is)).0)
    (λ fine.
    let still : (side : RefusedSide) → ◌≢◌ {A = Result Blob LineFault} (Err c.in-Err.fault) (Err (Fault side)) = λ side bad. fine side (same_fault c.in-Err.fault (Fault side) bad) in
    let v = c.in-Err.ensures.err still in
    let u = c.in-Err.ensures.untouched still in
    λ i. stored_on (v i) (disk OfVolume (now (g.W.World.log (u i)))).bytes)
  where
    same_fault : (a b : LineFault) → ◌≡◌ {A = Result Blob LineFault} (Err a) (Err b) → a ≡ b
    same_fault a b is = cc
