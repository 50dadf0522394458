use Rattle.std.proofs.Common.{◌≡◌, sym, ap, subst}
use Rattle.tm_world.specs.Outside.{disk}
use Rattle.tm_world.specs.Log.{now}
use Rattle.tm_world.specs.declared.world.Side.TheVariants.{Volume as OfVolume}
use Rattle.tm_changes.specs.Answers.{MeetsChange}
use Rattle.tm_volume.specs.Seen.{stored_on}
use Rattle.tm_changes.proofs.Results.{on_err}
use Rattle.tm_changes.proofs.Telling.{fine_back, fault_back, err_back, told_meets, told_runs, both_errs}
use Rattle.tm_changes.proofs.without_data.make_planned.Goals as goal

pub apply_without_data-made-requires-clause-edit : goal.apply_without_data-made-requires-clause-edit
apply_without_data-made-requires-clause-edit g c =
    c.requires.edit.edit

pub apply_without_data-made-requires-clause-no_data : goal.apply_without_data-made-requires-clause-no_data
apply_without_data-made-requires-clause-no_data g c =
    c.requires.edit.no_data

pub apply_without_data-made-requires-clause-good : goal.apply_without_data-made-requires-clause-good
apply_without_data-made-requires-clause-good g c = λ told.
    let d = disk OfVolume (now (g.W.World.log c.args.world.now)) in
    let stands = c.requires.stands told in
    let writes = c.requires.edit in
    writes.good d.bytes (record { good = stands.good; fixed = stands.fixed })

pub returns-clause-any_moment : goal.returns-clause-any_moment
returns-clause-any_moment g c told =
    let d = disk OfVolume (now (g.W.World.log c.args.world.now)) in
    let stands = c.requires.stands told in
    let writes = c.requires.edit in
    let made = c.apply_without_data-made.ensures in
    told_runs c.args.volume.now c.args.change.now c.args.moment c.args.edit writes d.bytes (record { good = stands.good; fixed = stands.fixed }) (g.W.World.blocks c.args.world.now OfVolume)
    c.apply_without_data-made.result (g.W.World.log c.args.world.now) (g.W.World.log c.apply_without_data-made.new.world) (made.fits told) (made.tried told)
    (on_err c.apply_without_data-made.result (λ h fine. ap g.W.World.log (h fine)) made.untouched) (made.any_moment told)

pub returns-clause-answer : goal.returns-clause-answer
returns-clause-answer g c told =
    let m = c.args.volume.now in
    let d = disk OfVolume (now (g.W.World.log c.args.world.now)) in
    let stands = c.requires.stands told in
    let writes = c.requires.edit in
    let made = c.apply_without_data-made.ensures in
    let blocks = g.W.World.blocks c.args.world.now OfVolume in
    let new = stored_on c.apply_without_data-made.new.volume (disk OfVolume (now (g.W.World.log c.apply_without_data-made.new.world))).bytes in
    let back = both_errs c.apply_without_data-made.result (λ s w fine. let v = s fine in let u = w fine in λ i. stored_on (v i) (disk OfVolume (now (g.W.World.log (u i)))).bytes) made.err made.untouched in
    subst (λ r. MeetsChange blocks (stored_on m d.bytes) c.args.change.now c.args.moment new r) (sym c.touching.ensures)
    (told_meets m c.args.change.now c.args.moment c.args.edit writes d.bytes (record { good = stands.good; fixed = stands.fixed }) blocks c.args.touched (c.requires.touched d.bytes) c.apply_without_data-made.result new
    (made.stored told) (made.fits told) (made.full told) back (λ side is. (made.fault side is).0))

pub returns-clause-ready : goal.returns-clause-ready
returns-clause-ready g c fine = c.apply_without_data-made.ensures.ready (fine_back c.apply_without_data-made.result c.args.touched c.touching.result c.touching.ensures fine)

pub returns-clause-stands : goal.returns-clause-stands
returns-clause-stands g c told = λ fine. c.apply_without_data-made.ensures.stands told (fine_back c.apply_without_data-made.result c.args.touched c.touching.result c.touching.ensures fine)

pub returns-clause-err : goal.returns-clause-err
returns-clause-err g c = err_back (c.apply_without_data-made.new.volume ≡ c.args.volume.now) c.apply_without_data-made.result c.args.touched c.touching.result c.touching.ensures c.apply_without_data-made.ensures.err

pub returns-clause-fault : goal.returns-clause-fault
returns-clause-fault g c side is = c.apply_without_data-made.ensures.fault side (fault_back c.apply_without_data-made.result c.args.touched c.touching.result side c.touching.ensures is)
