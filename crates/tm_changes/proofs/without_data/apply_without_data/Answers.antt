use Rattle.std.proofs.Common.{sym, ◌∙◌}
use Rattle.tm_world.specs.Outside.{disk}
use Rattle.tm_world.specs.Log.{now}
use Rattle.tm_world.specs.declared.world.Side.TheVariants.{Volume as OfVolume}
use Rattle.tm_changes.specs.Plans.{IsGood}
use Rattle.tm_changes.proofs.Backing.{back_exact}
use Rattle.tm_changes.proofs.Exacting.{none_by, no_data_fits, no_data_full}
use Rattle.tm_changes.proofs.Results.{on_ok, on_err}
use Rattle.tm_changes.proofs.without_data.apply_without_data.Goals as goal

pub apply-made-requires-clause-staged : goal.apply-made-requires-clause-staged
apply-made-requires-clause-staged g c = λ b. c.requires.ready.unstaged b ∙ sym (none_by c.args.edit.put.items c.requires.no_data b)

pub returns-clause-err : goal.returns-clause-err
returns-clause-err g c = on_err c.apply-made.result
    (λ back fine. back_exact c.args.volume.now c.apply-made.new.self c.rules.ensures.shelved.image c.rules-2.ensures.shelved.image (back fine) c.requires.ready.unstaged (c.apply-made.ensures.ready fine).unstaged)
    c.apply-made.ensures.err

pub returns-clause-full : goal.returns-clause-full
returns-clause-full g c told =
    let m = c.args.volume.now in
    let blocks = g.W.World.blocks c.args.world.now OfVolume in
    let d = disk OfVolume (now (g.W.World.log c.args.world.now)) in
    let stands = c.requires.stands told in
    let good : IsGood m d.bytes = record { good = stands.good; fixed = stands.fixed } in
    λ why is. no_data_full m c.rules.ensures.shelved c.args.edit c.requires.edit c.requires.no_data d.bytes good (c.requires.good told) blocks c.requires.ready (c.rules.ensures.room blocks c.requires.ready) why (c.apply-made.ensures.full why is)

pub returns-clause-fits : goal.returns-clause-fits
returns-clause-fits g c told =
    let m = c.args.volume.now in
    let blocks = g.W.World.blocks c.args.world.now OfVolume in
    let d = disk OfVolume (now (g.W.World.log c.args.world.now)) in
    let stands = c.requires.stands told in
    let good : IsGood m d.bytes = record { good = stands.good; fixed = stands.fixed } in
    on_ok c.apply-made.result (no_data_fits m c.rules.ensures.shelved c.args.edit c.requires.edit c.requires.no_data d.bytes good (c.requires.good told) blocks c.requires.ready (c.rules.ensures.room blocks c.requires.ready)) c.apply-made.ensures.fits

pub returns-clause-tried : goal.returns-clause-tried
returns-clause-tried g c told =
    let m = c.args.volume.now in
    let blocks = g.W.World.blocks c.args.world.now OfVolume in
    let d = disk OfVolume (now (g.W.World.log c.args.world.now)) in
    let stands = c.requires.stands told in
    let good : IsGood m d.bytes = record { good = stands.good; fixed = stands.fixed } in
    λ side is. no_data_fits m c.rules.ensures.shelved c.args.edit c.requires.edit c.requires.no_data d.bytes good (c.requires.good told) blocks c.requires.ready (c.rules.ensures.room blocks c.requires.ready) (c.apply-made.ensures.tried side is)
