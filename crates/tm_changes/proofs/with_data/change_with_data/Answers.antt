use Rattle.std.proofs.Common.{◌≡◌, ℕ, List, [], length, sym, ap, ◌∙◌, subst, Result, Err}
use Rattle.std.proofs.lemmas.Result.{err_from_is_err_and}
use Rattle.tm_base.specs.declared.refused.LineFault.{LineFault}
use Rattle.tm_base.specs.declared.refused.LineFault.TheVariants.{Fault}
use Rattle.tm_tree.specs.declared.rows.Touch.{Touch}
use Rattle.tm_world.proofs.Going.{Runs-none}
use Rattle.tm_world.specs.Outside.{disk}
use Rattle.tm_world.specs.Log.{now}
use Rattle.tm_world.specs.declared.world.Side.TheVariants.{Volume as OfVolume}
use Rattle.tm_changes.specs.Answers.{MeetsChange}
use Rattle.tm_changes.specs.Changes.{after_change}
use Rattle.tm_changes.specs.Fitting.{staged_len}
use Rattle.tm_volume.specs.Seen.{stored_on, volume_on}
use Rattle.tm_changes.specs.Writes.{WritesData}
use Rattle.tm_changes.proofs.Results.{handed_on}
use Rattle.tm_changes.proofs.Writing.{kept_of, plan_meets, plan_no_fault, read_run, read_then_run}
use Rattle.tm_changes.proofs.with_data.change_with_data.Goals as goal

pub returns-in_err-touched-clause-any_moment : goal.returns-in_err-touched-clause-any_moment
returns-in_err-touched-clause-any_moment g c told = Runs-none OfVolume _ (g.W.World.log c.args.world.now)

pub returns-in_err-edit-clause-any_moment : goal.returns-in_err-edit-clause-any_moment
returns-in_err-edit-clause-any_moment g c told = Runs-none OfVolume _ (g.W.World.log c.args.world.now)

pub returns-in_err-edit-clause-answer : goal.returns-in_err-edit-clause-answer
returns-in_err-edit-clause-answer g c told =
    let m = c.args.volume.now in
    let bytes = (disk OfVolume (now (g.W.World.log c.args.world.now))).bytes in
    let blocks = g.W.World.blocks c.args.world.now OfVolume in
    let stands = c.requires.stands told in
    let q = err_from_is_err_and c.from_residual-in_err-edit.result c.from_residual-in_err-edit.ensures.1 in
    subst (λ (r : Result (List Touch) LineFault). MeetsChange blocks (stored_on m bytes) c.args.change.now c.args.moment (stored_on m bytes) r) (sym (q.1 ∙ ap Err q.2))
    (plan_meets m blocks c.args.change.now c.args.moment (staged_len (volume_on m bytes).contents c.args.change.now) bytes c.in_err-edit.field-0.0
    (record { good = stands.good; fixed = stands.fixed }) (c.in_err-edit.ensures bytes))

pub returns-in_err-edit-clause-fault : goal.returns-in_err-edit-clause-fault
returns-in_err-edit-clause-fault g c side is =
    let m = c.args.volume.now in
    let q = err_from_is_err_and c.from_residual-in_err-edit.result c.from_residual-in_err-edit.ensures.1 in
    let same : c.in_err-edit.field-0.0 ≡ Fault side = handed_on (q.1 ∙ ap Err q.2) is in
    absurd (plan_no_fault m c.args.change.now c.args.moment (staged_len (volume_on m (λ _. [])).contents c.args.change.now) (Err c.in_err-edit.field-0.0) side (c.in_err-edit.ensures (λ _. [])) (ap Err same))

pub bring_planned-requires-clause-edit : goal.bring_planned-requires-clause-edit
bring_planned-requires-clause-edit g c =
    subst (λ (size : ℕ). WritesData c.args.volume.now c.args.change.now c.args.moment size c.in_ok-edit.edit) (sym (ap length c.as_slice.ensures ∙ c.in_ok-bytes.ensures.length (λ _. [])))
    (c.in_ok-edit.ensures (λ _. []))

pub returns-clause-any_moment : goal.returns-clause-any_moment
returns-clause-any_moment g c told =
    let m = c.args.volume.now in
    let blocks = g.W.World.blocks c.args.world.now OfVolume in
    let l0 = g.W.World.log c.args.world.now in
    let l1 = g.W.World.log c.data_of.new.world in
    let leaves = c.standing_volume_is_left.ensures m blocks (disk OfVolume (now l0)) (kept_of m c.rules.ensures.shelved) c.requires.ready (c.requires.stands told) in
    read_then_run m l0 l1 (c.in_ok-bytes.ensures.steps told) leaves blocks (g.W.World.blocks c.data_of.new.world OfVolume) c.args.change.now c.args.moment (g.W.World.log c.bring_planned.new.world)
    (ap (λ blocks_of. blocks_of OfVolume) c.in_ok-bytes.ensures.blocks) (c.bring_planned.ensures.any_moment told)

pub returns-in_err-bytes-clause-any_moment : goal.returns-in_err-bytes-clause-any_moment
returns-in_err-bytes-clause-any_moment g c told =
    let m = c.args.volume.now in
    let blocks = g.W.World.blocks c.args.world.now OfVolume in
    let l0 = g.W.World.log c.args.world.now in
    let l1 = g.W.World.log c.data_of.new.world in
    let leaves = c.standing_volume_is_left.ensures m blocks (disk OfVolume (now l0)) (kept_of m c.rules.ensures.shelved) c.requires.ready (c.requires.stands told) in
    read_run m l0 l1 (c.in_err-bytes.ensures.steps told) leaves (after_change blocks (stored_on m (disk OfVolume (now l0)).bytes) c.args.change.now c.args.moment)
