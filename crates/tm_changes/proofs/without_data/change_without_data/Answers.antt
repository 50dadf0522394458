use Rattle.std.proofs.Common.{List, sym, ap, ◌∙◌, subst, Result, Err}
use Rattle.std.proofs.lemmas.Result.{err_from_is_err_and}
use Rattle.tm_base.specs.declared.refused.LineFault.{LineFault}
use Rattle.tm_tree.specs.declared.rows.Touch.{Touch}
use Rattle.tm_world.proofs.Going.{Runs-none}
use Rattle.tm_world.specs.Outside.{disk}
use Rattle.tm_world.specs.Log.{now}
use Rattle.tm_world.specs.declared.world.Side.TheVariants.{Volume as OfVolume}
use Rattle.tm_changes.specs.Answers.{MeetsChange}
use Rattle.tm_volume.specs.Seen.{stored_on}
use Rattle.tm_changes.proofs.Telling.{planned_refused}
use Rattle.tm_changes.proofs.without_data.change_without_data.Goals as goal

pub returns-in_err-touched-clause-any_moment : goal.returns-in_err-touched-clause-any_moment
returns-in_err-touched-clause-any_moment g c told = Runs-none OfVolume _ (g.W.World.log c.args.world.now)

pub returns-in_err-edit-clause-any_moment : goal.returns-in_err-edit-clause-any_moment
returns-in_err-edit-clause-any_moment g c told = Runs-none OfVolume _ (g.W.World.log c.args.world.now)

pub returns-in_err-edit-clause-answer : goal.returns-in_err-edit-clause-answer
returns-in_err-edit-clause-answer g c told =
    let m = c.args.volume.now in
    let bytes = (disk OfVolume (now (g.W.World.log c.args.world.now))).bytes in
    let blocks = g.W.World.blocks c.args.world.now OfVolume in
    let stands = c.requires.stands told in
    let q = err_from_is_err_and c.from_residual-in_err-edit.result c.from_residual-in_err-edit.ensures.1 in
    subst (λ (r : Result (List Touch) LineFault). MeetsChange blocks (stored_on m bytes) c.args.change.now c.args.moment (stored_on m bytes) r) (sym (q.1 ∙ ap Err q.2))
    (planned_refused m c.args.change.now c.args.moment c.in_err-edit.field-0.0 c.in_err-edit.ensures bytes (record { good = stands.good; fixed = stands.fixed }) blocks)
