use Rattle.std.proofs.Common.{◌++◌, ◌∙◌, ap, ℕ, List, sym, subst, Result, Err}
use Rattle.std.proofs.lemmas.Result.{err_from_is_err_and}
use Rattle.tm_volume.specs.declared.edit.Edit.{Edit}
use Rattle.tm_changes.specs.Plans.{Plans}
use Rattle.tm_base.specs.declared.refused.LineFault.{LineFault}
use Rattle.tm_tree.specs.declared.change.Change.{Change}
use Rattle.tm_tree.specs.Changes.{ids_spent, tests}
use Rattle.tm_tree.specs.Refusing.{first_refused, needs_moment}
use Rattle.tm_volume.specs.Seen.{tree_on, volume_on}
use Rattle.tm_changes.proofs.Emptying.{leaf_loose}
use Rattle.tm_changes.proofs.Results.{on_shelf_of}
use Rattle.tm_changes.proofs.Lacking.{rm_stops}
use Rattle.tm_changes.proofs.removing.plan_rm.Goals as goal

pub plan_removal-requires-clause-loose : goal.plan_removal-requires-clause-loose
plan_removal-requires-clause-loose c =
    let m = c.args.volume.now in
    let s = c.rules.ensures.shelved in
    let kind = (λ (bytes : ℕ → List ℕ). sym (c.is_folder.ensures bytes)) in
    leaf_loose m s.numbers (on_shelf_of m s) c.args.path.now c.in_ok-number.number c.in_ok-number.ensures.found (λ bytes. kind bytes ∙ c.if-is_folder.false)

pub returns-in_err-number : goal.returns-in_err-number
returns-in_err-number c =
    let m = c.args.volume.now in
    let q = err_from_is_err_and c.from_residual.result c.from_residual.ensures.1 in
    subst (λ (r : Result Edit LineFault). Plans m c.args.change.now c.args.moment r) (sym (q.1 ∙ ap Err q.2))
    (λ bytes good.
    let v = (volume_on m bytes).contents in
    ap (λ (d : Change). first_refused (tests v d c.args.moment)) c.requires
    ∙ rm_stops (tree_on m bytes) c.args.path.now (needs_moment c.args.moment ++ ids_spent v 1) c.in_err-number.field-0.0 (c.in_err-number.ensures.refused bytes))
