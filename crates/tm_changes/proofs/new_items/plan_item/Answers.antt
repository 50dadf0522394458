use Rattle.std.proofs.Common.{◌≡◌, true, false, is_some, [], sym, ap, ◌∙◌, subst, Result, Err, arith}
use Rattle.std.proofs.lemmas.Result.{err_from_is_err_and}
use Rattle.tm_base.specs.declared.refused.LineFault.{LineFault}
use Rattle.tm_changes.specs.Creations.{FindsCreation}
use Rattle.tm_changes.specs.declared.creation.Creation.{Creation}
use Rattle.tm_volume.specs.Seen.{items_on, tree_on, volume_on}
use Rattle.tm_volume.proofs.Finding.{are_on}
use Rattle.tm_changes.proofs.Results.{on_shelf_of}
use Rattle.tm_changes.proofs.Planning.{is_there, not_root, numbers_refuse, creation_ready, folder_refused}
use Rattle.tm_volume.proofs.Rows.{number_low}
use Rattle.tm_changes.proofs.new_items.plan_item.Goals as goal

pub returns-in_err-folder-clause-finds : goal.returns-in_err-folder-clause-finds
returns-in_err-folder-clause-finds c =
    let q = err_from_is_err_and c.from_residual.result c.from_residual.ensures.1 in
    subst (λ (r : Result Creation LineFault). FindsCreation c.args.volume.now c.args.path.now c.args.item c.args.moment r) (sym (q.1 ∙ ap Err q.2))
    (folder_refused c.args.volume.now c.args.path.now c.args.item c.args.moment c.in_err-folder.field-0.0 c.in_err-folder.ensures.finds)

pub returns-in_default-clause-finds : goal.returns-in_default-clause-finds
returns-in_default-clause-finds c = λ bytes good.
    numbers_refuse (volume_on c.args.volume.now bytes).contents c.args.path.now c.args.moment c.args.item ((c.in_ok-folder.ensures.finds bytes).3 good) c.in_default.ensures.none

pub creation_of-requires-clause-path : goal.creation_of-requires-clause-path
creation_of-requires-clause-path c =
    let m = c.args.volume.now in
    let s = c.rules.ensures.shelved in
    not_root (items_on m (λ _. [])) (tree_on m (λ _. [])) (are_on m s.numbers (on_shelf_of m s) (λ _. [])) c.args.path.now (c.in_ok-folder.ensures.finds (λ _. [])).1

pub creation_of-requires-clause-folder : goal.creation_of-requires-clause-folder
creation_of-requires-clause-folder c =
    let m = c.args.volume.now in
    (number_low m.image.records c.in_ok-folder.folder (λ bytes. is_there (items_on m bytes c.in_ok-folder.folder) (c.in_ok-folder.ensures.finds bytes).0.stands)).1

pub returns-clause-finds : goal.returns-clause-finds
returns-clause-finds c =
    let m = c.args.volume.now in
    let s = c.rules.ensures.shelved in
    let below = not_root (items_on m (λ _. [])) (tree_on m (λ _. [])) (are_on m s.numbers (on_shelf_of m s) (λ _. [])) c.args.path.now (c.in_ok-folder.ensures.finds (λ _. [])).1 in
    let next = c.in-Some.ensures.some in
    creation_ready m c.args.path.now c.args.item c.args.moment c.in_ok-folder.folder c.in-Some-moment.date _ c.in_ok-creation_of.field-0 c.in_ok-creation_of.ensures.plan c.in_ok-creation_of.ensures.row
    (omega (arith, next.0)) (omega (arith, next.0, next.1)) c.in-Some-moment.is below c.in_ok-folder.ensures.finds

pub unreachable-requires : goal.unreachable-requires
unreachable-requires c = let bad : false ≡ true = sym (ap is_some c.in_default-moment.is) ∙ (c.in_ok-folder.ensures.finds (λ _. [])).2 in cc
