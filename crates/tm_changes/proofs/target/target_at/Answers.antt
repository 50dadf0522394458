use Rattle.std.proofs.Common.{refl, sym, subst}
use Rattle.tm_changes.specs.declared.target.Target.{Target}
use Rattle.tm_volume.specs.Seen.{items_on, tree_on}
use Rattle.tm_changes.specs.Targets.{MeetsTarget}
use Rattle.tm_volume.proofs.Finding.{are_on, found_there, row_found}
use Rattle.tm_changes.proofs.Results.{on_shelf_of}
use Rattle.tm_changes.proofs.Targeting.{target_is, target_none}
use Rattle.tm_changes.proofs.target.target_at.Goals as goal

pub item_row-requires : goal.item_row-requires
item_row-requires c = found_there _ c.args.volume.now refl c.args.path.now c.in-Ok.number c.in-Ok.ensures.found

pub returns-in_ok-item_row-in-Ok : goal.returns-in_ok-item_row-in-Ok
returns-in_ok-item_row-in-Ok c = λ bytes.
    let m = c.args.volume.now in
    let row = c.in_ok-item_row-in-Ok.field-0 in
    subst (λ (t : Target). MeetsTarget (items_on m bytes) (tree_on m bytes) c.args.path.now t) (sym c.target_of.ensures)
    (target_is (items_on m bytes) (tree_on m bytes) c.args.path.now c.in-Ok.number row (c.in-Ok.ensures.found bytes)
    (row_found _ m refl c.args.path.now c.in-Ok.number row c.in-Ok.ensures.found c.in_ok-item_row-in-Ok.ensures bytes))

pub returns-in-Err : goal.returns-in-Err
returns-in-Err c = λ bytes.
    let m = c.args.volume.now in
    target_none (items_on m bytes) (tree_on m bytes) c.args.path.now
    (are_on m c.rules.ensures.shelved.numbers (on_shelf_of m c.rules.ensures.shelved) bytes) c.in-Err.field-0 (c.in-Err.ensures.refused bytes)
