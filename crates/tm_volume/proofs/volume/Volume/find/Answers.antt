use Rattle.std.proofs.Common.{◌≡◌, ◌∙◌, ap, sym, subst, ℕ, List, Result, Ok, Err}
use Rattle.std.proofs.lemmas.Result.{err_from_is_err_and}
use Rattle.tm_base.specs.declared.refused.LineFault.{LineFault}
use Rattle.tm_tree.specs.declared.record.ItemRow.{ItemRow}
use Rattle.tm_tree.specs.Walks.{walk}
use Rattle.tm_volume.specs.Answers.{FindsRow}
use Rattle.tm_volume.specs.Seen.{tree_on}
use Rattle.tm_volume.proofs.Finding.{found_there, finds_row}
use Rattle.tm_volume.proofs.volume.Volume.find.Goals as goal

pub item_row-requires : goal.item_row-requires
item_row-requires c = found_there _ c.args.self.now c.self.view_is c.args.path.now c.in_ok-number.number c.in_ok-number.ensures.found

pub returns-in_err-number : goal.returns-in_err-number
returns-in_err-number c = λ bytes.
    let q = err_from_is_err_and c.from_residual.result c.from_residual.ensures.1 in
    subst (λ (r : Result ItemRow LineFault). FindsRow (walk (tree_on c.args.self.now bytes) c.args.path.now) r) (sym (q.1 ∙ ap Err q.2)) (c.in_err-number.ensures.refused bytes)

pub returns : goal.returns
returns c = finds_row _ c.args.self.now c.self.view_is c.args.path.now c.in_ok-number.number c.in_ok-item_row.field-0 c.in_ok-number.ensures.found c.in_ok-item_row.ensures
