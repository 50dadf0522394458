use Rattle.std.proofs.Common.{◌≡◌, ◌+◌, [], subst, ◌∙◌, ap, arith}
use Rattle.tm_nodes.specs.Items.{IsItemOfSize}
use Rattle.tm_records.specs.declared.record.Body.TheVariants.{Empty}
use Rattle.tm_tree.specs.declared.record.ItemRow.{ItemRow}
use Rattle.tm_tree.specs.Trees.{last_of}
use Rattle.tm_changes.specs.Placing.{MakesPlace}
use Rattle.tm_volume.specs.Seen.{items_on, tree_on}
use Rattle.tm_changes.specs.Writes.{new_file_row}
use Rattle.tm_volume.proofs.Finding.{are_on}
use Rattle.tm_changes.proofs.Results.{on_shelf_of}
use Rattle.tm_changes.proofs.Planning.{is_there, not_root}
use Rattle.tm_volume.proofs.Rows.{number_low}
use Rattle.tm_changes.proofs.Storing.{writes_file}
use Rattle.tm_changes.proofs.files.new_file_edit.Goals as goal

pub new_row-requires-clause-path : goal.new_row-requires-clause-path
new_row-requires-clause-path c =
    let m = c.args.volume.now in
    let s = c.rules.ensures.shelved in
    not_root (items_on m (λ _. [])) (tree_on m (λ _. [])) (are_on m s.numbers (on_shelf_of m s) (λ _. [])) c.args.path.now (c.requires.none (λ _. []))

pub new_row-requires-clause-folder : goal.new_row-requires-clause-folder
new_row-requires-clause-folder c =
    let m = c.args.volume.now in
    (number_low m.image.records c.args.folder (λ bytes. is_there (items_on m bytes c.args.folder) (c.requires.into bytes).stands)).1

pub place_edit-requires-clause-number : goal.place_edit-requires-clause-number
place_edit-requires-clause-number c = (c.in-Some.ensures.some (λ _. [])).high

pub returns : goal.returns
returns c =
    let m = c.args.volume.now in
    let s = c.rules.ensures.shelved in
    let p = c.args.path.now in
    let next = c.next_number-next.ensures.is in
    let row_is : c.in_ok-row.row ≡ new_file_row c.args.folder (last_of p) c.args.moment m.tag.next c.args.size
    = c.in_ok-row.ensures.row ∙ ap (λ stamp. new_file_row c.args.folder (last_of p) c.args.moment stamp c.args.size) next in
    writes_file m s.numbers (on_shelf_of m s) c.in_ok-place_edit.field-0 p c.in-Some.number c.args.folder c.args.moment c.args.size
    (record {
      makes = subst (λ (row : ItemRow). MakesPlace m c.in_ok-place_edit.field-0 c.in-Some.number c.args.folder c.args.moment row (last_of p) Empty) row_is c.in_ok-place_edit.ensures.place;
      next_is = c.in_ok-place_edit.ensures.next ∙ ap (λ k. k + 2) next;
      rules = subst (λ (row : ItemRow). IsItemOfSize c.args.size row) row_is c.in_ok-row.ensures.rules;
      small = c.requires.size;
      below = not_root (items_on m (λ _. [])) (tree_on m (λ _. [])) (are_on m s.numbers (on_shelf_of m s) (λ _. [])) p (c.requires.none (λ _. []));
      short = c.names.ensures.short;
      low = omega arith;
      unused = c.in-Some.ensures.some;
      into = c.requires.into;
      none = c.requires.none;
      next_most = c.requires.next;
    })
    c.requires.passes

pub unreachable-requires : goal.unreachable-requires
unreachable-requires c = omega (arith, c.in_default.ensures.many, c.requires.fewer)
