use Rattle.std.proofs.Common.{◌≡◌, ◌+◌, [], ◌∷◌, None, refl, sym, subst, ◌∙◌, ap, arith}
use Rattle.tm_nodes.specs.Items.{IsItemRow, item_text}
use Rattle.tm_records.specs.declared.record.Body.TheVariants.{Empty}
use Rattle.tm_tree.specs.declared.record.ItemRow.{ItemRow}
use Rattle.tm_volume.specs.declared.edit.Edit.{Edit}
use Rattle.tm_changes.specs.Writes.{redone_row}
use Rattle.tm_volume_records.specs.Records.{item_key}
use Rattle.tm_changes.proofs.ItemRecords.{row_rules}
use Rattle.tm_volume.proofs.Rows.{key_there}
use Rattle.tm_changes.proofs.Written.{file_row_at, file_there, redone_is, rewritten}
use Rattle.tm_changes.proofs.files.rewrite_edit.Goals as goal

pub overflow_add-put : goal.overflow_add-put
overflow_add-put c = key_there c.args.volume.now.image.records c.args.number (file_there c.args.volume.now c.args.path.now c.args.number c.args.row c.requires.file)

pub meta_of-requires : goal.meta_of-requires
meta_of-requires c =
    let m = c.args.volume.now in
    let row = c.args.row in
    let next = c.next_number-next.ensures.is in
    let row_at = file_row_at m c.rules.ensures.shelved c.args.path.now c.args.number row c.requires.file in
    subst (λ (r : ItemRow). IsItemRow r) (sym c.redone-new.ensures.row)
    (redone_is row.parent row.name row.body row_at.rec.length c.args.moment c.next_number-next.result c.args.size c.requires.is_file (row_rules m.image.records c.args.number row row_at) c.redone-new.ensures.low (omega (arith, next, c.requires.next))).rules

pub returns : goal.returns
returns c =
    let m = c.args.volume.now in
    let next = c.next_number-next.ensures.is in
    let e : Edit = record { remove = c.in_ok-vec.field-0; put = c.in_ok-vec-2.field-0; enter = None; leave = None; fixed = None; next = c.next_number-next.result + 2 } in
    let meta : c.in_ok-meta_of.field-0 ≡ item_text (redone_row c.args.row c.args.moment m.tag.next c.args.size)
    = c.in_ok-meta_of.ensures ∙ ap item_text (c.redone-new.ensures.row ∙ ap (λ stamp. redone_row c.args.row c.args.moment stamp c.args.size) next) in
    rewritten m c.rules.ensures.shelved e c.args.path.now c.args.number c.args.moment c.args.size c.args.row c.requires.is_file (record {
      file = c.requires.file;
      put = c.in_ok-vec-2.ensures.items ∙ (λ i. record { key = item_key c.args.number; meta = meta i; body = Empty } ∷ []);
      remove = c.in_ok-vec.ensures.items;
      enter = refl;
      leave = refl;
      fixed = refl;
      next_is = ap (λ k. k + 2) next;
      small = c.requires.size;
      low = c.redone-new.ensures.low;
      next_most = c.requires.next;
      passes = c.requires.passes;
    })
