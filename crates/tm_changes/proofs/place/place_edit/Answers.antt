use Rattle.std.proofs.Common.{[], ◌∷◌, Some, refl, sym, ◌∙◌, ap, subst}
use Rattle.tm_nodes.specs.Items.{item_text, IsItemRow}
use Rattle.tm_records.specs.declared.record.Body.TheVariants.{Empty, Kept}
use Rattle.tm_tree.specs.declared.record.ItemRow.{ItemRow}
use Rattle.tm_volume_records.specs.Records.{item_key}
use Rattle.tm_volume.proofs.Rows.{key_there}
use Rattle.tm_changes.proofs.Destinations.{row_stands, dated_is_row}
use Rattle.tm_changes.proofs.place.place_edit.Goals as goal

pub overflow_add-second : goal.overflow_add-second
overflow_add-second c =
    let there = c.requires.folder in
    key_there c.args.volume.now.image.records c.args.folder there

pub meta_of-requires-2 : goal.meta_of-requires-2
meta_of-requires-2 c =
    let there = c.requires.folder in
    let row_at = row_stands c.args.volume.now.image.records c.rules.ensures.shelved.image.rising c.args.folder there c.in_ok-item_row.field-0 c.in_ok-item_row.ensures in
    subst (λ (r : ItemRow). IsItemRow r) (sym c.dated-above.ensures.row) (dated_is_row c.args.volume.now.image.records c.args.folder c.in_ok-item_row.field-0 c.args.moment row_at c.dated-above.ensures.low)

pub returns-clause-place : goal.returns-clause-place
returns-clause-place c =
    let there = c.requires.folder in
    let row_at = row_stands c.args.volume.now.image.records c.rules.ensures.shelved.image.rising c.args.folder there c.in_ok-item_row.field-0 c.in_ok-item_row.ensures in
    let one = c.in_ok-meta_of.ensures in
    let two = c.in_ok-meta_of-2.ensures ∙ ap item_text c.dated-above.ensures.row in
    record {
      folder = c.in_ok-item_row.field-0;
      row_at = row_at;
      placing = record {
        remove = c.in_ok-vec.ensures.items;
        put = c.in_ok-vec-2.ensures.items ∙ (λ i. record { key = item_key c.args.number; meta = one i; body = Empty } ∷ record { key = item_key c.args.folder; meta = two i; body = Kept } ∷ []);
        enter = ap (λ n. Some (record { parent = c.args.folder; name = n; number = c.args.number })) c.in_ok-last_name.ensures;
        leave = refl;
        fixed = refl;
      };
    }
