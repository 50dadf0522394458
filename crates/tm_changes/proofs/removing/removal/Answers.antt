use Rattle.std.proofs.Common.{[], ◌∷◌, Some, refl, sym, ◌∙◌, ap, subst}
use Rattle.tm_nodes.specs.Items.{item_text, IsItemRow}
use Rattle.tm_records.specs.declared.record.Body.TheVariants.{Kept}
use Rattle.tm_tree.specs.declared.record.ItemRow.{ItemRow}
use Rattle.tm_volume_records.specs.Records.{item_key}
use Rattle.tm_changes.proofs.Results.{on_shelf_of}
use Rattle.tm_changes.proofs.StandingItems.{there, row_here, folder_here}
use Rattle.tm_volume.proofs.Rows.{key_there}
use Rattle.tm_changes.proofs.Destinations.{row_stands, dated_is_row}
use Rattle.tm_changes.proofs.removing.removal.Goals as goal

pub item_row-requires : goal.item_row-requires
item_row-requires c =
    let m = c.args.volume.now in
    let s = c.rules.ensures.shelved in
    (there m s.numbers (on_shelf_of m s) c.args.path.now c.args.number c.requires.found)

pub item_row-requires-2 : goal.item_row-requires-2
item_row-requires-2 c =
    let m = c.args.volume.now in
    let s = c.rules.ensures.shelved in
    let old = c.in_ok-folder.field-0 in
    (folder_here m s.numbers (on_shelf_of m s) c.args.path.now c.args.number c.requires.found old c.in_ok-folder.ensures c.requires.below)

pub overflow_add-put : goal.overflow_add-put
overflow_add-put c =
    let m = c.args.volume.now in
    let s = c.rules.ensures.shelved in
    let old = c.in_ok-folder.field-0 in
    key_there m.image.records old.parent
    (folder_here m s.numbers (on_shelf_of m s) c.args.path.now c.args.number c.requires.found old c.in_ok-folder.ensures c.requires.below)

pub meta_of-requires : goal.meta_of-requires
meta_of-requires c =
    let m = c.args.volume.now in
    let s = c.rules.ensures.shelved in
    let old = c.in_ok-folder.field-0 in
    let folder = c.in_ok-item_row.field-0 in
    let in_folder = folder_here m s.numbers (on_shelf_of m s) c.args.path.now c.args.number c.requires.found old c.in_ok-folder.ensures c.requires.below in
    let folder_at = row_stands m.image.records s.image.rising old.parent in_folder folder c.in_ok-item_row.ensures in
    subst (λ (r : ItemRow). IsItemRow r) (sym c.dated-above.ensures.row) (dated_is_row m.image.records old.parent folder c.args.moment folder_at c.dated-above.ensures.low)

pub overflow_add-number : goal.overflow_add-number
overflow_add-number c =
    let m = c.args.volume.now in
    let s = c.rules.ensures.shelved in
    key_there m.image.records c.args.number (there m s.numbers (on_shelf_of m s) c.args.path.now c.args.number c.requires.found)

pub returns-clause-removes : goal.returns-clause-removes
returns-clause-removes c =
    let m = c.args.volume.now in
    let s = c.rules.ensures.shelved in
    let old = c.in_ok-folder.field-0 in
    let folder = c.in_ok-item_row.field-0 in
    let told = c.in_ok-folder.ensures in
    let in_folder = folder_here m s.numbers (on_shelf_of m s) c.args.path.now c.args.number c.requires.found old told c.requires.below in
    let meta = c.in_ok-meta_of.ensures ∙ ap item_text c.dated-above.ensures.row in
    record {
      old = old;
      old_at = row_here m s.numbers (on_shelf_of m s) c.args.path.now c.args.number c.requires.found old told;
      folder = folder;
      folder_at = row_stands m.image.records s.image.rising old.parent in_folder folder c.in_ok-item_row.ensures;
      remove = c.in_ok-vec.ensures.items;
      put = c.in_ok-vec-2.ensures.items ∙ (λ i. record { key = item_key old.parent; meta = meta i; body = Kept } ∷ []);
      enter = refl;
      leave = ap (λ n. Some (record { parent = old.parent; name = n })) c.in_ok-last_name.ensures;
      fixed = refl;
    }
