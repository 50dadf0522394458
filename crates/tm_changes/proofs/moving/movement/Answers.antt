use Rattle.std.proofs.Common.{ℕ, List, [], ◌∷◌, Some, refl, sym, ◌∙◌, ap, subst}
use Rattle.tm_base.specs.IsName.{IsName}
use Rattle.tm_nodes.specs.Items.{item_text, IsItemRow}
use Rattle.tm_records.specs.declared.record.Body.TheVariants.{Kept}
use Rattle.tm_tree.specs.declared.record.ItemRow.{ItemRow}
use Rattle.tm_volume_records.specs.Records.{item_key}
use Rattle.tm_volume.specs.Seen.{items_on}
use Rattle.tm_changes.specs.Shifts.{moved_row}
use Rattle.tm_changes.proofs.Results.{on_shelf_of}
use Rattle.tm_changes.proofs.StandingItems.{there, row_here, folder_here}
use Rattle.tm_changes.proofs.Planning.{is_there}
use Rattle.tm_volume.proofs.Rows.{number_low, key_there}
use Rattle.tm_changes.proofs.Shifting.{moved_is_row}
use Rattle.tm_changes.proofs.Destinations.{row_stands, dated_is_row}
use Rattle.tm_changes.proofs.moving.movement.Goals as goal
use Rattle.tm_nodes.proofs.Fields.{name_had}

pub item_row-requires : goal.item_row-requires
item_row-requires c =
    let m = c.args.volume.now in
    let s = c.rules.ensures.shelved in
    there m s.numbers (on_shelf_of m s) c.args.from.now c.args.number c.requires.found

pub item_row-requires-3 : goal.item_row-requires-3
item_row-requires-3 c = λ bytes. is_there (items_on c.args.volume.now bytes c.args.folder) (c.requires.into bytes).stands

pub item_row-requires-2 : goal.item_row-requires-2
item_row-requires-2 c =
    let m = c.args.volume.now in
    let s = c.rules.ensures.shelved in
    let old = c.in_ok-parent.field-0 in
    (folder_here m s.numbers (on_shelf_of m s) c.args.from.now c.args.number c.requires.found old c.in_ok-parent.ensures c.requires.below)

pub overflow_add-first : goal.overflow_add-first
overflow_add-first c =
    let m = c.args.volume.now in
    let s = c.rules.ensures.shelved in
    key_there m.image.records c.args.number (there m s.numbers (on_shelf_of m s) c.args.from.now c.args.number c.requires.found)

pub meta_of-requires : goal.meta_of-requires
meta_of-requires c =
    let m = c.args.volume.now in
    let s = c.rules.ensures.shelved in
    let n = c.args.number in
    let k = c.args.folder in
    let old = c.in_ok-parent.field-0 in
    let old_at = row_here m s.numbers (on_shelf_of m s) c.args.from.now n c.requires.found old c.in_ok-parent.ensures in
    let high = number_low m.image.records k (λ bytes. is_there (items_on m bytes k) (c.requires.into bytes).stands) in
    (moved_is_row m.image.records n k old c.in_ok-name.name old_at high.1 (name_had c.in_ok-name.name c.as_bytes.ensures.name)).rules

pub overflow_add-second : goal.overflow_add-second
overflow_add-second c =
    let m = c.args.volume.now in
    let s = c.rules.ensures.shelved in
    let old = c.in_ok-parent.field-0 in
    key_there m.image.records old.parent
    (folder_here m s.numbers (on_shelf_of m s) c.args.from.now c.args.number c.requires.found old c.in_ok-parent.ensures c.requires.below)

pub meta_of-requires-2 : goal.meta_of-requires-2
meta_of-requires-2 c =
    let m = c.args.volume.now in
    let s = c.rules.ensures.shelved in
    let old = c.in_ok-parent.field-0 in
    let row = c.in_ok-item_row.field-0 in
    let stands = folder_here m s.numbers (on_shelf_of m s) c.args.from.now c.args.number c.requires.found old c.in_ok-parent.ensures c.requires.below in
    let row_at = row_stands m.image.records s.image.rising old.parent stands row c.in_ok-item_row.ensures in
    subst (λ (r : ItemRow). IsItemRow r) (sym c.dated-left.ensures.row) (dated_is_row m.image.records old.parent row c.args.moment row_at c.dated-left.ensures.low)

pub overflow_add-third : goal.overflow_add-third
overflow_add-third c =
    let m = c.args.volume.now in
    let k = c.args.folder in
    key_there m.image.records k (λ bytes. is_there (items_on m bytes k) (c.requires.into bytes).stands)

pub meta_of-requires-3 : goal.meta_of-requires-3
meta_of-requires-3 c =
    let m = c.args.volume.now in
    let s = c.rules.ensures.shelved in
    let k = c.args.folder in
    let row = c.in_ok-item_row-2.field-0 in
    let row_at = row_stands m.image.records s.image.rising k (λ bytes. is_there (items_on m bytes k) (c.requires.into bytes).stands) row c.in_ok-item_row-2.ensures in
    subst (λ (r : ItemRow). IsItemRow r) (sym c.dated-entered.ensures.row) (dated_is_row m.image.records k row c.args.moment row_at c.dated-entered.ensures.low)

pub returns-clause-shifts : goal.returns-clause-shifts
returns-clause-shifts c =
    let m = c.args.volume.now in
    let s = c.rules.ensures.shelved in
    let n = c.args.number in
    let k = c.args.folder in
    let old = c.in_ok-parent.field-0 in
    let told = c.in_ok-parent.ensures in
    let from = c.in_ok-item_row.field-0 in
    let into = c.in_ok-item_row-2.field-0 in
    let from_there = folder_here m s.numbers (on_shelf_of m s) c.args.from.now n c.requires.found old told c.requires.below in
    let one = c.in_ok-meta_of.ensures ∙ ap (λ (x : List ℕ). item_text (moved_row old k x)) c.in_ok-name.ensures in
    let two = c.in_ok-meta_of-2.ensures ∙ ap item_text c.dated-left.ensures.row in
    let three = c.in_ok-meta_of-3.ensures ∙ ap item_text c.dated-entered.ensures.row in
    record {
      old = old;
      old_at = row_here m s.numbers (on_shelf_of m s) c.args.from.now n c.requires.found old told;
      from = from;
      from_at = row_stands m.image.records s.image.rising old.parent from_there from c.in_ok-item_row.ensures;
      into = into;
      into_at = row_stands m.image.records s.image.rising k (λ bytes. is_there (items_on m bytes k) (c.requires.into bytes).stands) into c.in_ok-item_row-2.ensures;
      called = subst (λ (x : List ℕ). IsName x) c.in_ok-name.ensures (name_had c.in_ok-name.name c.as_bytes.ensures.name);
      remove = c.in_ok-vec.ensures.items;
      put = c.in_ok-vec-2.ensures.items
          ∙ (λ i. record { key = item_key n; meta = one i; body = Kept } ∷ record { key = item_key old.parent; meta = two i; body = Kept } ∷ record { key = item_key k; meta = three i; body = Kept } ∷ []);
      enter = ap (λ x. Some (record { parent = k; name = x; number = n })) c.in_ok-last_name.ensures;
      leave = ap (λ x. Some (record { parent = old.parent; name = x })) c.in_ok-last_name-2.ensures;
      fixed = refl;
    }
