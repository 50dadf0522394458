-- An item made in a folder, which is dated: records, items and tree.
use Rattle.std.proofs.Common.{◌≡◌, inr, ℕ, ◌≤◌, ◌==◌, true, false, cond, List, [], ◌∷◌, length, refl, sym, ap, ◌∙◌, subst, Option, Some, None, arith}
use Rattle.std.specs.Option.{option_map}
use Rattle.std.specs.Ordering.{nat_cmp}
use Rattle.std.specs.BTreeMap.{is_at, insert_entry}
use Rattle.std.specs.Map.{remove_entry}
use Rattle.std.proofs.lemmas.Bool.Decides.{nat_tests}
use Rattle.tm_base.specs.Days.{last_moment}
use Rattle.tm_base.specs.Paths.{Names}
use Rattle.tm_records.specs.declared.record.Body.{Body}
use Rattle.tm_records.specs.declared.record.Body.TheVariants.{Kept, Empty, New}
use Rattle.tm_records.specs.declared.record.Put.{Put}
use Rattle.tm_records.specs.declared.record.Record.{Record}
use Rattle.tm_records.specs.Puts.{put_record}
use Rattle.tm_records.specs.Records.{Records, at}
use Rattle.tm_image.specs.Commit.{changed}
use Rattle.tm_image.specs.Reads.{entry_of}
use Rattle.tm_items.specs.Changes.{placed_items, with_item, date_item, date_placed}
use Rattle.tm_items.specs.Placings.{Placed}
use Rattle.tm_items.proofs.Reading.{number_decides}
use Rattle.tm_nodes.specs.Items.{item_text, IsItemOfSize}
use Rattle.tm_nodes.specs.Records.{item_of}
use Rattle.tm_nodes.proofs.ItemLemmas.{item_finds}
use Rattle.tm_tree.specs.declared.record.ItemBody.{ItemBody}
use Rattle.tm_tree.specs.declared.record.ItemBody.TheVariants as body
use Rattle.tm_tree.specs.declared.node.LeafRow.TheVariants as leaf
use Rattle.tm_tree.specs.declared.record.ItemRow.{ItemRow}
use Rattle.tm_tree.specs.Items.{dated}
use Rattle.tm_tree.specs.Trees.{last_of}
use Rattle.tm_changes.specs.Placing.{dated_body, dated_row, IsRowAt}
use Rattle.tm_volume_records.specs.Records.{journal_key, item_key, item_with, placed_with, placed_of, items_in}
use Rattle.tm_volume_records.specs.Rules.{IsItem, HasData, HasStamp}
use Rattle.tm_volume_records.proofs.Slots.{Rising, items_at, placed_rec}
use Rattle.tm_volume.proofs.Rooms.{data_length}
use Rattle.tm_volume.proofs.Changing.{at_insert, rising_insert, rising_remove, items_put, items_without}
use Rattle.tm_volume.proofs.GoodRecords.{AreGood, good_put, good_remove}
use Rattle.tm_base.specs.Limits.{max_items}

-- ---- a put record

pub put_meta : (b : Body) (meta : List ℕ) (o : Option Record) → (put_record b meta o).meta ≡ meta
put_meta Kept meta None = refl
put_meta Kept meta (Some r) = refl
put_meta Empty meta o = refl
put_meta (New blob) meta o = refl

-- a record whose meta spells this row
pub record IsSpelledRow (r : Record) (row : ItemRow) : Type 0 where
  pub meta : r.meta ≡ item_text row
  pub rules : IsItemOfSize r.length row

-- with data and a stamp that its kind may have
pub record IsHeldRow (next : ℕ) (r : Record) (row : ItemRow) : Type 0 where
  pub bytes : HasData row.body r.length
  pub stamp : HasStamp next row.body

module _ (bytes : ℕ → List ℕ) (r : Record) (row : ItemRow) (is : IsSpelledRow r row) where
  spelled_meta : item_of r.meta (length (entry_of bytes r).bytes) ≡ Some row
  spelled_meta = ap (item_of r.meta) (data_length bytes r) ∙ (item_finds r.length).again r.meta row (record { rules = is.rules; spelled = is.meta })

  pub spelled_item : (next : ℕ) → IsHeldRow next r row → IsItem next (entry_of bytes r)
  spelled_item next held = record { row = row; meta = spelled_meta; bytes = subst (HasData row.body) (sym (data_length bytes r)) held.bytes; stamp = held.stamp }

  pub spelled_placed : placed_of (entry_of bytes r) ≡ Some (placed_with (entry_of bytes r).bytes row)
  spelled_placed = ap (option_map (placed_with (entry_of bytes r).bytes)) spelled_meta

-- ---- a date

pub dated_with : (b : ItemBody) (bytes : List ℕ) (moment : ℕ) → item_with (dated_body b moment) bytes ≡ dated (item_with b bytes) moment
dated_with (body.Folder attrs) bytes moment = refl
dated_with (body.Leaf (leaf.File attrs stamp size)) bytes moment = refl
dated_with (body.Leaf (leaf.Link attrs stamp target)) bytes moment = refl

dated_rules : (b : ItemBody) (parent : ℕ) (name : Option (List ℕ)) (size moment : ℕ) → moment ≤ last_moment → IsItemOfSize size (record { parent = parent; name = name; body = b })
    → IsItemOfSize size (record { parent = parent; name = name; body = dated_body b moment })
dated_rules (body.Folder attrs) parent name size moment low is = record {
  rules = record {
    parent = is.rules.parent;
    name = is.rules.name;
    attrs = let a = is.rules.attrs in record { mode = a.mode; uid = a.uid; gid = a.gid; modified = low; few = a.few; each = a.each; rising = a.rising };
    tail = tt;
  };
  size_is = tt;
}
dated_rules (body.Leaf leaf) parent name size moment low is = is

dated_data : (b : ItemBody) (size moment : ℕ) → HasData b size → HasData (dated_body b moment) size
dated_data (body.Folder attrs) size moment h = h
dated_data (body.Leaf leaf) size moment h = h

dated_stamp : (b : ItemBody) (next moment : ℕ) → HasStamp next b → HasStamp next (dated_body b moment)
dated_stamp (body.Folder attrs) next moment h = h
dated_stamp (body.Leaf leaf) next moment h = h

-- the record of a folder that is dated
abbrev pub dated_record : Record → ItemRow → ℕ → Record
dated_record rec row moment = record { meta = item_text (dated_row row moment); length = rec.length; blocks = rec.blocks }

pub dated_spelled : (rec : Record) (row : ItemRow) → item_of rec.meta rec.length ≡ Some row → (moment : ℕ) → moment ≤ last_moment → IsSpelledRow (dated_record rec row moment) (dated_row row moment)
dated_spelled rec row is moment low = record { meta = refl; rules = dated_rules row.body row.parent row.name rec.length moment low ((item_finds rec.length).is rec.meta row is).rules }

pub dated_held : (next : ℕ) (rec : Record) (row : ItemRow) (moment : ℕ) → IsHeldRow next rec row → IsHeldRow next (dated_record rec row moment) (dated_row row moment)
dated_held next rec row moment held = record { bytes = dated_data row.body rec.length moment held.bytes; stamp = dated_stamp row.body next moment held.stamp }

-- ---- the items

differ : (n k : ℕ) → (k == n) ≡ false → is_at (nat_cmp (item_key k)) (item_key n) ≡ false
differ n k off = elim (is_at (nat_cmp (item_key k)) (item_key n)) as (λ b. is_at (nat_cmp (item_key k)) (item_key n) ≡ b → b ≡ false) [
  | true ↦ λ here. let same : item_key k ≡ item_key n = (number_decides (item_key k) (item_key n)).0 here in let e : k ≡ n = omega arith in clash (sym off ∙ ap (λ x. x == n) e ∙ itself n)
  | false ↦ λ _. refl
] refl
  where
    itself : (x : ℕ) → (x == x) ≡ true
    itself x = grind (arith, nat_tests)

    clash : {P : Type 0} → false ≡ true → P
    clash h = cc

module _ (es : Records) (s : Rising es) (n k moment : ℕ) (new folder : ItemRow) (content : Body) (far : (k == n) ≡ false) (row_at : IsRowAt es k folder) where
  abbrev pub first : Record
  first = put_record content (item_text new) (at (item_key n) es)

  abbrev pub second : Record
  second = dated_record row_at.rec folder moment

  abbrev pub puts : List Put
  puts = record { key = item_key n; meta = item_text new; body = content } ∷ record { key = item_key k; meta = item_text (dated_row folder moment); body = Kept } ∷ []

  abbrev pub records_after : Records
  records_after = remove_entry (is_at (nat_cmp journal_key)) (insert_entry nat_cmp (insert_entry nat_cmp es (item_key n) first) (item_key k) second)

  pub changed_is : changed (journal_key ∷ []) puts es ≡ records_after
  changed_is =
      let there : at (item_key k) (insert_entry nat_cmp es (item_key n) first) ≡ Some row_at.rec
      = at_insert es (item_key n) first (item_key k) ∙ ap (λ b. cond b (Some first) (at (item_key k) es)) (differ n k far) ∙ row_at.at_key in
      ap (λ (o : Option Record). remove_entry (is_at (nat_cmp journal_key)) (insert_entry nat_cmp (insert_entry nat_cmp es (item_key n) first) (item_key k) (put_record Kept (item_text (dated_row folder moment)) o))) there

  pub rising_after : Rising records_after
  rising_after = rising_remove (insert_entry nat_cmp (insert_entry nat_cmp es (item_key n) first) (item_key k) second) journal_key
      (rising_insert (insert_entry nat_cmp es (item_key n) first) (item_key k) second (rising_insert es (item_key n) first s))

  module _ (lo : 1 ≤ n) (hi : n ≤ max_items) (klo : 1 ≤ k) (khi : k ≤ max_items) (low : moment ≤ last_moment) (first_is : IsSpelledRow first new) where
    second_is : IsSpelledRow second (dated_row folder moment)
    second_is = dated_spelled row_at.rec folder row_at.is moment low

    pub good_after : (bytes : ℕ → List ℕ) (next : ℕ) → IsHeldRow next first new → IsHeldRow next row_at.rec folder → AreGood bytes next es → AreGood bytes next records_after
    good_after bytes next first_held folder_held good =
        let es1 = insert_entry nat_cmp es (item_key n) first in
        let es2 = insert_entry nat_cmp es1 (item_key k) second in
        good_remove bytes next es2 journal_key (rising_insert es1 (item_key k) second (rising_insert es (item_key n) first s))
        (good_put bytes next es1 (item_key k) second
        (good_put bytes next es (item_key n) first good (inr (inr (n, lo, hi, refl, spelled_item bytes first new first_is next first_held))))
        (inr (inr (k, klo, khi, refl, spelled_item bytes second (dated_row folder moment) second_is next (dated_held next row_at.rec folder moment folder_held)))))

    pub items_after : (bytes : ℕ → List ℕ) (p : Names) → new.parent ≡ k → new.name ≡ Some (last_of p)
        → items_in records_after bytes ≡ placed_items (items_in es bytes) p n k moment (item_with new.body (entry_of bytes first).bytes)
    items_after bytes p parent called =
        let es1 = insert_entry nat_cmp es (item_key n) first in
        let es2 = insert_entry nat_cmp es1 (item_key k) second in
        let s1 = rising_insert es (item_key n) first s in
        let held = (entry_of bytes first).bytes in
        let x : Placed = record { parent = k; name = Some (last_of p); item = item_with new.body held } in
        let x_is : placed_with held new ≡ x = λ i. record { parent = parent i; name = called i; item = item_with new.body held } in
        let one : items_in es1 bytes ≡ with_item (items_in es bytes) n x = items_put bytes es s n lo hi first (placed_with held new) (spelled_placed bytes first new first_is) ∙ ap (with_item (items_in es bytes) n) x_is in
        let fdata = (entry_of bytes second).bytes in
        let two : items_in es2 bytes ≡ with_item (items_in es1 bytes) k (placed_with fdata (dated_row folder moment)) = items_put bytes es1 s1 k klo khi second (placed_with fdata (dated_row folder moment)) (spelled_placed bytes second (dated_row folder moment) second_is) in
        let three : items_in records_after bytes ≡ items_in es2 bytes = items_without bytes es2 (rising_insert es1 (item_key k) second s1) journal_key (omega arith) in
        let y : Placed = placed_with fdata folder in
        let stands : items_in es bytes k ≡ Some y = items_at bytes es k klo khi s ∙ ap (placed_rec bytes) row_at.at_key
        ∙ ap (option_map (placed_with fdata)) (ap (item_of row_at.rec.meta) (data_length bytes row_at.rec) ∙ row_at.is) in
        let still : with_item (items_in es bytes) n x k ≡ Some y = ap (λ b. cond b (Some x) (items_in es bytes k)) far ∙ stands in
        let dated_is : date_item (with_item (items_in es bytes) n x) k moment ≡ with_item (with_item (items_in es bytes) n x) k (record { parent = y.parent; name = y.name; item = dated y.item moment })
        = ap (λ (o : Option Placed). date_placed o (with_item (items_in es bytes) n x) k moment) still in
        let y_is : placed_with fdata (dated_row folder moment) ≡ record { parent = y.parent; name = y.name; item = dated y.item moment } = λ i. record { parent = folder.parent; name = folder.name; item = dated_with folder.body fdata moment i } in
        three ∙ two ∙ (λ i. with_item (one i) k (y_is i)) ∙ sym dated_is
