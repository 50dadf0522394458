-- The record of an item with another row, which keeps its data.
use Rattle.std.proofs.Common.{◌≡◌, inl, inr, ℕ, ◌+◌, ◌^◌, ◌<◌, ◌≤◌, ◌==◌, true, false, cond, List, ◌∷◌, refl, sym, ap, ◌∙◌, subst, Option, Some, arith}
use Rattle.std.specs.Option.{option_map}
use Rattle.std.specs.Ordering.{nat_cmp}
use Rattle.std.specs.BTreeMap.{is_at, insert_entry}
use Rattle.std.proofs.lemmas.Bool.Decides.{nat_tests}
use Rattle.tm_base.specs.Days.{last_moment}
use Rattle.tm_records.specs.declared.record.Body.TheVariants.{Kept}
use Rattle.tm_records.specs.declared.record.Put.{Put}
use Rattle.tm_records.specs.declared.record.Record.{Record}
use Rattle.tm_records.specs.Puts.{CanPut, put_record, with_puts}
use Rattle.tm_records.specs.Records.{Records, at}
use Rattle.tm_image.specs.Commit.{IsPut}
use Rattle.tm_image.specs.Reads.{entry_of}
use Rattle.tm_items.specs.Changes.{with_item, date_item, date_placed}
use Rattle.tm_items.specs.Placings.{Placed}
use Rattle.tm_items.proofs.Reading.{number_decides}
use Rattle.tm_nodes.specs.Items.{item_text, IsItemRow, IsItemOfSize}
use Rattle.tm_nodes.specs.Records.{item_of}
use Rattle.tm_nodes.proofs.ItemLemmas.{item_finds}
use Rattle.tm_tree.specs.Items.{dated}
use Rattle.tm_tree.specs.declared.record.ItemBody.{ItemBody}
use Rattle.tm_tree.specs.declared.record.ItemBody.TheVariants as body
use Rattle.tm_tree.specs.declared.record.ItemRow.{ItemRow}
use Rattle.tm_changes.specs.Placing.{dated_body, dated_row, IsRowAt}
use Rattle.tm_volume_records.specs.Records.{item_key, placed_with, items_in}
use Rattle.tm_volume_records.specs.Rules.{HasData, HasStamp}
use Rattle.tm_volume_records.proofs.Slots.{Rising, items_at, placed_rec}
use Rattle.tm_volume.proofs.Rooms.{data_length}
use Rattle.tm_volume.proofs.Metas.{meta_short}
use Rattle.tm_volume.proofs.Changing.{at_insert, rising_insert, items_put}
use Rattle.tm_volume.proofs.GoodRecords.{AreGood, good_put}
use Rattle.tm_changes.proofs.Placing.{IsSpelledRow, IsHeldRow, spelled_item, spelled_placed, dated_with, dated_spelled, dated_held}
use Rattle.tm_base.specs.Limits.{max_items}

-- ---- keys apart

apart_keys : (n k : ℕ) → (k == n) ≡ false → is_at (nat_cmp (item_key k)) (item_key n) ≡ false
apart_keys n k off = elim (is_at (nat_cmp (item_key k)) (item_key n)) as (λ b. is_at (nat_cmp (item_key k)) (item_key n) ≡ b → b ≡ false) [
  | true ↦ λ here. let same : item_key k ≡ item_key n = (number_decides (item_key k) (item_key n)).0 here in let e : k ≡ n = omega arith in clash (sym off ∙ ap (λ x. x == n) e ∙ itself n)
  | false ↦ λ _. refl
] refl
  where
    itself : (x : ℕ) → (x == x) ≡ true
    itself x = grind (arith, nat_tests)

    clash : {P : Type 0} → false ≡ true → P
    clash h = cc

pub apart_low : (j n : ℕ) → j ≤ 2 → is_at (nat_cmp j) (item_key n) ≡ false
apart_low j n low = elim (is_at (nat_cmp j) (item_key n)) as (λ b. is_at (nat_cmp j) (item_key n) ≡ b → b ≡ false) [
  | true ↦ λ here. let same : j ≡ item_key n = (number_decides j (item_key n)).0 here in absurd (omega arith)
  | false ↦ λ _. refl
] refl

same_row : {a b : ItemRow} → Some a ≡ Some b → a ≡ b
same_row h = cc

some_record : {a b : Record} → Some a ≡ Some b → a ≡ b
some_record h = cc

-- a row may be put where a record stands
pub kept_is_put : (es : Records) (n : ℕ) (rec : Record) (row : ItemRow) → at (item_key n) es ≡ Some rec → n ≤ max_items → IsItemRow row → IsPut es (record { key = item_key n; meta = item_text row; body = Kept })
kept_is_put es n rec row there hi rules = record {
  can = subst (λ (o : Option Record). CanPut Kept o) (sym there) refl;
  key = fits_key n hi;
  meta = meta_short row rules;
  filled = tt;
}
  where
    fits_key : (a : ℕ) → a ≤ max_items → 2 ^ 62 + a < 2 ^ 64
    fits_key a le = omega arith

-- ---- what is known of a row

module _ (es : Records) (n : ℕ) (row : ItemRow) (row_at : IsRowAt es n row) where
  -- its item
  pub row_item : (bytes : ℕ → List ℕ) → Rising es → 1 ≤ n → n ≤ max_items → items_in es bytes n ≡ Some (placed_with (entry_of bytes row_at.rec).bytes row)
  row_item bytes s lo hi = items_at bytes es n lo hi s ∙ ap (placed_rec bytes) row_at.at_key
      ∙ ap (option_map (placed_with (entry_of bytes row_at.rec).bytes)) (ap (item_of row_at.rec.meta) (data_length bytes row_at.rec) ∙ row_at.is)

  pub row_rules : IsItemOfSize row_at.rec.length row
  row_rules = ((item_finds row_at.rec.length).is row_at.rec.meta row row_at.is).rules

  pub row_held : (bytes : ℕ → List ℕ) (next : ℕ) → AreGood bytes next es → IsHeldRow next row_at.rec row
  row_held bytes next good = elim (good.each (item_key n) row_at.rec row_at.at_key) [
    | inl h ↦ absurd (omega (arith, h.0))
    | inr rest ↦ elim rest [
      | inl j ↦ absurd (omega (arith, j.0))
      | inr item ↦
          let it = item.4 in
          let len = data_length bytes row_at.rec in
          let same : it.row ≡ row = same_row (sym it.meta ∙ ap (item_of row_at.rec.meta) len ∙ row_at.is) in
          record {
            bytes = subst (λ (r : ItemRow). HasData r.body row_at.rec.length) same (subst (HasData it.row.body) len it.bytes);
            stamp = subst (λ (r : ItemRow). HasStamp next r.body) same it.stamp;
          }
    ]
  ]

  -- ---- another row in its place

  module _ (new : ItemRow) where
    abbrev pub redone_put : Put
    redone_put = record { key = item_key n; meta = item_text new; body = Kept }

    abbrev pub redone_record : Record
    redone_record = record { meta = item_text new; length = row_at.rec.length; blocks = row_at.rec.blocks }

    abbrev pub redone : Records
    redone = insert_entry nat_cmp es (item_key n) redone_record

    pub redone_puts : (ps : List Put) → with_puts (redone_put ∷ ps) es ≡ with_puts ps redone
    redone_puts ps = ap (λ (o : Option Record). with_puts ps (insert_entry nat_cmp es (item_key n) (put_record Kept (item_text new) o))) row_at.at_key

    pub redone_rising : Rising es → Rising redone
    redone_rising s = rising_insert es (item_key n) redone_record s

    pub redone_low : (j : ℕ) → j ≤ 2 → at j redone ≡ at j es
    redone_low j low = at_insert es (item_key n) redone_record j ∙ ap (λ b. cond b (Some redone_record) (at j es)) (apart_low j n low)

    pub redone_other : (k : ℕ) → (k == n) ≡ false → at (item_key k) redone ≡ at (item_key k) es
    redone_other k off = at_insert es (item_key n) redone_record (item_key k) ∙ ap (λ b. cond b (Some redone_record) (at (item_key k) es)) (apart_keys n k off)

    pub redone_here : at (item_key n) redone ≡ Some redone_record
    redone_here = at_insert es (item_key n) redone_record (item_key n) ∙ ap (λ b. cond b (Some redone_record) (at (item_key n) es)) ((number_decides (item_key n) (item_key n)).1 refl)

    module _ (rules : IsItemOfSize row_at.rec.length new) where
      spelled : IsSpelledRow redone_record new
      spelled = record { meta = refl; rules = rules }

      pub redone_row : IsRowAt redone n new
      redone_row = record { rec = redone_record; at_key = redone_here; is = (item_finds row_at.rec.length).again (item_text new) new (record { rules = rules; spelled = refl }) }

      module _ (lo : 1 ≤ n) (hi : n ≤ max_items) where
        pub redone_items : (bytes : ℕ → List ℕ) → Rising es → items_in redone bytes ≡ with_item (items_in es bytes) n (placed_with (entry_of bytes row_at.rec).bytes new)
        redone_items bytes s = items_put bytes es s n lo hi redone_record (placed_with (entry_of bytes row_at.rec).bytes new) (spelled_placed bytes redone_record new spelled)

        pub redone_good : (bytes : ℕ → List ℕ) (next : ℕ) → AreGood bytes next es → IsHeldRow next redone_record new → AreGood bytes next redone
        redone_good bytes next good held = good_put bytes next es (item_key n) redone_record good (inr (inr (n, lo, hi, refl, spelled_item bytes redone_record new spelled next held)))

  -- ---- another date

  module _ (moment : ℕ) (low : moment ≤ last_moment) where
    pub dated_rules : IsItemOfSize row_at.rec.length (dated_row row moment)
    dated_rules = (dated_spelled row_at.rec row row_at.is moment low).rules

    pub dated_good : (bytes : ℕ → List ℕ) (next : ℕ) → 1 ≤ n → n ≤ max_items → AreGood bytes next es → AreGood bytes next (redone (dated_row row moment))
    dated_good bytes next lo hi good = redone_good (dated_row row moment) dated_rules lo hi bytes next good (dated_held next row_at.rec row moment (row_held bytes next good))

    pub dated_items : (bytes : ℕ → List ℕ) → Rising es → 1 ≤ n → n ≤ max_items → items_in (redone (dated_row row moment)) bytes ≡ date_item (items_in es bytes) n moment
    dated_items bytes s lo hi =
        let content = (entry_of bytes row_at.rec).bytes in
        let y : Placed = placed_with content row in
        let dated_is : date_item (items_in es bytes) n moment ≡ with_item (items_in es bytes) n (record { parent = y.parent; name = y.name; item = dated y.item moment })
        = ap (λ (o : Option Placed). date_placed o (items_in es bytes) n moment) (row_item bytes s lo hi) in
        let y_is : placed_with content (dated_row row moment) ≡ record { parent = y.parent; name = y.name; item = dated y.item moment } = λ i. record { parent = row.parent; name = row.name; item = dated_with row.body content moment i } in
        redone_items (dated_row row moment) dated_rules lo hi bytes s ∙ ap (λ (z : Placed). with_item (items_in es bytes) n z) y_is ∙ sym dated_is

-- a row is the only one under its number
pub one_row : (es : Records) (n : ℕ) (a b : ItemRow) → IsRowAt es n a → IsRowAt es n b → a ≡ b
one_row es n a b one two =
    let same : one.rec ≡ two.rec = some_record (sym one.at_key ∙ two.at_key) in
    same_row (sym one.is ∙ (λ i. item_of (same i).meta (same i).length) ∙ two.is)

pub row_past : (es : Records) (n k : ℕ) (row other new : ItemRow) (row_at : IsRowAt es n row) → (k == n) ≡ false → IsRowAt es k other → IsRowAt (redone es n row row_at new) k other
row_past es n k row other new row_at off there = record { rec = there.rec; at_key = redone_other es n row row_at new k off ∙ there.at_key; is = there.is }

-- a date twice is a date
pub dated_twice : (row : ItemRow) (moment : ℕ) → dated_row (dated_row row moment) moment ≡ dated_row row moment
dated_twice row moment = on_body row.body
  where
    on_body : (b : ItemBody) → ◌≡◌ {A = ItemRow} (record { parent = row.parent; name = row.name; body = dated_body (dated_body b moment) moment }) (record { parent = row.parent; name = row.name; body = dated_body b moment })
    on_body (body.Folder attrs) = refl
    on_body (body.Leaf leaf) = refl
