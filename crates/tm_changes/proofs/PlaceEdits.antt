-- The edit that makes an item can be made, and makes the volume with it.
use Rattle.std.proofs.Common.{◌≡◌, ℕ, zero, suc, ◌+◌, ◌^◌, ◌<◌, ◌≤◌, ◌==◌, true, false, cond, List, [], ◌∷◌, refl, sym, ap, ◌∙◌, subst, Option, Some, None, arith}
use Rattle.std.specs.Option.{option_map, unwrap_or}
use Rattle.std.specs.Ordering.{nat_cmp}
use Rattle.std.specs.BTreeMap.{is_at, insert_entry}
use Rattle.std.specs.List.{All}
use Rattle.std.specs.List.Sorted.{IsStrictlyIncreasing}
use Rattle.std.proofs.lemmas.Bool.Decides.{nat_tests}
use Rattle.tm_base.specs.Days.{last_moment}
use Rattle.tm_base.specs.Paths.{Names}
use Rattle.tm_records.specs.declared.record.Body.{Body}
use Rattle.tm_records.specs.declared.record.Body.TheVariants.{Kept}
use Rattle.tm_records.specs.declared.record.Put.{Put}
use Rattle.tm_records.specs.declared.record.Record.{Record}
use Rattle.tm_records.specs.Puts.{CanPut, put_record}
use Rattle.tm_records.specs.Records.{Records, at}
use Rattle.tm_image.specs.Commit.{changed, IsPut, IsFilled}
use Rattle.tm_image.specs.Reads.{Entry, entry_of}
use Rattle.tm_items.specs.Changes.{Are, CanPlace, placed_items}
use Rattle.tm_items.specs.Index.{Numbers, IsIndex, SetsAt}
use Rattle.tm_items.specs.Placings.{Placed, Items}
use Rattle.tm_items.specs.Places.{place_in}
use Rattle.tm_items.proofs.Reading.{one_tree, tree_reads, number_decides}
use Rattle.tm_items.proofs.Indexing.{index_places}
use Rattle.tm_items.proofs.Finding.{place_free}
use Rattle.tm_items.proofs.Changing.{place_reads}
use Rattle.tm_nodes.specs.Records.{item_of, volume_of, paths_of}
use Rattle.tm_nodes.specs.Items.{item_text}
use Rattle.tm_tree.specs.declared.item.Item.{Item}
use Rattle.tm_tree.specs.declared.record.ItemRow.{ItemRow}
use Rattle.tm_tree.specs.Trees.{last_of}
use Rattle.tm_tree.specs.Changes.{place_at}
use Rattle.tm_volume.specs.declared.edit.Edit.{Edit}
use Rattle.tm_volume.specs.declared.edit.Entered.{Entered}
use Rattle.tm_volume.specs.declared.edit.Left.{Left}
use Rattle.tm_changes.specs.Changes.{with_contents}
use Rattle.tm_volume.specs.Edits.{after, next_tag, Enters, Leaves, IsFree, IsEdit, IsGoodEdit, IsShortPut, IsShortBody}
use Rattle.tm_changes.specs.Placing.{IsRowAt, IsPlacing, dated_row}
use Rattle.tm_volume_records.specs.Records.{head_key, journal_key, item_key, item_with, placed_with, placings_of, items_in, entry_at}
use Rattle.tm_volume_records.specs.Rules.{IsGoodVolume}
use Rattle.tm_volume.specs.Seen.{Seen, entries_on, items_on, tree_on, stored_on, volume_on}
use Rattle.tm_volume_records.proofs.Slots.{Rising, entry_is, numbered_on, items_at, placed_rec}
use Rattle.tm_volume.proofs.Rooms.{data_length}
use Rattle.tm_volume.proofs.Metas.{meta_short}
use Rattle.tm_volume.proofs.Finding.{OnShelf, are_on}
use Rattle.tm_volume.proofs.Changing.{at_insert, at_remove, rising_insert}
use Rattle.tm_volume.proofs.GoodRecords.{AreGood, good_from, good_later, good_volume}
use Rattle.tm_changes.proofs.Placing as placing
use Rattle.tm_base.proofs.Facts.{none_some}
use Rattle.tm_base.specs.Limits.{max_items}

all_two : {X : Type 0} (P : X → Type 0) (a b : X) → P a → P b → All P (a ∷ b ∷ [])
all_two P a b pa pb zero d lt = pa
all_two P a b pa pb (suc zero) d lt = pb
all_two P a b pa pb (suc (suc k)) d lt = absurd (omega arith)

one_rises : (a : ℕ) → IsStrictlyIncreasing (a ∷ [])
one_rises a k lt = absurd (omega arith)

apart_low : (j n : ℕ) → j ≤ 2 → is_at (nat_cmp j) (item_key n) ≡ false
apart_low j n low = elim (is_at (nat_cmp j) (item_key n)) as (λ b. is_at (nat_cmp j) (item_key n) ≡ b → b ≡ false) [
  | true ↦ λ here. let same : j ≡ item_key n = (number_decides j (item_key n)).0 here in absurd (omega arith)
  | false ↦ λ _. refl
] refl

module _ (m : Seen) (n0 : Numbers) (on : OnShelf m n0) (e : Edit) (p : Names) (n k moment : ℕ) (new folder : ItemRow) (content : Body)
    (is : IsPlacing m e n k moment new folder (last_of p) content) (row_at : IsRowAt m.image.records k folder) where
  abbrev es : Records
  es = m.image.records

  abbrev pub first : Record
  first = put_record content (item_text new) (at (item_key n) es)

  -- what the code has seen to
  pub record IsReadyPlace : Type 0 where
    pub can : (bytes : ℕ → List ℕ) → CanPlace (items_on m bytes) (tree_on m bytes) p n k
    pub number : (1 ≤ n) × (n ≤ max_items)
    pub into : (1 ≤ k) × (k ≤ max_items)
    pub low : moment ≤ last_moment
    pub parent : new.parent ≡ k
    pub called : new.name ≡ Some (last_of p)
    pub spelled : placing.IsSpelledRow first new
    pub filled : IsFilled content
    pub within : IsShortBody content
    pub can_put : CanPut content (at (item_key n) es)
    pub next_least : m.tag.next ≤ e.next
    pub next_most : e.next ≤ 2 ^ 62

  module _ (ready : IsReadyPlace) where
    are : (bytes : ℕ → List ℕ) → Are (items_on m bytes) (tree_on m bytes)
    are bytes = are_on m n0 on bytes

    folder_stands : (bytes : ℕ → List ℕ) → (y : Placed) × (items_on m bytes k ≡ Some y)
    folder_stands bytes = (
      placed_with (entry_of bytes row_at.rec).bytes folder,
      items_at bytes es k ready.into.0 ready.into.1 on.rising ∙ ap (placed_rec bytes) row_at.at_key
          ∙ ap (option_map (placed_with (entry_of bytes row_at.rec).bytes)) (ap (item_of row_at.rec.meta) (data_length bytes row_at.rec) ∙ row_at.is),
    )

    pub far : (k == n) ≡ false
    far = elim (k == n) as (λ b. (k == n) ≡ b → b ≡ false) [
      | true ↦ λ here.
          let y = folder_stands (λ _. []) in
          let same : k ≡ n = number_same k n here in
          none_some (sym ((ready.can (λ _. [])).free) ∙ ap (items_on m (λ _. [])) (sym same) ∙ y.1)
      | false ↦ λ _. refl
    ] refl
      where
        number_same : (a b : ℕ) → (a == b) ≡ true → a ≡ b
        number_same a b h = grind (arith, nat_tests)

    abbrev pub new_records : Records
    new_records = placing.records_after es on.rising n k moment new folder content far row_at

    pub changed_is : changed e.remove.items e.put.items es ≡ new_records
    changed_is = (λ i. changed (is.remove i) (is.put i) es) ∙ placing.changed_is es on.rising n k moment new folder content far row_at

    abbrev pub item : (ℕ → List ℕ) → Item
    item bytes = item_with new.body (entry_of bytes first).bytes

    pub items_are : (bytes : ℕ → List ℕ) → items_on (after m e) bytes ≡ placed_items (items_on m bytes) p n k moment (item bytes)
    items_are bytes = ap (λ (rs : Records). items_in rs bytes) changed_is
        ∙ placing.items_after es on.rising n k moment new folder content far row_at ready.number.0 ready.number.1 ready.into.0 ready.into.1 ready.low ready.spelled bytes p ready.parent ready.called

    pub are_after : (bytes : ℕ → List ℕ) → Are (items_on (after m e) bytes) (place_at (tree_on m bytes) p moment (item bytes))
    are_after bytes = subst (λ (items : Items). Are items (place_at (tree_on m bytes) p moment (item bytes))) (sym (items_are bytes))
        (place_reads (items_on m bytes) (tree_on m bytes) p n k moment (item bytes) (are bytes) (ready.can bytes))

    rising_new : Rising (changed e.remove.items e.put.items es)
    rising_new = subst (λ (rs : Records). Rising rs) (sym changed_is) (placing.rising_after es on.rising n k moment new folder content far row_at)

    -- the tree after it
    pub tree_after : (bytes : ℕ → List ℕ) → tree_on (after m e) bytes ≡ place_at (tree_on m bytes) p moment (item bytes)
    tree_after bytes =
        let a = are_after bytes in
        one_tree (items_on (after m e) bytes) (tree_on (after m e) bytes) (place_at (tree_on m bytes) p moment (item bytes))
        (tree_reads (placings_of (entries_on (after m e) bytes)) (numbered_on bytes (changed e.remove.items e.put.items es) rising_new) a.sound) a.reads

    at_head : at head_key (changed e.remove.items e.put.items es) ≡ at head_key es
    at_head =
        let es1 = insert_entry nat_cmp es (item_key n) first in
        let second = placing.second es on.rising n k moment new folder content far row_at in
        let es2 = insert_entry nat_cmp es1 (item_key k) second in
        ap (at head_key) changed_is
        ∙ at_remove es2 journal_key head_key (rising_insert es1 (item_key k) second (rising_insert es (item_key n) first on.rising))
        ∙ at_insert es1 (item_key k) second head_key ∙ ap (λ b. cond b (Some second) (at head_key es1)) (apart_low head_key k (omega arith))
        ∙ at_insert es (item_key n) first head_key ∙ ap (λ b. cond b (Some first) (at head_key es)) (apart_low head_key n (omega arith))

    at_journal : at journal_key (changed e.remove.items e.put.items es) ≡ None
    at_journal =
        let es1 = insert_entry nat_cmp es (item_key n) first in
        let second = placing.second es on.rising n k moment new folder content far row_at in
        let es2 = insert_entry nat_cmp es1 (item_key k) second in
        ap (at journal_key) changed_is
        ∙ at_remove es2 journal_key journal_key (rising_insert es1 (item_key k) second (rising_insert es (item_key n) first on.rising))

    fits_key : (a : ℕ) → a ≤ max_items → 2 ^ 62 + a < 2 ^ 64
    fits_key a le = omega arith

    first_put : IsPut es (record { key = item_key n; meta = item_text new; body = content })
    first_put = record { can = ready.can_put; key = fits_key n ready.number.1; meta = meta_short new ready.spelled.rules.rules; filled = ready.filled }

    second_put : IsPut es (record { key = item_key k; meta = item_text (dated_row folder moment); body = Kept })
    second_put = record {
      can = subst (λ (o : Option Record). CanPut Kept o) (sym row_at.at_key) refl;
      key = fits_key k ready.into.1;
      meta = meta_short (dated_row folder moment) (placing.dated_spelled row_at.rec folder row_at.is moment ready.low).rules.rules;
      filled = tt;
    }

    entered : (old between : Numbers) → Enters e.enter old between → SetsAt (place_in k p) (Some n) old between
    entered old between h = subst (λ (o : Option Entered). Enters o old between) is.enter h

    left : (between new : Numbers) → Leaves e.leave between new → new ≡ between
    left between new h = subst (λ (o : Option Left). Leaves o between new) is.leave h

    pub is_edit : IsEdit m e
    is_edit = record {
      rising = subst (λ xs. IsStrictlyIncreasing xs) (sym is.remove) (one_rises journal_key);
      put = subst (λ (ps : List Put). All (IsPut es) ps) (sym is.put) (all_two (IsPut es) _ _ first_put second_put);
      lengths = subst (λ (ps : List Put). All IsShortPut ps) (sym is.put) (all_two IsShortPut _ _ (λ n least key. ready.within) (λ n least key. tt));
      head = ap (option_map (λ (r : Record). volume_of r.meta)) at_head ∙ on.shelf.head_is;
      next_least = ready.next_least;
      next_most = ready.next_most;
      sound = λ bytes. (are_after bytes).sound;
      free = λ bytes numbers index. subst (λ (o : Option Entered). IsFree o numbers) (sym is.enter)
          (let c = ready.can bytes in place_free (items_on m bytes) (tree_on m bytes) numbers p k (are bytes) index c.below c.into c.none);
      index_is = λ bytes old between new index enters leaves.
          subst (λ (items : Items). IsIndex items new) (sym (items_are bytes))
          (subst (λ (ns : Numbers). IsIndex (placed_items (items_on m bytes) p n k moment (item bytes)) ns) (sym (left between new leaves))
          (index_places (items_on m bytes) (tree_on m bytes) p n k moment (item bytes) old between (are bytes) (ready.can bytes) index (entered old between enters)));
    }

    -- after it the volume keeps its rules
    module _ (bytes : ℕ → List ℕ) (good : IsGoodVolume (entries_on m bytes) m.tag) (fixed_is : option_map (λ d. paths_of d.bytes) (entry_at head_key (entries_on m bytes)) ≡ Some (Some m.fixed))
        (head : Record) (head_is : at head_key es ≡ Some head) (first_held : placing.IsHeldRow e.next first new) (folder_held : placing.IsHeldRow e.next row_at.rec folder) where
      good_records : AreGood bytes e.next (changed e.remove.items e.put.items es)
      good_records = subst (λ (rs : Records). AreGood bytes e.next rs) (sym changed_is)
          (placing.good_after es on.rising n k moment new folder content far row_at ready.number.0 ready.number.1 ready.into.0 ready.into.1 ready.low ready.spelled bytes e.next first_held folder_held
          (good_later bytes m.tag.next e.next es ready.next_least (good_from bytes es m.tag good)))

      pub is_good : IsGoodEdit m e bytes
      is_good = record {
        good = good_volume bytes (changed e.remove.items e.put.items es) (next_tag m e) refl good_records head (at_head ∙ head_is) (are_after bytes).sound;
        fixed = ap (option_map (λ (d : Entry). paths_of d.bytes)) (entry_is bytes head_key (changed e.remove.items e.put.items es) ∙ ap (option_map (entry_of bytes)) at_head ∙ sym (entry_is bytes head_key es))
            ∙ fixed_is ∙ ap (λ (o : Option (List Names)). Some (Some (unwrap_or o m.fixed))) (sym fixed_none);
      }
        where
          fixed_none : ◌≡◌ {A = Option (List Names)} e.fixed None
          fixed_none = is.fixed

    -- what it stores
    pub stored_is : (bytes : ℕ → List ℕ) → stored_on (after m e) bytes
        ≡ record { volume = with_contents (volume_on m bytes) (record { tree = place_at (tree_on m bytes) p moment (item bytes); fixed = m.fixed; next = e.next }); clean = false; journal = None }
    stored_is bytes =
        let t = tree_after bytes in
        let f : unwrap_or e.fixed m.fixed ≡ m.fixed = ap (λ (o : Option (List Names)). unwrap_or o m.fixed) is.fixed in
        let j : option_map (λ (r : Record). r.length) (at journal_key (changed e.remove.items e.put.items es)) ≡ None = ap (option_map (λ (r : Record). r.length)) at_journal in
        λ i. record {
          volume = record { name = m.head.name; id = m.head.id; capacity = m.head.capacity; generation = m.tag.generation; contents = record { tree = t i; fixed = f i; next = e.next } };
          clean = false;
          journal = j i;
        }
