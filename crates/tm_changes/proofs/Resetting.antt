-- The edit that gives an item other attributes can be made, and makes the volume with them.
use Rattle.std.proofs.Common.{◌≡◌, ℕ, zero, suc, ◌+◌, ◌^◌, ◌≤◌, ◌==◌, true, false, cond, List, [], ◌∷◌, refl, sym, ap, ◌∙◌, subst, Option, Some, None, is_some, Ok, arith}
use Rattle.std.specs.Option.{option_map, unwrap_or}
use Rattle.std.specs.Ordering.{nat_cmp}
use Rattle.std.specs.BTreeMap.{is_at}
use Rattle.std.specs.List.{All}
use Rattle.std.specs.List.Sorted.{IsStrictlyIncreasing}
use Rattle.std.specs.Map.{remove_entry}
use Rattle.std.proofs.lemmas.Bool.Decides.{nat_tests}
use Rattle.tm_base.specs.Paths.{Names, is_root}
use Rattle.tm_records.specs.declared.record.Put.{Put}
use Rattle.tm_records.specs.declared.record.Record.{Record}
use Rattle.tm_records.specs.Removes.{without}
use Rattle.tm_records.specs.Records.{Records, at}
use Rattle.tm_image.specs.Commit.{changed, IsPut}
use Rattle.tm_image.specs.Reads.{Entry, entry_of}
use Rattle.tm_items.specs.Changes.{Are, CanReplace, replaced_items, with_item}
use Rattle.tm_items.specs.Finding.{FoundAt}
use Rattle.tm_items.specs.Index.{Numbers, IsIndex}
use Rattle.tm_items.specs.Placings.{Placed, Items, Walks}
use Rattle.tm_items.proofs.Indexing.{index_replaces}
use Rattle.tm_items.proofs.Reading.{one_tree, tree_reads}
use Rattle.tm_items.proofs.Replacing.{replace_reads, changed_is_put}
use Rattle.tm_items.proofs.Walking.{one_path}
use Rattle.tm_nodes.specs.Items.{item_attrs, IsItemRow, IsItemOfSize}
use Rattle.tm_nodes.specs.Records.{volume_of, paths_of}
use Rattle.tm_tree.specs.declared.change.Change.{Change}
use Rattle.tm_tree.specs.declared.item.Item.{Item}
use Rattle.tm_tree.specs.declared.record.ItemRow.{ItemRow}
use Rattle.tm_tree.specs.Changes.{attrs_changed, tree_after, fixed_after}
use Rattle.tm_tree.specs.Extras.{value_of}
use Rattle.tm_tree.specs.Items.{attrs_of, is_excluded, exclusion}
use Rattle.tm_tree.specs.Refusing.{first_refused}
use Rattle.tm_tree.specs.Touches.{numbers}
use Rattle.tm_tree.specs.Trees.{Tree, item_at, put}
use Rattle.tm_tree.specs.Walks.{walk}
use Rattle.tm_volume.specs.declared.edit.Edit.{Edit}
use Rattle.tm_volume.specs.declared.edit.Entered.{Entered}
use Rattle.tm_volume.specs.declared.edit.Left.{Left}
use Rattle.tm_changes.specs.Attributes.{SetsAttrs, IsReset, attrs_after, attrs_tests, body_stamps, reset_row}
use Rattle.tm_changes.specs.Changes.{changed as changed_by}
use Rattle.tm_volume.specs.Edits.{after, next_tag, Enters, Leaves, IsFree, IsEdit, IsGoodEdit, IsShortPut}
use Rattle.tm_changes.specs.Placing.{IsRowAt}
use Rattle.tm_changes.specs.Plans.{BringNone, IsGood, Writes}
use Rattle.tm_volume_records.specs.Records.{head_key, journal_key, item_with, placed_with, placings_of, items_in}
use Rattle.tm_volume.specs.Seen.{Seen, entries_on, items_on, tree_on, stored_on, volume_on}
use Rattle.tm_changes.proofs.Attributing.{attrs_same, set_item, set_with, set_attrs_of, set_folder, still_included, reset_size, reset_data, reset_stamp}
use Rattle.tm_volume.proofs.Changing.{at_remove, rising_remove, items_without}
use Rattle.tm_changes.proofs.Denying.{allowed, tree_is, fixed_is, unstaged}
use Rattle.tm_volume.proofs.Finding.{OnShelf, are_on}
use Rattle.tm_volume.proofs.GoodRecords.{AreGood, good_from, good_later, good_remove, good_volume}
use Rattle.tm_changes.proofs.Placing.{IsHeldRow}
use Rattle.tm_changes.proofs.ItemRecords.{kept_is_put, row_item, row_rules, row_held, redone, redone_record, redone_puts, redone_rising, redone_low, redone_items, redone_good}
use Rattle.tm_volume.proofs.Rows.{number_low}
use Rattle.tm_volume_records.proofs.Slots.{Rising, entry_is, numbered_on}
use Rattle.tm_base.proofs.Facts.{all_one}
use Rattle.tm_base.specs.Limits.{max_items}

one_rises : (a : ℕ) → IsStrictlyIncreasing (a ∷ [])
one_rises a k lt = absurd (omega arith)

found_by : {X Y : Type 0} (f : X → Y) (o : Option X) (y : Y) → option_map f o ≡ Some y → (x : X) × (o ≡ Some x)
found_by f None y h = cc
found_by f (Some x) y h = (x, refl)

same_placed : {a b : Placed} → Some a ≡ Some b → a ≡ b
same_placed h = cc

is_one : (n : ℕ) → (n == 1) ≡ true → n ≡ 1
is_one n h = grind (arith, nat_tests)

module _ (m : Seen) (n0 : Numbers) (on : OnShelf m n0) (c : Change) (p : Names) (sets : SetsAttrs c p) (n : ℕ) (found : (bytes : ℕ → List ℕ) → FoundAt (items_on m bytes) (tree_on m bytes) p n)
    (row : ItemRow) (row_at : IsRowAt m.image.records n row) (passes : first_refused (attrs_tests c (is_root p) (item_attrs row.body)) ≡ None) (rules : IsItemRow (reset_row c m.tag.next row))
    (drawn : ℕ) (draws : (bytes : ℕ → List ℕ) → numbers (tree_on m bytes) c ≡ drawn) (enough : body_stamps row.body ≤ drawn) (most : m.tag.next + drawn ≤ 2 ^ 62)
    (e : Edit) (is : IsReset e n (reset_row c m.tag.next row) (m.tag.next + drawn)) where
  abbrev es : Records
  es = m.image.records

  abbrev new : ItemRow
  new = reset_row c m.tag.next row

  abbrev text : (ℕ → List ℕ) → List ℕ
  text bytes = (entry_of bytes row_at.rec).bytes

  abbrev old_item : (ℕ → List ℕ) → Item
  old_item bytes = item_with row.body (text bytes)

  abbrev new_item : (ℕ → List ℕ) → Item
  new_item bytes = set_item c m.tag.next (old_item bytes)

  range : (1 ≤ n) × (n ≤ max_items)
  range = number_low es n (λ bytes. ap is_some (found bytes).is)

  placed : (bytes : ℕ → List ℕ) → items_on m bytes n ≡ Some (placed_with (text bytes) row)
  placed bytes = row_item es n row row_at bytes on.rising range.0 range.1

  same : (bytes : ℕ → List ℕ) → (found bytes).placed ≡ placed_with (text bytes) row
  same bytes = same_placed (sym (found bytes).is ∙ placed bytes)

  pub stands : (bytes : ℕ → List ℕ) → item_at (tree_on m bytes) p ≡ Some (old_item bytes)
  stands bytes = (found bytes).stands ∙ ap (λ (x : Placed). Some x.item) (same bytes)

  pub comes : (bytes : ℕ → List ℕ) → walk (tree_on m bytes) p ≡ Ok (old_item bytes)
  comes bytes = (found bytes).walk_is ∙ ap (λ (x : Placed). Ok x.item) (same bytes)

  are : (bytes : ℕ → List ℕ) → Are (items_on m bytes) (tree_on m bytes)
  are bytes = are_on m n0 on bytes

  -- ---- the root stays included

  included : (bytes : ℕ → List ℕ) → (n == 1) ≡ true → is_excluded (new_item bytes) ≡ false
  included bytes one =
      let n_is : n ≡ 1 = is_one n one in
      let r = ((are bytes).sound 1).root refl in
      let root_is : r.placed ≡ placed_with (text bytes) row = same_placed (sym r.is ∙ ap (items_on m bytes) (sym n_is) ∙ placed bytes) in
      let top : p ≡ [] = one_path (items_on m bytes) 1 p [] (subst (λ (k : ℕ). Walks (items_on m bytes) 1 p k) n_is (found bytes).walks) refl in
      let kept = attrs_same row.body (text bytes) in
      let old_out : is_excluded (old_item bytes) ≡ false = ap (λ (x : Placed). is_excluded x.item) (sym root_is) ∙ r.root.included in
      let pass : first_refused (attrs_tests c true (attrs_of (old_item bytes))) ≡ None = (λ i. first_refused (attrs_tests c (is_root (sym top i)) (kept i))) ∙ passes in
      ap (λ a. is_some (value_of exclusion a.extra)) (set_attrs_of c m.tag.next (old_item bytes)) ∙ still_included c (attrs_of (old_item bytes)) old_out pass

  can : (bytes : ℕ → List ℕ) → CanReplace (items_on m bytes) n p (placed_with (text bytes) row) (new_item bytes)
  can bytes = record {
    stands = (found bytes).walks;
    is = placed bytes;
    folder = set_folder c m.tag.next (old_item bytes);
    included = included bytes;
  }

  -- ---- the records

  abbrev es1 : Records
  es1 = redone es n row row_at new

  abbrev rs : Records
  rs = remove_entry (is_at (nat_cmp journal_key)) es1

  s1 : Rising es1
  s1 = redone_rising es n row row_at new on.rising

  size : IsItemOfSize row_at.rec.length new
  size = record { rules = rules; size_is = reset_size c m.tag.next row_at.rec.length row.body (row_rules es n row row_at).size_is }

  records_are : changed e.remove.items e.put.items es ≡ rs
  records_are = (λ i. changed (is.remove i) (is.put i) es) ∙ ap (without (journal_key ∷ [])) (redone_puts es n row row_at new [])

  at_low : (j : ℕ) → j ≤ 2 → at j rs ≡ cond (is_at (nat_cmp j) journal_key) None (at j es)
  at_low j le = at_remove es1 journal_key j s1 ∙ ap (λ (o : Option Record). cond (is_at (nat_cmp j) journal_key) None o) (redone_low es n row row_at new j le)

  abbrev new_items : (ℕ → List ℕ) → Items
  new_items bytes = replaced_items (items_on m bytes) n (placed_with (text bytes) row) (new_item bytes)

  abbrev new_tree : (ℕ → List ℕ) → Tree
  new_tree bytes = attrs_changed (tree_on m bytes) p m.tag.next (attrs_after c)

  items_are : (bytes : ℕ → List ℕ) → items_on (after m e) bytes ≡ new_items bytes
  items_are bytes =
      let d = set_with c m.tag.next row.body (text bytes) in
      let one : items_in rs bytes ≡ items_in es1 bytes = items_without bytes es1 s1 journal_key (omega arith) in
      let two : items_in es1 bytes ≡ with_item (items_on m bytes) n (placed_with (text bytes) new) = redone_items es n row row_at new size range.0 range.1 bytes on.rising in
      ap (λ (xs : Records). items_in xs bytes) records_are ∙ one ∙ two ∙ (λ i. with_item (items_on m bytes) n (record { parent = row.parent; name = row.name; item = d i }))

  tree_set : (bytes : ℕ → List ℕ) → new_tree bytes ≡ put (tree_on m bytes) p (new_item bytes)
  tree_set bytes = changed_is_put (set_item c m.tag.next) (tree_on m bytes) p (old_item bytes) (are bytes).reads.in_order (stands bytes)

  are_after : (bytes : ℕ → List ℕ) → Are (items_on (after m e) bytes) (new_tree bytes)
  are_after bytes = subst (λ (items : Items). Are items (new_tree bytes)) (sym (items_are bytes))
      (subst (λ (t : Tree). Are (new_items bytes) t) (sym (tree_set bytes)) (replace_reads (items_on m bytes) (tree_on m bytes) n p (placed_with (text bytes) row) (new_item bytes) (are bytes) (can bytes)))

  rising_after : Rising (changed e.remove.items e.put.items es)
  rising_after = subst (λ (xs : Records). Rising xs) (sym records_are) (rising_remove es1 journal_key s1)

  head_after : at head_key (changed e.remove.items e.put.items es) ≡ at head_key es
  head_after = ap (at head_key) records_are ∙ at_low head_key (omega arith)

  -- ---- the edit

  reset_index : (bytes : ℕ → List ℕ) (old between now : Numbers) → IsIndex (items_on m bytes) old → Enters e.enter old between → Leaves e.leave between now → IsIndex (items_on (after m e) bytes) now
  reset_index bytes old between now known enters leaves =
      let a : between ≡ old = subst (λ (o : Option Entered). Enters o old between) is.enter enters in
      let b : now ≡ between = subst (λ (o : Option Left). Leaves o between now) is.leave leaves in
      subst (λ (items : Items). IsIndex items now) (sym (items_are bytes))
      (subst (λ (ns : Numbers). IsIndex (new_items bytes) ns) (sym (b ∙ a)) (index_replaces (items_on m bytes) n (placed_with (text bytes) row) (new_item bytes) old (placed bytes) known))

  pub reset_edit : IsEdit m e
  reset_edit = record {
    rising = subst (λ xs. IsStrictlyIncreasing xs) (sym is.remove) (one_rises journal_key);
    put = subst (λ (ps : List Put). All (IsPut es) ps) (sym is.put) (all_one (IsPut es) _ (kept_is_put es n row_at.rec new row_at.at_key range.1 rules));
    lengths = subst (λ (ps : List Put). All IsShortPut ps) (sym is.put) (all_one IsShortPut _ (λ n least key. tt));
    head = ap (option_map (λ (r : Record). volume_of r.meta)) head_after ∙ on.shelf.head_is;
    next_least = omega (arith, is.next_is);
    next_most = omega (arith, is.next_is, most);
    sound = λ bytes. (are_after bytes).sound;
    free = λ bytes numbers index. subst (λ (o : Option Entered). IsFree o numbers) (sym is.enter) tt;
    index_is = reset_index;
  }

  -- ---- its records keep the rules

  held : (bytes : ℕ → List ℕ) → AreGood bytes m.tag.next es → IsHeldRow e.next (redone_record es n row row_at new) new
  held bytes good = record {
    bytes = reset_data c m.tag.next row_at.rec.length row.body (row_held es n row row_at bytes m.tag.next good).bytes;
    stamp = reset_stamp c m.tag.next e.next row.body on.shelf.tagged.next_least (omega (arith, is.next_is, enough));
  }

  records_good : (bytes : ℕ → List ℕ) → AreGood bytes m.tag.next es → AreGood bytes e.next rs
  records_good bytes good = good_remove bytes e.next es1 journal_key s1
      (redone_good es n row row_at new size range.0 range.1 bytes e.next (good_later bytes m.tag.next e.next es (omega (arith, is.next_is)) good) (held bytes good))

  reset_good : (bytes : ℕ → List ℕ) → IsGood m bytes → IsGoodEdit m e bytes
  reset_good bytes good =
      let head = found_by (λ (r : Record). volume_of r.meta) (at head_key es) (Some m.head) on.shelf.head_is in
      let records : AreGood bytes e.next (changed e.remove.items e.put.items es) = subst (λ (xs : Records). AreGood bytes e.next xs) (sym records_are) (records_good bytes (good_from bytes es m.tag good.good)) in
      record {
        good = good_volume bytes (changed e.remove.items e.put.items es) (next_tag m e) refl records head.0 (head_after ∙ head.1) (are_after bytes).sound;
        fixed = ap (option_map (λ (d : Entry). paths_of d.bytes)) (entry_is bytes head_key (changed e.remove.items e.put.items es) ∙ ap (option_map (entry_of bytes)) head_after ∙ sym (entry_is bytes head_key es))
            ∙ good.fixed ∙ ap (λ (o : Option (List Names)). Some (Some (unwrap_or o m.fixed))) (sym fixed_none);
      }
    where
      fixed_none : ◌≡◌ {A = Option (List Names)} e.fixed None
      fixed_none = is.fixed

  -- ---- the volume

  reset_stored : (bytes : ℕ → List ℕ) (moment : Option ℕ) → stored_on (after m e) bytes ≡ changed_by (stored_on m bytes) c moment
  reset_stored bytes moment =
      let a = are_after bytes in
      let t : tree_on (after m e) bytes ≡ tree_after (tree_on m bytes) m.tag.next (unwrap_or moment 0) c = one_tree (items_on (after m e) bytes) (tree_on (after m e) bytes) (new_tree bytes)
      (tree_reads (placings_of (entries_on (after m e) bytes)) (numbered_on bytes (changed e.remove.items e.put.items es) rising_after) a.sound) a.reads
      ∙ tree_is (tree_on m bytes) c p m.tag.next (unwrap_or moment 0) sets in
      let f : unwrap_or e.fixed m.fixed ≡ fixed_after m.fixed c = ap (λ (o : Option (List Names)). unwrap_or o m.fixed) is.fixed ∙ fixed_is m.fixed c p sets in
      let x : e.next ≡ m.tag.next + numbers (tree_on m bytes) c = is.next_is ∙ ap (λ k. m.tag.next + k) (sym (draws bytes)) in
      let j : option_map (λ (r : Record). r.length) (at journal_key (changed e.remove.items e.put.items es)) ≡ None = ap (option_map (λ (r : Record). r.length)) (ap (at journal_key) records_are ∙ at_low journal_key (omega arith)) in
      λ i. record {
        volume = record { name = m.head.name; id = m.head.id; capacity = m.head.capacity; generation = m.tag.generation; contents = record { tree = t i; fixed = f i; next = x i } };
        clean = false;
        journal = j i;
      }

  pub reset_writes : (moment : Option ℕ) → Writes m c moment e
  reset_writes moment = record {
    edit = reset_edit;
    no_data = subst (λ (ps : List Put). BringNone ps) (sym is.put) (refl, tt);
    unstaged = λ bytes. unstaged (volume_on m bytes).contents c p sets;
    passes = λ bytes good. allowed (volume_on m bytes).contents c p moment sets (old_item bytes) (comes bytes) (stands bytes)
        (ap (λ a. first_refused (attrs_tests c (is_root p) a)) (attrs_same row.body (text bytes)) ∙ passes) (omega (arith, draws bytes, most));
    good = reset_good;
    stored = λ bytes. reset_stored bytes moment;
  }
