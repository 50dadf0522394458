-- An edit whose records are known: it can be made, and makes the volume with the new tree.
use Rattle.std.proofs.Common.{◌≡◌, ℕ, ◌^◌, ◌≤◌, false, List, refl, sym, ap, ◌∙◌, subst, Option, Some, None}
use Rattle.std.specs.Option.{option_map, unwrap_or}
use Rattle.std.specs.List.{All}
use Rattle.std.specs.List.Sorted.{IsStrictlyIncreasing}
use Rattle.tm_base.specs.Paths.{Names}
use Rattle.tm_image.specs.Commit.{changed, IsPut}
use Rattle.tm_image.specs.Reads.{Entry, entry_of}
use Rattle.tm_items.specs.Changes.{Are}
use Rattle.tm_items.specs.Index.{Numbers, IsIndex}
use Rattle.tm_items.specs.Placings.{Items}
use Rattle.tm_items.proofs.Reading.{one_tree, tree_reads}
use Rattle.tm_nodes.specs.Records.{volume_of, paths_of}
use Rattle.tm_records.specs.declared.record.Record.{Record}
use Rattle.tm_records.specs.Records.{Records, at}
use Rattle.tm_tree.specs.Trees.{Tree}
use Rattle.tm_volume.specs.declared.edit.Edit.{Edit}
use Rattle.tm_changes.specs.Changes.{with_contents}
use Rattle.tm_volume.specs.Edits.{after, next_tag, Enters, Leaves, IsFree, IsEdit, IsGoodEdit, IsShortPut}
use Rattle.tm_changes.specs.Plans.{IsGood}
use Rattle.tm_volume_records.specs.Records.{head_key, journal_key, placings_of, items_in}
use Rattle.tm_volume.specs.Seen.{Seen, entries_on, items_on, tree_on, stored_on, volume_on}
use Rattle.tm_volume_records.proofs.Slots.{Rising, entry_is, numbered_on}
use Rattle.tm_volume.proofs.Finding.{OnShelf}
use Rattle.tm_volume.proofs.GoodRecords.{AreGood, good_from, good_later, good_volume}

found_by : {X Y : Type 0} (f : X → Y) (o : Option X) (y : Y) → option_map f o ≡ Some y → (x : X) × (o ≡ Some x)
found_by f None y h = cc
found_by f (Some x) y h = (x, refl)

-- what is known of the records and the items after an edit
pub record IsRemade (m : Seen) (e : Edit) (rs : Records) (new_items : (ℕ → List ℕ) → Items) (new_tree : (ℕ → List ℕ) → Tree) : Type 0 where
  pub records : changed e.remove.items e.put.items m.image.records ≡ rs
  pub rising : Rising rs
  pub head : at head_key rs ≡ at head_key m.image.records
  pub journal : at journal_key rs ≡ None
  pub items : (bytes : ℕ → List ℕ) → items_in rs bytes ≡ new_items bytes
  pub are : (bytes : ℕ → List ℕ) → Are (new_items bytes) (new_tree bytes)
  pub good : (bytes : ℕ → List ℕ) → AreGood bytes m.tag.next m.image.records → AreGood bytes m.tag.next rs
  pub fixed : e.fixed ≡ None
  pub next_least : m.tag.next ≤ e.next
  pub next_most : e.next ≤ 2 ^ 62

module _ (m : Seen) (n0 : Numbers) (on : OnShelf m n0) (e : Edit) (rs : Records) (new_items : (ℕ → List ℕ) → Items) (new_tree : (ℕ → List ℕ) → Tree) (is : IsRemade m e rs new_items new_tree) where
  abbrev new_records : Records
  new_records = changed e.remove.items e.put.items m.image.records

  items_after : (bytes : ℕ → List ℕ) → items_on (after m e) bytes ≡ new_items bytes
  items_after bytes = ap (λ (es : Records). items_in es bytes) is.records ∙ is.items bytes

  are_after : (bytes : ℕ → List ℕ) → Are (items_on (after m e) bytes) (new_tree bytes)
  are_after bytes = subst (λ (items : Items). Are items (new_tree bytes)) (sym (items_after bytes)) (is.are bytes)

  rising_after : Rising new_records
  rising_after = subst (λ (es : Records). Rising es) (sym is.records) is.rising

  head_after : at head_key new_records ≡ at head_key m.image.records
  head_after = ap (at head_key) is.records ∙ is.head

  pub remade_edit : IsStrictlyIncreasing e.remove.items → All (IsPut m.image.records) e.put.items → All IsShortPut e.put.items
      → ((bytes : ℕ → List ℕ) (numbers : Numbers) → IsIndex (items_on m bytes) numbers → IsFree e.enter numbers)
      → ((bytes : ℕ → List ℕ) (old between new : Numbers) → IsIndex (items_on m bytes) old → Enters e.enter old between → Leaves e.leave between new → IsIndex (new_items bytes) new)
      → IsEdit m e
  remade_edit rising puts lengths free index = record {
    rising = rising;
    put = puts;
    lengths = lengths;
    head = ap (option_map (λ (r : Record). volume_of r.meta)) head_after ∙ on.shelf.head_is;
    next_least = is.next_least;
    next_most = is.next_most;
    sound = λ bytes. (are_after bytes).sound;
    free = free;
    index_is = λ bytes old between new known enters leaves. subst (λ (items : Items). IsIndex items new) (sym (items_after bytes)) (index bytes old between new known enters leaves);
  }

  pub remade_good : (bytes : ℕ → List ℕ) → IsGood m bytes → IsGoodEdit m e bytes
  remade_good bytes good =
      let head = found_by (λ (r : Record). volume_of r.meta) (at head_key m.image.records) (Some m.head) on.shelf.head_is in
      let records : AreGood bytes e.next new_records = subst (λ (es : Records). AreGood bytes e.next es) (sym is.records)
      (good_later bytes m.tag.next e.next rs is.next_least (is.good bytes (good_from bytes m.image.records m.tag good.good))) in
      record {
        good = good_volume bytes new_records (next_tag m e) refl records head.0 (head_after ∙ head.1) (are_after bytes).sound;
        fixed = ap (option_map (λ (d : Entry). paths_of d.bytes)) (entry_is bytes head_key new_records ∙ ap (option_map (entry_of bytes)) head_after ∙ sym (entry_is bytes head_key m.image.records))
            ∙ good.fixed ∙ ap (λ (o : Option (List Names)). Some (Some (unwrap_or o m.fixed))) (sym fixed_none);
      }
    where
      fixed_none : ◌≡◌ {A = Option (List Names)} e.fixed None
      fixed_none = is.fixed

  pub remade_stored : (bytes : ℕ → List ℕ) → stored_on (after m e) bytes
      ≡ record { volume = with_contents (volume_on m bytes) (record { tree = new_tree bytes; fixed = m.fixed; next = e.next }); clean = false; journal = None }
  remade_stored bytes =
      let a = are_after bytes in
      let t : tree_on (after m e) bytes ≡ new_tree bytes = one_tree (items_on (after m e) bytes) (tree_on (after m e) bytes) (new_tree bytes)
      (tree_reads (placings_of (entries_on (after m e) bytes)) (numbered_on bytes new_records rising_after) a.sound) a.reads in
      let f : unwrap_or e.fixed m.fixed ≡ m.fixed = ap (λ (o : Option (List Names)). unwrap_or o m.fixed) is.fixed in
      let j : option_map (λ (r : Record). r.length) (at journal_key new_records) ≡ None = ap (option_map (λ (r : Record). r.length)) (ap (at journal_key) is.records ∙ is.journal) in
      λ i. record {
        volume = record { name = m.head.name; id = m.head.id; capacity = m.head.capacity; generation = m.tag.generation; contents = record { tree = t i; fixed = f i; next = e.next } };
        clean = false;
        journal = j i;
      }
