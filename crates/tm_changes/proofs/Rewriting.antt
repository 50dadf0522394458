-- The edit of a file that stands, once it brings a blob.
use Rattle.std.proofs.Common.{◌≡◌, inr, ℕ, zero, suc, ◌+◌, ◌^◌, ◌<◌, ◌≤◌, ◌==◌, true, false, cond, List, [], ◌∷◌, refl, sym, ap, ◌∙◌, subst, Option, Some, None, is_some, arith}
use Rattle.std.specs.Prelude.{unwrap_or}
use Rattle.std.specs.Option.{option_map}
use Rattle.std.specs.Ordering.{nat_cmp}
use Rattle.std.specs.BTreeMap.{is_at, insert_entry}
use Rattle.std.specs.List.{All}
use Rattle.std.specs.List.Sorted.{IsStrictlyIncreasing}
use Rattle.std.specs.Map.{remove_entry}
use Rattle.std.proofs.lemmas.Bool.Decides.{nat_tests}
use Rattle.tm_base.specs.Paths.{Names, parent_of}
use Rattle.tm_chain.specs.Blob.{blob_len, bytes_in}
use Rattle.tm_image.specs.Commit.{changed, IsPut}
use Rattle.tm_image.specs.Reads.{Entry, entry_of}
use Rattle.tm_items.specs.Changes.{Are, CanReplace, replaced_items, with_item}
use Rattle.tm_items.specs.Finding.{FoundAt}
use Rattle.tm_items.specs.Index.{Numbers, IsIndex}
use Rattle.tm_items.specs.Placings.{Placed, Items}
use Rattle.tm_items.proofs.Indexing.{index_replaces}
use Rattle.tm_items.proofs.Reading.{number_decides, one_tree, tree_reads}
use Rattle.tm_items.proofs.Replacing.{replace_reads}
use Rattle.tm_nodes.specs.Items.{item_text, IsItemOfSize}
use Rattle.tm_nodes.specs.Records.{volume_of, paths_of}
use Rattle.tm_records.specs.declared.record.Body.TheVariants.{Empty, New}
use Rattle.tm_records.specs.declared.record.Put.{Put}
use Rattle.tm_records.specs.declared.record.Record.{Record}
use Rattle.tm_records.specs.Records.{Records, at}
use Rattle.tm_tree.specs.declared.attrs.Attrs.{Attrs}
use Rattle.tm_tree.specs.declared.item.Item.{Item}
use Rattle.tm_tree.specs.declared.item.Item.TheVariants as item
use Rattle.tm_tree.specs.declared.node.LeafRow.TheVariants as leaf
use Rattle.tm_tree.specs.declared.record.ItemBody.TheVariants as body
use Rattle.tm_tree.specs.declared.record.ItemRow.{ItemRow}
use Rattle.tm_tree.specs.Changes.{most_bytes, written, write_at}
use Rattle.tm_tree.specs.Items.{is_folder}
use Rattle.tm_tree.specs.Refusing.{first_refused}
use Rattle.tm_tree.specs.Trees.{Tree, item_at, put, touch}
use Rattle.tm_world.specs.declared.bytes.Blob.{Blob}
use Rattle.tm_volume.specs.declared.edit.Edit.{Edit}
use Rattle.tm_volume.specs.declared.edit.Entered.{Entered}
use Rattle.tm_volume.specs.declared.edit.Left.{Left}
use Rattle.tm_volume.specs.Edits.{after, next_tag, Enters, Leaves, IsFree, IsEdit, IsGoodEdit, IsShortPut}
use Rattle.tm_changes.specs.Placing.{IsRowAt}
use Rattle.tm_changes.specs.Plans.{IsGood}
use Rattle.tm_volume_records.specs.Records.{head_key, journal_key, item_key, placed_with, placings_of, items_in}
use Rattle.tm_volume.specs.Seen.{Seen, entries_on, items_on, tree_on, stored_on, volume_on}
use Rattle.tm_changes.specs.Writes.{written_stored, write_tests, redone_file_row, brings_first, IsBringing, IsBlobOf, WritesFile}
use Rattle.tm_volume.proofs.Changing.{at_insert, at_remove, rising_insert, rising_remove, items_put, items_without}
use Rattle.tm_volume.proofs.Finding.{OnShelf, are_on}
use Rattle.tm_volume.proofs.GoodRecords.{AreGood, good_from, good_later, good_put, good_remove, good_volume}
use Rattle.tm_volume.proofs.Metas.{meta_short}
use Rattle.tm_changes.proofs.Placing.{IsSpelledRow, IsHeldRow, spelled_item, spelled_placed}
use Rattle.tm_changes.proofs.ItemRecords.{row_item}
use Rattle.tm_volume.proofs.Rows.{number_low}
use Rattle.tm_volume_records.proofs.Slots.{Rising, entry_is, numbered_on}
use Rattle.tm_base.proofs.Facts.{false_true, all_one}
use Rattle.tm_base.specs.Limits.{max_items}

one_rises : (a : ℕ) → IsStrictlyIncreasing (a ∷ [])
one_rises a k lt = absurd (omega arith)

found_by : {X Y : Type 0} (f : X → Y) (o : Option X) (y : Y) → option_map f o ≡ Some y → (x : X) × (o ≡ Some x)
found_by f None y h = cc
found_by f (Some x) y h = (x, refl)

same_placed : {a b : Placed} → Some a ≡ Some b → a ≡ b
same_placed h = cc

is_one : (n : ℕ) → (n == 1) ≡ true → n ≡ 1
is_one n h = grind (arith, nat_tests)

apart_low : (j n : ℕ) → j ≤ 2 → is_at (nat_cmp j) (item_key n) ≡ false
apart_low j n low = elim (is_at (nat_cmp j) (item_key n)) as (λ b. is_at (nat_cmp j) (item_key n) ≡ b → b ≡ false) [
  | true ↦ λ here. let same : j ≡ item_key n = (number_decides j (item_key n)).0 here in absurd (omega arith)
  | false ↦ λ _. refl
] refl

-- writing where a file stands keeps its attributes but for the date
pub writes_again : (t : Tree) (p : Names) (moment stamp was : ℕ) (attrs : Attrs) (text bytes : List ℕ) → item_at t p ≡ Some (item.File attrs was text)
    → write_at t p moment stamp bytes ≡ put t p (item.File (record attrs { modified = moment }) stamp bytes)
writes_again t p moment stamp was attrs text bytes stands = ap (λ (o : Option Item). cond (is_some o) (put t p (written o moment stamp bytes)) (touch (put t p (written o moment stamp bytes)) (parent_of p) moment)) stands

abbrev pub file_row : ℕ → Option (List ℕ) → Attrs → ℕ → ℕ → ItemRow
file_row parent name attrs stamp count = record { parent = parent; name = name; body = body.Leaf (leaf.File attrs stamp count) }

-- what was seen to for a file that stands and gets so many bytes
pub record IsOldFile (m : Seen) (e : Edit) (p : Names) (n moment size : ℕ) (row : ItemRow) (attrs : Attrs) : Type 0 where
  pub row_at : IsRowAt m.image.records n row
  pub found : (bytes : ℕ → List ℕ) → FoundAt (items_on m bytes) (tree_on m bytes) p n
  pub put_is : e.put.items ≡ record { key = item_key n; meta = item_text (redone_file_row row attrs moment m.tag.next size); body = Empty } ∷ []
  pub remove : e.remove.items ≡ journal_key ∷ []
  pub enter : e.enter ≡ None
  pub leave : e.leave ≡ None
  pub fixed : e.fixed ≡ None
  pub next_is : e.next ≡ m.tag.next + 2
  pub rules : IsItemOfSize size (redone_file_row row attrs moment m.tag.next size)
  pub small : size ≤ most_bytes
  pub next_most : m.tag.next + 2 ≤ 2 ^ 62

module _ (m : Seen) (n0 : Numbers) (on : OnShelf m n0) (e0 : Edit) (p : Names) (n moment size parent was count : ℕ) (name : Option (List ℕ)) (attrs : Attrs)
    (asked : IsOldFile m e0 p n moment size (file_row parent name attrs was count) attrs) where
  abbrev es : Records
  es = m.image.records

  abbrev row : ItemRow
  row = file_row parent name attrs was count

  abbrev new : ItemRow
  new = file_row parent name (record attrs { modified = moment }) m.tag.next size

  abbrev text : (ℕ → List ℕ) → List ℕ
  text bytes = (entry_of bytes asked.row_at.rec).bytes

  range : (1 ≤ n) × (n ≤ max_items)
  range = number_low es n (λ bytes. ap is_some (asked.found bytes).is)

  placed : (bytes : ℕ → List ℕ) → items_on m bytes n ≡ Some (placed_with (text bytes) row)
  placed bytes = row_item es n row asked.row_at bytes on.rising range.0 range.1

  stands : (bytes : ℕ → List ℕ) → item_at (tree_on m bytes) p ≡ Some (item.File attrs was (text bytes))
  stands bytes = (asked.found bytes).stands ∙ ap (λ (x : Placed). Some x.item) (same_placed (sym (asked.found bytes).is ∙ placed bytes))

  are : (bytes : ℕ → List ℕ) → Are (items_on m bytes) (tree_on m bytes)
  are bytes = are_on m n0 on bytes

  -- a file isn't the root
  not_root : {P : Type 0} → (n == 1) ≡ true → P
  not_root one =
      let none : ℕ → List ℕ = λ _. [] in
      let r = ((are none).sound 1).root refl in
      let root_is : r.placed ≡ placed_with (text none) row = same_placed (sym r.is ∙ ap (items_on m none) (sym (is_one n one)) ∙ placed none) in
      false_true (ap (λ (x : Placed). is_folder x.item) (sym root_is) ∙ r.root.folder)

  module _ (blob : Blob) (e : Edit) (b : IsBringing e0 e blob) (of : IsBlobOf blob size) where
    abbrev first : Record
    first = record { meta = item_text new; length = blob.length; blocks = blob.blocks }

    abbrev es1 : Records
    es1 = insert_entry nat_cmp es (item_key n) first

    abbrev rs : Records
    rs = remove_entry (is_at (nat_cmp journal_key)) es1

    s1 : Rising es1
    s1 = rising_insert es (item_key n) first on.rising

    put_is : e.put.items ≡ record { key = item_key n; meta = item_text new; body = New blob } ∷ []
    put_is = b.put ∙ ap (brings_first blob) asked.put_is

    remove_is : e.remove.items ≡ journal_key ∷ []
    remove_is = b.remove ∙ asked.remove

    next_is : e.next ≡ m.tag.next + 2
    next_is = b.next ∙ asked.next_is

    records_are : changed e.remove.items e.put.items es ≡ rs
    records_are = λ i. changed (remove_is i) (put_is i) es

    spelled : IsSpelledRow first new
    spelled = record { meta = refl; rules = subst (λ (x : ℕ). IsItemOfSize x new) (sym of.size_is) asked.rules }

    at_low : (j : ℕ) → j ≤ 2 → at j rs ≡ cond (is_at (nat_cmp j) journal_key) None (at j es)
    at_low j le = at_remove es1 journal_key j s1
        ∙ ap (λ (o : Option Record). cond (is_at (nat_cmp j) journal_key) None o) (at_insert es (item_key n) first j ∙ ap (λ x. cond x (Some first) (at j es)) (apart_low j n le))

    abbrev new_item : (ℕ → List ℕ) → Item
    new_item bytes = item.File (record attrs { modified = moment }) m.tag.next (bytes_in blob.blocks bytes 0 blob.length)

    abbrev new_items : (ℕ → List ℕ) → Items
    new_items bytes = replaced_items (items_on m bytes) n (placed_with (text bytes) row) (new_item bytes)

    abbrev new_tree : (ℕ → List ℕ) → Tree
    new_tree bytes = write_at (tree_on m bytes) p moment m.tag.next (bytes_in blob.blocks bytes 0 blob.length)

    can : (bytes : ℕ → List ℕ) → CanReplace (items_on m bytes) n p (placed_with (text bytes) row) (new_item bytes)
    can bytes = record { stands = (asked.found bytes).walks; is = placed bytes; folder = refl; included = λ one. not_root one }

    items_are : (bytes : ℕ → List ℕ) → items_on (after m e) bytes ≡ new_items bytes
    items_are bytes =
        let one : items_in rs bytes ≡ items_in es1 bytes = items_without bytes es1 s1 journal_key (omega arith) in
        let two : items_in es1 bytes ≡ with_item (items_on m bytes) n (placed_with (entry_of bytes first).bytes new) = items_put bytes es on.rising n range.0 range.1 first (placed_with (entry_of bytes first).bytes new) (spelled_placed bytes first new spelled) in
        ap (λ (xs : Records). items_in xs bytes) records_are ∙ one ∙ two

    tree_is : (bytes : ℕ → List ℕ) → new_tree bytes ≡ put (tree_on m bytes) p (new_item bytes)
    tree_is bytes = writes_again (tree_on m bytes) p moment m.tag.next was attrs (text bytes) (bytes_in blob.blocks bytes 0 blob.length) (stands bytes)

    are_after : (bytes : ℕ → List ℕ) → Are (items_on (after m e) bytes) (new_tree bytes)
    are_after bytes = subst (λ (items : Items). Are items (new_tree bytes)) (sym (items_are bytes))
        (subst (λ (t : Tree). Are (new_items bytes) t) (sym (tree_is bytes)) (replace_reads (items_on m bytes) (tree_on m bytes) n p (placed_with (text bytes) row) (new_item bytes) (are bytes) (can bytes)))

    rising_after : Rising (changed e.remove.items e.put.items es)
    rising_after = subst (λ (xs : Records). Rising xs) (sym records_are) (rising_remove es1 journal_key s1)

    head_after : at head_key (changed e.remove.items e.put.items es) ≡ at head_key es
    head_after = ap (at head_key) records_are ∙ at_low head_key (omega arith)

    -- ---- the edit

    index_after : (bytes : ℕ → List ℕ) (old between now : Numbers) → IsIndex (items_on m bytes) old → Enters e.enter old between → Leaves e.leave between now → IsIndex (items_on (after m e) bytes) now
    index_after bytes old between now known enters leaves =
        let x : between ≡ old = subst (λ (o : Option Entered). Enters o old between) (b.enter ∙ asked.enter) enters in
        let y : now ≡ between = subst (λ (o : Option Left). Leaves o between now) (b.leave ∙ asked.leave) leaves in
        subst (λ (items : Items). IsIndex items now) (sym (items_are bytes))
        (subst (λ (ns : Numbers). IsIndex (new_items bytes) ns) (sym (y ∙ x)) (index_replaces (items_on m bytes) n (placed_with (text bytes) row) (new_item bytes) old (placed bytes) known))

    first_put : IsPut es (record { key = item_key n; meta = item_text new; body = New blob })
    first_put = record { can = tt; key = fits_key n range.1; meta = meta_short new asked.rules.rules; filled = of.many ∙ ap blob_len (sym of.size_is) }
      where
        fits_key : (a : ℕ) → a ≤ max_items → 2 ^ 62 + a < 2 ^ 64
        fits_key a le = omega arith

    is_edit : IsEdit m e
    is_edit = record {
      rising = subst (λ xs. IsStrictlyIncreasing xs) (sym remove_is) (one_rises journal_key);
      put = subst (λ (ps : List Put). All (IsPut es) ps) (sym put_is) (all_one (IsPut es) _ first_put);
      lengths = subst (λ (ps : List Put). All IsShortPut ps) (sym put_is) (all_one IsShortPut _ (λ n least key. omega (arith, of.size_is, asked.small)));
      head = ap (option_map (λ (r : Record). volume_of r.meta)) head_after ∙ on.shelf.head_is;
      next_least = omega (arith, next_is);
      next_most = omega (arith, next_is, asked.next_most);
      sound = λ bytes. (are_after bytes).sound;
      free = λ bytes numbers index. subst (λ (o : Option Entered). IsFree o numbers) (sym (b.enter ∙ asked.enter)) tt;
      index_is = index_after;
    }

    -- ---- its records keep the rules

    held : IsHeldRow e.next first new
    held = record { bytes = omega (arith, of.size_is, asked.small); stamp = (on.shelf.tagged.next_least, omega (arith, next_is)) }

    records_good : (bytes : ℕ → List ℕ) → AreGood bytes m.tag.next es → AreGood bytes e.next rs
    records_good bytes good = good_remove bytes e.next es1 journal_key s1
        (good_put bytes e.next es (item_key n) first (good_later bytes m.tag.next e.next es (omega (arith, next_is)) good) (inr (inr (n, range.0, range.1, refl, spelled_item bytes first new spelled e.next held))))

    is_good : (bytes : ℕ → List ℕ) → IsGood m bytes → IsGoodEdit m e bytes
    is_good bytes good =
        let head = found_by (λ (r : Record). volume_of r.meta) (at head_key es) (Some m.head) on.shelf.head_is in
        let records : AreGood bytes e.next (changed e.remove.items e.put.items es) = subst (λ (xs : Records). AreGood bytes e.next xs) (sym records_are) (records_good bytes (good_from bytes es m.tag good.good)) in
        record {
          good = good_volume bytes (changed e.remove.items e.put.items es) (next_tag m e) refl records head.0 (head_after ∙ head.1) (are_after bytes).sound;
          fixed = ap (option_map (λ (d : Entry). paths_of d.bytes)) (entry_is bytes head_key (changed e.remove.items e.put.items es) ∙ ap (option_map (entry_of bytes)) head_after ∙ sym (entry_is bytes head_key es))
              ∙ good.fixed ∙ ap (λ (o : Option (List Names)). Some (Some (unwrap_or o m.fixed))) (sym fixed_none);
        }
      where
        fixed_none : ◌≡◌ {A = Option (List Names)} e.fixed None
        fixed_none = b.fixed ∙ asked.fixed

    -- ---- the volume

    is_stored : (bytes : ℕ → List ℕ) → stored_on (after m e) bytes ≡ written_stored (stored_on m bytes) p moment (bytes_in blob.blocks bytes 0 blob.length)
    is_stored bytes =
        let a = are_after bytes in
        let t : tree_on (after m e) bytes ≡ new_tree bytes = one_tree (items_on (after m e) bytes) (tree_on (after m e) bytes) (new_tree bytes)
        (tree_reads (placings_of (entries_on (after m e) bytes)) (numbered_on bytes (changed e.remove.items e.put.items es) rising_after) a.sound) a.reads in
        let f : unwrap_or e.fixed m.fixed ≡ m.fixed = ap (λ (o : Option (List Names)). unwrap_or o m.fixed) (b.fixed ∙ asked.fixed) in
        let x = next_is in
        let j : option_map (λ (r : Record). r.length) (at journal_key (changed e.remove.items e.put.items es)) ≡ None = ap (option_map (λ (r : Record). r.length)) (ap (at journal_key) records_are ∙ at_low journal_key (omega arith)) in
        λ i. record {
          volume = record { name = m.head.name; id = m.head.id; capacity = m.head.capacity; generation = m.tag.generation; contents = record { tree = t i; fixed = f i; next = x i } };
          clean = false;
          journal = j i;
        }

  pub rewrites_file : ((bytes : ℕ → List ℕ) → IsGood m bytes → first_refused (write_tests (volume_on m bytes).contents p size (Some moment)) ≡ None) → WritesFile m p size (Some moment) e0
  rewrites_file passes = record {
    first = record { key = item_key n; meta = item_text new; body = Empty };
    rest = [];
    put = asked.put_is;
    no_data = tt;
    passes = passes;
    edit = λ blob e b of. is_edit blob e b of;
    good = λ blob e b of bytes good. is_good blob e b of bytes good;
    stored = λ blob e b of bytes. is_stored blob e b of bytes;
  }
