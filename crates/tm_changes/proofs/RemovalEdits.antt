-- The edit that removes an item can be made, and makes the volume without it.
use Rattle.std.proofs.Common.{◌≡◌, ℕ, zero, suc, ◌+◌, ◌^◌, ◌<◌, ◌≤◌, ◌==◌, Bool, true, false, cond, List, [], ◌∷◌, refl, sym, ap, ◌∙◌, subst, Option, Some, None, is_some, arith}
use Rattle.std.specs.Ordering.{nat_cmp}
use Rattle.std.specs.BTreeMap.{is_at}
use Rattle.std.specs.List.{All}
use Rattle.std.specs.List.Sorted.{IsStrictlyIncreasing}
use Rattle.std.specs.Map.{remove_entry}
use Rattle.std.proofs.lemmas.Bool.Decides.{nat_tests}
use Rattle.tm_base.specs.Days.{last_moment}
use Rattle.tm_base.specs.Paths.{Names, parent_of}
use Rattle.tm_records.specs.declared.record.Put.{Put}
use Rattle.tm_records.specs.declared.record.Record.{Record}
use Rattle.tm_records.specs.Removes.{without}
use Rattle.tm_records.specs.Records.{Records, at}
use Rattle.tm_image.specs.Commit.{changed, IsPut}
use Rattle.tm_image.specs.Reads.{entry_of}
use Rattle.tm_items.specs.Changes.{Are, CanRemove, removed_items, date_item, date_placed, with_item, without_item}
use Rattle.tm_items.specs.Index.{Numbers, SetsAt}
use Rattle.tm_items.specs.Placings.{Placed, Items, Walks}
use Rattle.tm_items.specs.Places.{place_in}
use Rattle.tm_items.proofs.Indexing.{index_removes}
use Rattle.tm_items.proofs.Changing.{remove_reads}
use Rattle.tm_nodes.specs.Items.{IsItemOfSize}
use Rattle.tm_tree.specs.declared.change.Change.{Change}
use Rattle.tm_tree.specs.declared.change.Change.TheVariants as change
use Rattle.tm_tree.specs.Changes.{remove_at}
use Rattle.tm_tree.specs.Items.{dated}
use Rattle.tm_volume.specs.declared.edit.Edit.{Edit}
use Rattle.tm_volume.specs.declared.edit.Entered.{Entered}
use Rattle.tm_volume.specs.declared.edit.Left.{Left}
use Rattle.tm_changes.specs.Changes.{changed as changed_by, with_contents}
use Rattle.tm_volume.specs.Edits.{after, Enters, Leaves, IsFree, IsEdit, IsGoodEdit, IsShortPut}
use Rattle.tm_changes.specs.Placing.{dated_row}
use Rattle.tm_changes.specs.Plans.{BringNone, IsGood}
use Rattle.tm_volume_records.specs.Records.{head_key, journal_key, item_key, placed_with, items_in}
use Rattle.tm_changes.specs.Removals.{IsRemoval, IsLoose, Removes}
use Rattle.tm_changes.specs.Fitting.{staged_len}
use Rattle.tm_volume.specs.Seen.{Seen, items_on, tree_on, stored_on, volume_on}
use Rattle.tm_changes.proofs.StandingItems as held
use Rattle.tm_volume_records.proofs.Slots.{Rising}
use Rattle.tm_volume.proofs.Finding.{OnShelf, are_on}
use Rattle.tm_volume.proofs.Changing.{at_remove, rising_remove, items_remove, items_without}
use Rattle.tm_volume.proofs.GoodRecords.{good_remove}
use Rattle.tm_changes.proofs.ItemRecords.{apart_low, row_item, redone, redone_puts, redone_rising, redone_low, kept_is_put, dated_rules, dated_good, dated_items}
use Rattle.tm_changes.proofs.KnownEdits.{IsRemade, remade_edit, remade_good, remade_stored}
use Rattle.tm_base.proofs.Facts.{false_true, all_one}
use Rattle.tm_base.specs.Limits.{max_items}

itself : (x : ℕ) → (x == x) ≡ true
itself x = grind (arith, nat_tests)

number_is : (a b : ℕ) → (a == b) ≡ true → a ≡ b
number_is a b h = grind (arith, nat_tests)

two_rise : (a b : ℕ) → a < b → IsStrictlyIncreasing (a ∷ b ∷ [])
two_rise a b lt zero h = lt
two_rise a b lt (suc k) h = absurd (omega (arith, h))

-- without n and with k dated, in either order
orders : (a b : Bool) (u v : Option Placed) → (a ≡ true → b ≡ true → ⊥) → cond a None (cond b u v) ≡ cond b u (cond a None v)
orders true true u v h = absurd (h refl refl)
orders true false u v h = refl
orders false true u v h = refl
orders false false u v h = refl

dated_without : (items : Items) (n k moment : ℕ) (y : Placed) → (k == n) ≡ false → items k ≡ Some y → without_item (date_item items k moment) n ≡ date_item (without_item items n) k moment
dated_without items n k moment y far is =
    let z : Placed = record { parent = y.parent; name = y.name; item = dated y.item moment } in
    let one : date_item items k moment ≡ with_item items k z = ap (λ (o : Option Placed). date_placed o items k moment) is in
    let still : without_item items n k ≡ Some y = ap (λ b. cond b None (items k)) far ∙ is in
    let two : date_item (without_item items n) k moment ≡ with_item (without_item items n) k z = ap (λ (o : Option Placed). date_placed o (without_item items n) k moment) still in
    let each : (m : ℕ) → without_item (with_item items k z) n m ≡ with_item (without_item items n) k z m = λ m.
    orders (m == n) (m == k) (Some z) (items m) (λ a b. false_true (sym far ∙ ap (λ (x : ℕ). k == x) (sym (number_is m n a) ∙ number_is m k b) ∙ itself k)) in
    ap (λ (s : Items). without_item s n) one ∙ (λ i m. each m i) ∙ sym two

module _ (m : Seen) (n0 : Numbers) (on : OnShelf m n0) (p : Names) (n moment next : ℕ) (loose : IsLoose m p n) (e : Edit) (is : Removes m p n moment e) (low : moment ≤ last_moment)
    (next_is : e.next ≡ next) (next_least : m.tag.next ≤ next) (next_most : next ≤ 2 ^ 62) where
  abbrev es : Records
  es = m.image.records

  abbrev k : ℕ
  k = is.old.parent

  are : (bytes : ℕ → List ℕ) → Are (items_on m bytes) (tree_on m bytes)
  are bytes = are_on m n0 on bytes

  range : (1 ≤ n) × (n ≤ max_items)
  range = held.range m n0 on p n loose.found

  placed : (bytes : ℕ → List ℕ) → items_on m bytes n ≡ Some (placed_with (entry_of bytes is.old_at.rec).bytes is.old)
  placed = held.placed m n0 on p n loose.found loose.below is.old is.old_at

  folder_walks : (bytes : ℕ → List ℕ) → Walks (items_on m bytes) 1 (parent_of p) k
  folder_walks = held.folder_walks m n0 on p n loose.found loose.below is.old is.old_at

  folder_range : (1 ≤ k) × (k ≤ max_items)
  folder_range = held.folder_range m n0 on p n loose.found loose.below is.old is.old_at

  not_root : (n == 1) ≡ false
  not_root = held.not_root m n0 on p n loose.found loose.below is.old is.old_at

  far : (k == n) ≡ false
  far = loose.empty (λ _. []) n (placed_with (entry_of (λ _. []) is.old_at.rec).bytes is.old) (placed (λ _. [])) not_root

  can : (bytes : ℕ → List ℕ) → CanRemove (items_on m bytes) (tree_on m bytes) p n k
  can bytes = record {
    stands = (loose.found bytes).walks;
    below = loose.below;
    there = ap is_some (loose.found bytes).stands;
    folder = folder_walks bytes;
    empty = loose.empty bytes;
  }

  -- ---- the records

  abbrev es1 : Records
  es1 = redone es k is.folder is.folder_at (dated_row is.folder moment)

  abbrev es2 : Records
  es2 = remove_entry (is_at (nat_cmp journal_key)) es1

  abbrev es3 : Records
  es3 = remove_entry (is_at (nat_cmp (item_key n))) es2

  s1 : Rising es1
  s1 = redone_rising es k is.folder is.folder_at (dated_row is.folder moment) on.rising

  s2 : Rising es2
  s2 = rising_remove es1 journal_key s1

  records_are : changed e.remove.items e.put.items es ≡ es3
  records_are = (λ i. changed (is.remove i) (is.put i) es) ∙ ap (without (journal_key ∷ item_key n ∷ [])) (redone_puts es k is.folder is.folder_at (dated_row is.folder moment) [])

  at_low : (j : ℕ) → j ≤ 2 → at j es3 ≡ cond (is_at (nat_cmp j) journal_key) None (at j es)
  at_low j le = at_remove es2 (item_key n) j s2 ∙ ap (λ b. cond b None (at j es2)) (apart_low j n le) ∙ at_remove es1 journal_key j s1
      ∙ ap (λ (o : Option Record). cond (is_at (nat_cmp j) journal_key) None o) (redone_low es k is.folder is.folder_at (dated_row is.folder moment) j le)

  sized : IsItemOfSize is.folder_at.rec.length (dated_row is.folder moment)
  sized = dated_rules es k is.folder is.folder_at moment low

  items_are : (bytes : ℕ → List ℕ) → items_in es3 bytes ≡ removed_items (items_on m bytes) n k moment
  items_are bytes =
      items_remove bytes es2 s2 n range.0 range.1
      ∙ ap (λ (s : Items). without_item s n) (items_without bytes es1 s1 journal_key (omega arith) ∙ dated_items es k is.folder is.folder_at moment low bytes on.rising folder_range.0 folder_range.1)
      ∙ dated_without (items_on m bytes) n k moment (placed_with (entry_of bytes is.folder_at.rec).bytes is.folder) far (row_item es k is.folder is.folder_at bytes on.rising folder_range.0 folder_range.1)

  remade : IsRemade m e es3 (λ bytes. removed_items (items_on m bytes) n k moment) (λ bytes. remove_at (tree_on m bytes) p moment)
  remade = record {
    records = records_are;
    rising = rising_remove es2 (item_key n) s2;
    head = at_low head_key (omega arith);
    journal = at_low journal_key (omega arith);
    items = items_are;
    are = λ bytes. remove_reads (items_on m bytes) (tree_on m bytes) p n k moment (are bytes) (can bytes);
    good = λ bytes good. good_remove bytes m.tag.next es2 (item_key n) s2 (good_remove bytes m.tag.next es1 journal_key s1
        (dated_good es k is.folder is.folder_at moment low bytes m.tag.next folder_range.0 folder_range.1 good));
    fixed = is.fixed;
    next_least = omega (arith, next_is, next_least);
    next_most = omega (arith, next_is, next_most);
  }

  pub removal_edit : IsEdit m e
  removal_edit = remade_edit m n0 on e es3 (λ bytes. removed_items (items_on m bytes) n k moment) (λ bytes. remove_at (tree_on m bytes) p moment) remade
      (subst (λ xs. IsStrictlyIncreasing xs) (sym is.remove) (two_rise journal_key (item_key n) (omega arith)))
      (subst (λ (ps : List Put). All (IsPut es) ps) (sym is.put) (all_one (IsPut es) _ (kept_is_put es k is.folder_at.rec (dated_row is.folder moment) is.folder_at.at_key folder_range.1 sized.rules)))
      (subst (λ (ps : List Put). All IsShortPut ps) (sym is.put) (all_one IsShortPut _ (λ a least key. tt)))
      (λ bytes numbers index. subst (λ (o : Option Entered). IsFree o numbers) (sym is.enter) tt)
      (λ bytes old between new index enters leaves.
      let same : between ≡ old = subst (λ (o : Option Entered). Enters o old between) is.enter enters in
      let left : SetsAt (place_in k p) None between new = subst (λ (o : Option Left). Leaves o between new) is.leave leaves in
      index_removes (items_on m bytes) (tree_on m bytes) p n k moment old new (are bytes) (can bytes) index (subst (λ (ns : Numbers). SetsAt (place_in k p) None ns new) same left))

  pub removal_no_data : BringNone e.put.items
  removal_no_data = subst (λ (ps : List Put). BringNone ps) (sym is.put) (refl, tt)

  pub removal_good : (bytes : ℕ → List ℕ) → IsGood m bytes → IsGoodEdit m e bytes
  removal_good = remade_good m n0 on e es3 (λ bytes. removed_items (items_on m bytes) n k moment) (λ bytes. remove_at (tree_on m bytes) p moment) remade

  pub removal_stored : (bytes : ℕ → List ℕ) → stored_on (after m e) bytes
      ≡ record { volume = with_contents (volume_on m bytes) (record { tree = remove_at (tree_on m bytes) p moment; fixed = m.fixed; next = next }); clean = false; journal = None }
  removal_stored bytes = remade_stored m n0 on e es3 (λ bytes. removed_items (items_on m bytes) n k moment) (λ bytes. remove_at (tree_on m bytes) p moment) remade bytes
      ∙ (λ i. record { volume = with_contents (volume_on m bytes) (record { tree = remove_at (tree_on m bytes) p moment; fixed = m.fixed; next = next_is i }); clean = false; journal = None })

-- ---- as a change

pub removal_unstaged : (m : Seen) (bytes : ℕ → List ℕ) (c : Change) (p : Names) → IsRemoval c p → staged_len (volume_on m bytes).contents c ≡ 0
removal_unstaged m bytes (change.Rm q) p is = refl
removal_unstaged m bytes (change.Rmdir q) p is = refl
removal_unstaged m bytes other p is = absurd is

pub removal_changed : (m : Seen) (bytes : ℕ → List ℕ) (c : Change) (p : Names) (moment : ℕ) → IsRemoval c p
    → record { volume = with_contents (volume_on m bytes) (record { tree = remove_at (tree_on m bytes) p moment; fixed = m.fixed; next = m.tag.next + 1 }); clean = false; journal = None }
    ≡ changed_by (stored_on m bytes) c (Some moment)
removal_changed m bytes (change.Rm q) p moment is =
    λ i. record { volume = with_contents (volume_on m bytes) (record { tree = remove_at (tree_on m bytes) (sym is i) moment; fixed = m.fixed; next = m.tag.next + 1 }); clean = false; journal = None }
removal_changed m bytes (change.Rmdir q) p moment is =
    λ i. record { volume = with_contents (volume_on m bytes) (record { tree = remove_at (tree_on m bytes) (sym is i) moment; fixed = m.fixed; next = m.tag.next + 1 }); clean = false; journal = None }
removal_changed m bytes other p moment is = absurd is
