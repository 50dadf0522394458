-- The edit that moves an item can be made, and makes the volume with it in its new place.
use Rattle.std.proofs.Common.{◌≡◌, ℕ, zero, suc, ◌^◌, ◌≤◌, ◌==◌, true, false, cond, List, [], ◌∷◌, refl, sym, ap, ◌∙◌, subst, Option, Some, None, IsSome, is_some, arith, append-nil}
use Rattle.std.specs.Ordering.{nat_cmp}
use Rattle.std.specs.BTreeMap.{is_at}
use Rattle.std.specs.List.{All}
use Rattle.std.specs.List.Sorted.{IsStrictlyIncreasing}
use Rattle.std.specs.Map.{remove_entry}
use Rattle.std.proofs.lemmas.Bool.Decides.{nat_tests}
use Rattle.tm_base.specs.Days.{last_moment}
use Rattle.tm_base.specs.IsName.{IsName}
use Rattle.tm_base.specs.Paths.{Names, parent_of, is_prefix}
use Rattle.tm_base.proofs.PathLemmas.{is_prefix_of_append}
use Rattle.tm_records.specs.declared.record.Body.TheVariants.{Kept}
use Rattle.tm_records.specs.declared.record.Put.{Put}
use Rattle.tm_records.specs.declared.record.Record.{Record}
use Rattle.tm_records.specs.Puts.{with_puts}
use Rattle.tm_records.specs.Removes.{without}
use Rattle.tm_records.specs.Records.{Records, at}
use Rattle.tm_image.specs.Commit.{changed, IsPut}
use Rattle.tm_image.specs.Reads.{entry_of}
use Rattle.tm_items.specs.Changes.{Are, CanMove, moved_items, date_item}
use Rattle.tm_items.specs.Index.{Numbers, SetsAt}
use Rattle.tm_items.specs.Placings.{Placed, Items, Walks}
use Rattle.tm_items.specs.Places.{place_in}
use Rattle.tm_items.proofs.Walking.{one_path}
use Rattle.tm_items.proofs.Parents.{above_parent, own_parent}
use Rattle.tm_items.proofs.Indexing.{index_moves}
use Rattle.tm_items.proofs.Finding.{place_free}
use Rattle.tm_items.proofs.Changing.{move_reads}
use Rattle.tm_nodes.specs.Items.{item_text, IsItemOfSize}
use Rattle.tm_tree.specs.declared.record.ItemRow.{ItemRow}
use Rattle.tm_tree.specs.Changes.{move_to}
use Rattle.tm_tree.specs.Trees.{last_of}
use Rattle.tm_volume.specs.declared.edit.Edit.{Edit}
use Rattle.tm_volume.specs.declared.edit.Entered.{Entered}
use Rattle.tm_volume.specs.declared.edit.Left.{Left}
use Rattle.tm_changes.specs.Changes.{with_contents}
use Rattle.tm_volume.specs.Edits.{after, Enters, Leaves, IsFree, IsEdit, IsGoodEdit, IsShortPut}
use Rattle.tm_changes.specs.Placing.{IsRowAt, dated_row}
use Rattle.tm_changes.specs.Plans.{BringNone, IsGood}
use Rattle.tm_volume_records.specs.Records.{head_key, journal_key, item_key, placed_with, items_in}
use Rattle.tm_changes.specs.Shifts.{IsMovable, Shifts, moved_row}
use Rattle.tm_volume.specs.Seen.{Seen, items_on, tree_on, stored_on, volume_on}
use Rattle.tm_volume.proofs.Rows.{number_low}
use Rattle.tm_volume_records.proofs.Slots.{Rising}
use Rattle.tm_volume.proofs.Finding.{OnShelf, are_on}
use Rattle.tm_volume.proofs.Changing.{at_remove, rising_remove, items_without}
use Rattle.tm_volume.proofs.GoodRecords.{AreGood, good_remove}
use Rattle.tm_changes.proofs.StandingItems as held
use Rattle.tm_changes.proofs.ItemRecords.{row_rules, row_held, row_past, one_row, dated_twice, redone, redone_puts, redone_rising, redone_low, redone_row, redone_items, redone_good, kept_is_put, dated_rules, dated_good, dated_items}
use Rattle.tm_changes.proofs.KnownEdits.{IsRemade, remade_edit, remade_good, remade_stored}
use Rattle.tm_base.proofs.Facts.{false_true}
use Rattle.tm_base.specs.Limits.{max_items}

number_is : (a b : ℕ) → (a == b) ≡ true → a ≡ b
number_is a b h = grind (arith, nat_tests)

all_three : {X : Type 0} (P : X → Type 0) (a b c : X) → P a → P b → P c → All P (a ∷ b ∷ c ∷ [])
all_three P a b c pa pb pc zero d lt = pa
all_three P a b c pa pb pc (suc zero) d lt = pb
all_three P a b c pa pb pc (suc (suc zero)) d lt = pc
all_three P a b c pa pb pc (suc (suc (suc k))) d lt = absurd (omega (arith, lt))

one_rises : (a : ℕ) → IsStrictlyIncreasing (a ∷ [])
one_rises a k lt = absurd (omega (arith, lt))

own_prefix : (p : Names) → is_prefix p p ≡ true
own_prefix p = is_prefix_of_append p p [] (sym (append-nil p))

apart_from : (items : Items) (n k : ℕ) (p q : Names) → Walks items 1 p n → Walks items 1 q k → is_prefix p q ≡ false → (k == n) ≡ false
apart_from items n k p q there other apart = elim (k == n) as (λ b. (k == n) ≡ b → b ≡ false) [
  | true ↦ λ here.
      let same : p ≡ q = one_path items n p q there (subst (λ (x : ℕ). Walks items 1 q x) (number_is k n here) other) in
      false_true (sym apart ∙ ap (λ (r : Names). is_prefix p r) (sym same) ∙ own_prefix p)
  | false ↦ λ _. refl
] refl

-- what the row of an item must be in its new place
pub moved_is_row : (es : Records) (n k : ℕ) (row : ItemRow) (called : List ℕ) (row_at : IsRowAt es n row) → k ≤ max_items → IsName called → IsItemOfSize row_at.rec.length (moved_row row k called)
moved_is_row es n k row called row_at high named = let r = row_rules es n row row_at in record {
  rules = record { parent = omega (arith, high); name = named; attrs = r.rules.attrs; tail = r.rules.tail };
  size_is = r.size_is;
}

-- the folder's record as it stands once the other folder is dated
record IsStill (es : Records) (j k moment : ℕ) (from into : ItemRow) (from_at : IsRowAt es j from) : Type 0 where
  pub row : ItemRow
  pub row_at : IsRowAt (redone es j from from_at (dated_row from moment)) k row
  pub same : dated_row row moment ≡ dated_row into moment

still : (es : Records) (j k moment : ℕ) (from into : ItemRow) (from_at : IsRowAt es j from) → moment ≤ last_moment → IsRowAt es k into → IsStill es j k moment from into from_at
still es j k moment from into from_at low into_at = elim (k == j) as (λ b. (k == j) ≡ b → IsStill es j k moment from into from_at) [
  | true ↦ λ here.
      let same : j ≡ k = sym (number_is k j here) in
      let rows : from ≡ into = one_row es k from into (subst (λ (x : ℕ). IsRowAt es x from) same from_at) into_at in
      record {
        row = dated_row from moment;
        row_at = subst (λ (x : ℕ). IsRowAt (redone es j from from_at (dated_row from moment)) x (dated_row from moment)) same
            (redone_row es j from from_at (dated_row from moment) (dated_rules es j from from_at moment low));
        same = dated_twice from moment ∙ ap (λ (r : ItemRow). dated_row r moment) rows;
      }
  | false ↦ λ off. record { row = into; row_at = row_past es j k from into (dated_row from moment) from_at off into_at; same = refl }
] refl

module _ (m : Seen) (n0 : Numbers) (on : OnShelf m n0) (a b : Names) (n k moment next : ℕ) (can_move : IsMovable m a b n k) (e : Edit) (is : Shifts m a b n k moment e) (low : moment ≤ last_moment)
    (next_is : e.next ≡ next) (next_least : m.tag.next ≤ next) (next_most : next ≤ 2 ^ 62) where
  abbrev es : Records
  es = m.image.records

  abbrev j : ℕ
  j = is.old.parent

  are : (bytes : ℕ → List ℕ) → Are (items_on m bytes) (tree_on m bytes)
  are bytes = are_on m n0 on bytes

  range : (1 ≤ n) × (n ≤ max_items)
  range = held.range m n0 on a n can_move.found

  abbrev x : (ℕ → List ℕ) → Placed
  x bytes = placed_with (entry_of bytes is.old_at.rec).bytes is.old

  placed : (bytes : ℕ → List ℕ) → items_on m bytes n ≡ Some (x bytes)
  placed = held.placed m n0 on a n can_move.found can_move.below is.old is.old_at

  from_walks : (bytes : ℕ → List ℕ) → Walks (items_on m bytes) 1 (parent_of a) j
  from_walks = held.folder_walks m n0 on a n can_move.found can_move.below is.old is.old_at

  from_range : (1 ≤ j) × (j ≤ max_items)
  from_range = held.folder_range m n0 on a n can_move.found can_move.below is.old is.old_at

  into_range : (1 ≤ k) × (k ≤ max_items)
  into_range = number_low es k (λ bytes. some_is (items_on m bytes k) (can_move.into bytes).stands)
    where
      some_is : (o : Option Placed) → is_some o ≡ true → IsSome o
      some_is None h = cc
      some_is (Some x) h = refl

  from_far : (j == n) ≡ false
  from_far = apart_from (items_on m (λ _. [])) n j a (parent_of a) (can_move.found (λ _. [])).walks (from_walks (λ _. [])) (own_parent a can_move.below)

  into_far : (k == n) ≡ false
  into_far = apart_from (items_on m (λ _. [])) n k a (parent_of b) (can_move.found (λ _. [])).walks (can_move.into (λ _. [])).walks (above_parent a b can_move.apart)

  can : (bytes : ℕ → List ℕ) → CanMove (items_on m bytes) (tree_on m bytes) a b n j k (x bytes)
  can bytes = record {
    from = (can_move.found bytes).walks;
    is = placed bytes;
    below = can_move.below;
    out_of = from_walks bytes;
    into = (can_move.into bytes).walks;
    below_to = can_move.below_to;
    folder = (can_move.into bytes).folder;
    none = can_move.none bytes;
    apart = can_move.apart;
    short = can_move.short bytes;
  }

  -- ---- the records

  abbrev new_row : ItemRow
  new_row = moved_row is.old k (last_of b)

  new_rules : IsItemOfSize is.old_at.rec.length new_row
  new_rules = moved_is_row es n k is.old (last_of b) is.old_at into_range.1 is.called

  abbrev es1 : Records
  es1 = redone es n is.old is.old_at new_row

  s1 : Rising es1
  s1 = redone_rising es n is.old is.old_at new_row on.rising

  from_at1 : IsRowAt es1 j is.from
  from_at1 = row_past es n j is.old is.from new_row is.old_at from_far is.from_at

  into_at1 : IsRowAt es1 k is.into
  into_at1 = row_past es n k is.old is.into new_row is.old_at into_far is.into_at

  abbrev es2 : Records
  es2 = redone es1 j is.from from_at1 (dated_row is.from moment)

  s2 : Rising es2
  s2 = redone_rising es1 j is.from from_at1 (dated_row is.from moment) s1

  then : IsStill es1 j k moment is.from is.into from_at1
  then = still es1 j k moment is.from is.into from_at1 low into_at1

  abbrev es3 : Records
  es3 = redone es2 k then.row then.row_at (dated_row then.row moment)

  s3 : Rising es3
  s3 = redone_rising es2 k then.row then.row_at (dated_row then.row moment) s2

  abbrev es4 : Records
  es4 = remove_entry (is_at (nat_cmp journal_key)) es3

  abbrev puts : List Put
  puts = record { key = item_key n; meta = item_text new_row; body = Kept } ∷ record { key = item_key j; meta = item_text (dated_row is.from moment); body = Kept } ∷ record { key = item_key k; meta = item_text (dated_row is.into moment); body = Kept } ∷ []

  abbrev second : Put
  second = record { key = item_key j; meta = item_text (dated_row is.from moment); body = Kept }

  abbrev third : ItemRow → Put
  third row = record { key = item_key k; meta = item_text row; body = Kept }

  puts_are : with_puts puts es ≡ es3
  puts_are =
      redone_puts es n is.old is.old_at new_row (second ∷ third (dated_row is.into moment) ∷ [])
      ∙ redone_puts es1 j is.from from_at1 (dated_row is.from moment) (third (dated_row is.into moment) ∷ [])
      ∙ ap (λ (r : ItemRow). with_puts (third r ∷ []) es2) (sym then.same)
      ∙ redone_puts es2 k then.row then.row_at (dated_row then.row moment) []

  records_are : changed e.remove.items e.put.items es ≡ es4
  records_are = (λ i. changed (is.remove i) (is.put i) es) ∙ ap (without (journal_key ∷ [])) puts_are

  at_low : (q : ℕ) → q ≤ 2 → at q es4 ≡ cond (is_at (nat_cmp q) journal_key) None (at q es)
  at_low q le = at_remove es3 journal_key q s3
      ∙ ap (λ (o : Option Record). cond (is_at (nat_cmp q) journal_key) None o)
      (redone_low es2 k then.row then.row_at (dated_row then.row moment) q le ∙ redone_low es1 j is.from from_at1 (dated_row is.from moment) q le ∙ redone_low es n is.old is.old_at new_row q le)

  items_are : (bytes : ℕ → List ℕ) → items_in es4 bytes ≡ moved_items (items_on m bytes) b n j k (x bytes) moment
  items_are bytes =
      items_without bytes es3 s3 journal_key (omega arith)
      ∙ dated_items es2 k then.row then.row_at moment low bytes s2 into_range.0 into_range.1
      ∙ ap (λ (s : Items). date_item s k moment)
      (dated_items es1 j is.from from_at1 moment low bytes s1 from_range.0 from_range.1
      ∙ ap (λ (s : Items). date_item s j moment) (redone_items es n is.old is.old_at new_row new_rules range.0 range.1 bytes on.rising))

  good_are : (bytes : ℕ → List ℕ) → AreGood bytes m.tag.next es → AreGood bytes m.tag.next es4
  good_are bytes good =
      let h = row_held es n is.old is.old_at bytes m.tag.next good in
      let one = redone_good es n is.old is.old_at new_row new_rules range.0 range.1 bytes m.tag.next good (record { bytes = h.bytes; stamp = h.stamp }) in
      let two = dated_good es1 j is.from from_at1 moment low bytes m.tag.next from_range.0 from_range.1 one in
      good_remove bytes m.tag.next es3 journal_key s3 (dated_good es2 k then.row then.row_at moment low bytes m.tag.next into_range.0 into_range.1 two)

  remade : IsRemade m e es4 (λ bytes. moved_items (items_on m bytes) b n j k (x bytes) moment) (λ bytes. move_to (tree_on m bytes) a b moment)
  remade = record {
    records = records_are;
    rising = rising_remove es3 journal_key s3;
    head = at_low head_key (omega arith);
    journal = at_low journal_key (omega arith);
    items = items_are;
    are = λ bytes. move_reads (items_on m bytes) (tree_on m bytes) a b n j k (x bytes) moment (are bytes) (can bytes);
    good = good_are;
    fixed = is.fixed;
    next_least = omega (arith, next_is, next_least);
    next_most = omega (arith, next_is, next_most);
  }

  entered : (old between : Numbers) → Enters e.enter old between → SetsAt (place_in k b) (Some n) old between
  entered old between h = subst (λ (o : Option Entered). Enters o old between) is.enter h

  left : (between new : Numbers) → Leaves e.leave between new → SetsAt (place_in j a) None between new
  left between new h = subst (λ (o : Option Left). Leaves o between new) is.leave h

  pub move_edit : IsEdit m e
  move_edit = remade_edit m n0 on e es4 (λ bytes. moved_items (items_on m bytes) b n j k (x bytes) moment) (λ bytes. move_to (tree_on m bytes) a b moment) remade
      (subst (λ xs. IsStrictlyIncreasing xs) (sym is.remove) (one_rises journal_key))
      (subst (λ (ps : List Put). All (IsPut es) ps) (sym is.put) (all_three (IsPut es) _ _ _
      (kept_is_put es n is.old_at.rec new_row is.old_at.at_key range.1 new_rules.rules)
      (kept_is_put es j is.from_at.rec (dated_row is.from moment) is.from_at.at_key from_range.1 (dated_rules es j is.from is.from_at moment low).rules)
      (kept_is_put es k is.into_at.rec (dated_row is.into moment) is.into_at.at_key into_range.1 (dated_rules es k is.into is.into_at moment low).rules)))
      (subst (λ (ps : List Put). All IsShortPut ps) (sym is.put) (all_three IsShortPut _ _ _ (λ a least key. tt) (λ a least key. tt) (λ a least key. tt)))
      (λ bytes numbers index. subst (λ (o : Option Entered). IsFree o numbers) (sym is.enter)
      (place_free (items_on m bytes) (tree_on m bytes) numbers b k (are bytes) index can_move.below_to (can_move.into bytes).walks (can_move.none bytes)))
      (λ bytes old between new index enters leaves.
      index_moves (items_on m bytes) (tree_on m bytes) a b n j k (x bytes) moment old between new (are bytes) (can bytes) index (entered old between enters) (left between new leaves))

  pub move_no_data : BringNone e.put.items
  move_no_data = subst (λ (ps : List Put). BringNone ps) (sym is.put) (refl, (refl, (refl, tt)))

  pub move_good : (bytes : ℕ → List ℕ) → IsGood m bytes → IsGoodEdit m e bytes
  move_good = remade_good m n0 on e es4 (λ bytes. moved_items (items_on m bytes) b n j k (x bytes) moment) (λ bytes. move_to (tree_on m bytes) a b moment) remade

  pub move_stored : (bytes : ℕ → List ℕ) → stored_on (after m e) bytes
      ≡ record { volume = with_contents (volume_on m bytes) (record { tree = move_to (tree_on m bytes) a b moment; fixed = m.fixed; next = next }); clean = false; journal = None }
  move_stored bytes = remade_stored m n0 on e es4 (λ bytes. moved_items (items_on m bytes) b n j k (x bytes) moment) (λ bytes. move_to (tree_on m bytes) a b moment) remade bytes
      ∙ (λ i. record { volume = with_contents (volume_on m bytes) (record { tree = move_to (tree_on m bytes) a b moment; fixed = m.fixed; next = next_is i }); clean = false; journal = None })
