-- The edit of the fixed paths, once it brings a blob with their data.
use Rattle.std.proofs.Common.{◌≡◌, inl, inr, ℕ, zero, suc, ◌+◌, ◌^◌, ◌<◌, ◌≤◌, true, false, cond, nat_lt, List, [], ◌∷◌, ◌++◌, length, refl, sym, ap, ◌∙◌, subst, Option, Some, None, arith}
use Rattle.std.specs.Prelude.{unwrap_or}
use Rattle.std.specs.Option.{option_map}
use Rattle.std.specs.Ordering.{nat_cmp}
use Rattle.std.specs.BTreeMap.{is_at, insert_entry}
use Rattle.std.specs.List.{All}
use Rattle.std.specs.List.Sorted.{IsStrictlyIncreasing}
use Rattle.std.specs.Map.{remove_entry}
use Rattle.std.proofs.lemmas.Bool.Decides.{nat_tests}
use Rattle.tm_base.specs.Paths.{Names}
use Rattle.tm_base.specs.declared.refused.Refused.{Refused}
use Rattle.tm_base.specs.declared.refused.Refused.TheVariants.{IdsSpent}
use Rattle.tm_chain.specs.Blob.{blob_len}
use Rattle.tm_image.specs.Commit.{changed, IsPut}
use Rattle.tm_image.specs.Reads.{Entry, entry_of}
use Rattle.tm_items.specs.Changes.{Are}
use Rattle.tm_items.specs.Index.{Numbers, IsIndex}
use Rattle.tm_items.specs.Placings.{Items}
use Rattle.tm_items.proofs.Reading.{one_tree, tree_reads}
use Rattle.tm_nodes.specs.declared.volume.VolumeHead.{VolumeHead}
use Rattle.tm_nodes.specs.Headers.{volume_text, IsVolumeHead}
use Rattle.tm_nodes.specs.Paths.{paths_text, ArePaths}
use Rattle.tm_nodes.specs.Records.{volume_of, paths_of}
use Rattle.tm_nodes.proofs.HeadLemmas.{volume_finds}
use Rattle.tm_nodes.proofs.RowLemmas.{paths_finds}
use Rattle.tm_records.specs.declared.record.Body.TheVariants.{Empty, New}
use Rattle.tm_records.specs.declared.record.Put.{Put}
use Rattle.tm_records.specs.declared.record.Record.{Record}
use Rattle.tm_records.specs.Records.{Records, at}
use Rattle.tm_tree.specs.declared.change.Change.{Change}
use Rattle.tm_tree.specs.declared.change.Change.TheVariants as change
use Rattle.tm_tree.specs.Changes.{fixed_after, tree_after, own_tests, ids_spent, tests}
use Rattle.tm_tree.specs.Contents.{Contents}
use Rattle.tm_tree.specs.Refusing.{first_refused}
use Rattle.tm_tree.specs.Touches.{numbers}
use Rattle.tm_tree.specs.Trees.{Tree}
use Rattle.tm_world.specs.declared.bytes.Blob.{Blob}
use Rattle.tm_volume.specs.declared.edit.Edit.{Edit}
use Rattle.tm_volume.specs.declared.edit.Entered.{Entered}
use Rattle.tm_volume.specs.declared.edit.Left.{Left}
use Rattle.tm_changes.specs.Changes.{changed as made}
use Rattle.tm_volume.specs.Edits.{after, next_tag, Enters, Leaves, IsFree, IsEdit, IsGoodEdit, IsShortPut}
use Rattle.tm_changes.specs.Fixings.{fixing_tests, SetsFixed}
use Rattle.tm_changes.specs.Plans.{IsGood}
use Rattle.tm_changes.specs.Fitting.{staged_len}
use Rattle.tm_volume.specs.Seen.{Seen, entries_on, items_on, tree_on, stored_on, volume_on}
use Rattle.tm_changes.specs.Writes.{brings_first, IsBringing, IsBlobOf, IsFixing, HoldsData, WritesData, staged_data}
use Rattle.tm_volume_records.specs.Records.{head_key, journal_key, placings_of, items_in}
use Rattle.tm_volume_records.specs.Rules.{IsHead}
use Rattle.tm_changes.proofs.Backing.{refused_first, passed_first}
use Rattle.tm_volume.proofs.Blanking.{head_len}
use Rattle.tm_volume.proofs.Changing.{at_insert, at_remove, rising_insert, rising_remove, items_beside, items_without}
use Rattle.tm_volume.proofs.Finding.{OnShelf, are_on}
use Rattle.tm_volume.proofs.GoodRecords.{AreGood, IsGoodRecord, good_from, good_later, good_put, good_remove, good_volume}
use Rattle.tm_volume_records.proofs.Slots.{Rising, entry_is, numbered_on}
use Rattle.tm_base.proofs.Facts.{all_one}
use Rattle.tm_base.specs.Limits.{max_events}

-- ---- what such a change is

pub staged_is : (c : Change) → IsFixing c → (v : Contents) → staged_data v c ≡ paths_text (fixed_after v.fixed c)
staged_is (change.Fix p) is v = refl
staged_is (change.Unfix p) is v = refl
staged_is _ is v = absurd is

len_is : (c : Change) → IsFixing c → (v : Contents) → staged_len v c ≡ length (paths_text (fixed_after v.fixed c))
len_is (change.Fix p) is v = refl
len_is (change.Unfix p) is v = refl
len_is _ is v = absurd is

tree_stays : (c : Change) → IsFixing c → (t : Tree) (next moment : ℕ) → tree_after t next moment c ≡ t
tree_stays (change.Fix p) is t next moment = refl
tree_stays (change.Unfix p) is t next moment = refl
tree_stays _ is t next moment = absurd is

two_numbers : (c : Change) → IsFixing c → (t : Tree) → numbers t c ≡ 2
two_numbers (change.Fix p) is t = refl
two_numbers (change.Unfix p) is t = refl
two_numbers _ is t = absurd is

own_are : (c : Change) → IsFixing c → (v : Contents) (moment : Option ℕ) → own_tests v c moment ≡ fixing_tests v.fixed c
own_are (change.Fix p) is v moment = refl
own_are (change.Unfix p) is v moment = refl
own_are _ is v moment = absurd is

-- ---- when it is refused

module _ (c : Change) (is : IsFixing c) (v : Contents) (moment : Option ℕ) where
  tests_are : tests v c moment ≡ fixing_tests v.fixed c ++ ids_spent v 2
  tests_are = λ i. own_are c is v moment i ++ ids_spent v (two_numbers c is v.tree i)

  pub fixing_refused : (why : Refused) → first_refused (fixing_tests v.fixed c) ≡ Some why → first_refused (tests v c moment) ≡ Some why
  fixing_refused why h = ap first_refused tests_are ∙ refused_first (fixing_tests v.fixed c) (ids_spent v 2) why h

  pub fixing_spent : first_refused (fixing_tests v.fixed c) ≡ None → 2 ^ 62 < v.next + 2 → first_refused (tests v c moment) ≡ Some IdsSpent
  fixing_spent h lt = ap first_refused tests_are ∙ passed_first (fixing_tests v.fixed c) (ids_spent v 2) h ∙ ap (λ b. cond b (Some IdsSpent) None) (is_less (2 ^ 62) (v.next + 2) lt)
    where
      is_less : (a b : ℕ) → a < b → nat_lt a b ≡ true
      is_less a b lt = grind (arith, nat_tests)

  pub fixing_passes : first_refused (fixing_tests v.fixed c) ≡ None → v.next + 2 ≤ 2 ^ 62 → first_refused (tests v c moment) ≡ None
  fixing_passes h le = ap first_refused tests_are ∙ passed_first (fixing_tests v.fixed c) (ids_spent v 2) h ∙ ap (λ b. cond b (Some IdsSpent) None) (not_less (2 ^ 62) (v.next + 2) le)
    where
      not_less : (a b : ℕ) → b ≤ a → nat_lt a b ≡ false
      not_less a b le = grind (arith, nat_tests)

-- ---- the records

one_rises : (a : ℕ) → IsStrictlyIncreasing (a ∷ [])
one_rises a k lt = absurd (omega arith)

found_by : {X Y : Type 0} (f : X → Y) (o : Option X) (y : Y) → option_map f o ≡ Some y → (x : X) × (o ≡ Some x) × (f x ≡ y)
found_by f None y h = cc
found_by f (Some x) y h = (x, refl, (let e : f x ≡ y = cc in e))

-- what was seen to for a change of the fixed paths
pub record IsRefixed (m : Seen) (c : Change) (e : Edit) : Type 0 where
  pub fixing : IsFixing c
  pub sets : SetsFixed m (fixed_after m.fixed c) (m.tag.next + 2) e
  pub rules : ArePaths (fixed_after m.fixed c)
  pub passes : first_refused (fixing_tests m.fixed c) ≡ None
  pub next_most : m.tag.next + 2 ≤ 2 ^ 62

module _ (m : Seen) (n0 : Numbers) (on : OnShelf m n0) (c : Change) (e0 : Edit) (asked : IsRefixed m c e0) where
  abbrev es : Records
  es = m.image.records

  abbrev new : List Names
  new = fixed_after m.fixed c

  old : (r : Record) × (at head_key es ≡ Some r) × (volume_of r.meta ≡ Some m.head)
  old = found_by (λ (r : Record). volume_of r.meta) (at head_key es) (Some m.head) on.shelf.head_is

  head_rules : IsVolumeHead m.head
  head_rules = (volume_finds.is old.0.meta m.head old.2).rules

  head_reads : volume_of (volume_text m.head) ≡ Some m.head
  head_reads = volume_finds.again (volume_text m.head) m.head (record { rules = head_rules; spelled = refl })

  module _ (blob : Blob) (e : Edit) (b : IsBringing e0 e blob) (of : IsBlobOf blob (length (paths_text new))) where
    abbrev first : Record
    first = record { meta = volume_text m.head; length = blob.length; blocks = blob.blocks }

    abbrev es1 : Records
    es1 = insert_entry nat_cmp es head_key first

    abbrev rs : Records
    rs = remove_entry (is_at (nat_cmp journal_key)) es1

    s1 : Rising es1
    s1 = rising_insert es head_key first on.rising

    put_is : e.put.items ≡ record { key = head_key; meta = volume_text m.head; body = New blob } ∷ []
    put_is = b.put ∙ ap (brings_first blob) asked.sets.put

    remove_is : e.remove.items ≡ journal_key ∷ []
    remove_is = b.remove ∙ asked.sets.remove

    next_is : e.next ≡ m.tag.next + 2
    next_is = b.next ∙ asked.sets.next_is

    fixed_is : ◌≡◌ {A = Option (List Names)} e.fixed (Some new)
    fixed_is = b.fixed ∙ asked.sets.fixed

    records_are : changed e.remove.items e.put.items es ≡ rs
    records_are = λ i. changed (remove_is i) (put_is i) es

    at_low : (j : ℕ) → at j rs ≡ cond (is_at (nat_cmp j) journal_key) None (cond (is_at (nat_cmp j) head_key) (Some first) (at j es))
    at_low j = at_remove es1 journal_key j s1 ∙ ap (λ (o : Option Record). cond (is_at (nat_cmp j) journal_key) None o) (at_insert es head_key first j)

    head_after : at head_key (changed e.remove.items e.put.items es) ≡ Some first
    head_after = ap (at head_key) records_are ∙ at_low head_key

    rising_after : Rising (changed e.remove.items e.put.items es)
    rising_after = subst (λ (xs : Records). Rising xs) (sym records_are) (rising_remove es1 journal_key s1)

    items_are : (bytes : ℕ → List ℕ) → items_on (after m e) bytes ≡ items_on m bytes
    items_are bytes = ap (λ (xs : Records). items_in xs bytes) records_are ∙ items_without bytes es1 s1 journal_key (omega arith) ∙ items_beside bytes es on.rising head_key (omega arith) first

    are_after : (bytes : ℕ → List ℕ) → Are (items_on (after m e) bytes) (tree_on m bytes)
    are_after bytes = subst (λ (items : Items). Are items (tree_on m bytes)) (sym (items_are bytes)) (are_on m n0 on bytes)

    -- ---- the edit

    index_after : (bytes : ℕ → List ℕ) (was between now : Numbers) → IsIndex (items_on m bytes) was → Enters e.enter was between → Leaves e.leave between now → IsIndex (items_on (after m e) bytes) now
    index_after bytes was between now known enters leaves =
        let x : between ≡ was = subst (λ (o : Option Entered). Enters o was between) (b.enter ∙ asked.sets.enter) enters in
        let y : now ≡ between = subst (λ (o : Option Left). Leaves o between now) (b.leave ∙ asked.sets.leave) leaves in
        subst (λ (items : Items). IsIndex items now) (sym (items_are bytes)) (subst (λ (ns : Numbers). IsIndex (items_on m bytes) ns) (sym (y ∙ x)) known)

    first_put : IsPut es (record { key = head_key; meta = volume_text m.head; body = New blob })
    first_put = record { can = tt; key = omega arith; meta = omega (arith, head_len m.head head_rules); filled = of.many ∙ ap blob_len (sym of.size_is) }

    is_edit : IsEdit m e
    is_edit = record {
      rising = subst (λ xs. IsStrictlyIncreasing xs) (sym remove_is) (one_rises journal_key);
      put = subst (λ (ps : List Put). All (IsPut es) ps) (sym put_is) (all_one (IsPut es) _ first_put);
      lengths = subst (λ (ps : List Put). All IsShortPut ps) (sym put_is) (all_one IsShortPut _ (λ n least key. absurd (omega (arith, key, least))));
      head = ap (option_map (λ (r : Record). volume_of r.meta)) head_after ∙ ap Some head_reads;
      next_least = omega (arith, next_is);
      next_most = omega (arith, next_is, asked.next_most);
      sound = λ bytes. (are_after bytes).sound;
      free = λ bytes numbers index. subst (λ (o : Option Entered). IsFree o numbers) (sym (b.enter ∙ asked.sets.enter)) tt;
      index_is = index_after;
    }

    -- ---- its records keep the rules

    module _ (bytes : ℕ → List ℕ) (holds : HoldsData m c blob bytes) where
      data_is : (entry_of bytes first).bytes ≡ paths_text new
      data_is = holds ∙ staged_is c asked.fixing (volume_on m bytes).contents

      paths_are : paths_of (entry_of bytes first).bytes ≡ Some new
      paths_are = paths_finds.again (entry_of bytes first).bytes new (record { rules = asked.rules; spelled = data_is })

      same_head : {a b : VolumeHead} {o : Option VolumeHead} → o ≡ Some a → o ≡ Some b → a ≡ b
      same_head x y = cc

      head_good : IsGoodRecord bytes m.tag.next head_key old.0 → IsHead (entry_of bytes first)
      head_good good = elim good [
        | inl h ↦ record {
          head = m.head;
          meta = head_reads;
          capacity = subst (λ (x : VolumeHead). (1 ≤ x.capacity) × (x.capacity ≤ max_events)) (same_head h.1.meta old.2) h.1.capacity;
          fixed = new;
          bytes = paths_are;
        }
        | inr rest ↦ elim rest [ inl j ↦ absurd (omega (arith, j.0)) | inr item ↦ absurd (omega (arith, item.3)) ]
      ]

      records_good : AreGood bytes m.tag.next es → AreGood bytes e.next rs
      records_good good = good_remove bytes e.next es1 journal_key s1
          (good_put bytes e.next es head_key first (good_later bytes m.tag.next e.next es (omega (arith, next_is)) good) (inl (refl, head_good (good.each head_key old.0 old.1))))

      is_good : IsGood m bytes → IsGoodEdit m e bytes
      is_good good =
          let records : AreGood bytes e.next (changed e.remove.items e.put.items es) = subst (λ (xs : Records). AreGood bytes e.next xs) (sym records_are) (records_good (good_from bytes es m.tag good.good)) in
          record {
            good = good_volume bytes (changed e.remove.items e.put.items es) (next_tag m e) refl records first head_after (are_after bytes).sound;
            fixed = ap (option_map (λ (d : Entry). paths_of d.bytes)) (entry_is bytes head_key (changed e.remove.items e.put.items es) ∙ ap (option_map (entry_of bytes)) head_after)
                ∙ ap Some (paths_are ∙ ap (λ (o : Option (List Names)). Some (unwrap_or o m.fixed)) (sym fixed_is));
          }

    -- ---- the volume

    is_stored : (bytes : ℕ → List ℕ) (moment : Option ℕ) → stored_on (after m e) bytes ≡ made (stored_on m bytes) c moment
    is_stored bytes moment =
        let a = are_after bytes in
        let t : tree_on (after m e) bytes ≡ tree_after (tree_on m bytes) m.tag.next (unwrap_or moment 0) c = one_tree (items_on (after m e) bytes) (tree_on (after m e) bytes) (tree_on m bytes)
        (tree_reads (placings_of (entries_on (after m e) bytes)) (numbered_on bytes (changed e.remove.items e.put.items es) rising_after) a.sound) a.reads ∙ sym (tree_stays c asked.fixing (tree_on m bytes) m.tag.next (unwrap_or moment 0)) in
        let f : unwrap_or e.fixed m.fixed ≡ new = ap (λ (o : Option (List Names)). unwrap_or o m.fixed) fixed_is in
        let x : e.next ≡ m.tag.next + numbers (tree_on m bytes) c = next_is ∙ ap (λ k. m.tag.next + k) (sym (two_numbers c asked.fixing (tree_on m bytes))) in
        let j : option_map (λ (r : Record). r.length) (at journal_key (changed e.remove.items e.put.items es)) ≡ None = ap (option_map (λ (r : Record). r.length)) (ap (at journal_key) records_are ∙ at_low journal_key) in
        λ i. record {
          volume = record { name = m.head.name; id = m.head.id; capacity = m.head.capacity; generation = m.tag.generation; contents = record { tree = t i; fixed = f i; next = x i } };
          clean = false;
          journal = j i;
        }

  writes : (moment : Option ℕ) → WritesData m c moment (length (paths_text new)) e0
  writes moment = record {
    first = record { key = head_key; meta = volume_text m.head; body = Empty };
    rest = [];
    put = asked.sets.put;
    no_data = tt;
    staged = λ bytes. len_is c asked.fixing (volume_on m bytes).contents;
    passes = λ bytes good. fixing_passes c asked.fixing (volume_on m bytes).contents moment asked.passes asked.next_most;
    edit = λ blob e b of. is_edit blob e b of;
    good = λ blob e b of bytes holds good. is_good blob e b of bytes holds good;
    stored = λ blob e b of bytes holds. is_stored blob e b of bytes moment;
  }

  -- it makes the change
  pub fixing_writes : (bytes : ℕ → List ℕ) (moment : Option ℕ) → WritesData m c moment (staged_len (volume_on m bytes).contents c) e0
  fixing_writes bytes moment = subst (λ (size : ℕ). WritesData m c moment size e0) (sym (len_is c asked.fixing (volume_on m bytes).contents)) (writes moment)
