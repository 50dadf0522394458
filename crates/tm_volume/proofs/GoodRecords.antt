-- Records of which each keeps its rules, and the volume that they are while its mark is off.
use Rattle.std.proofs.Common.{◌≡◌, ◌⊎◌, inl, inr, ℕ, ◌≤◌, Bool, true, false, cond, List, [], refl, sym, ap, ◌∙◌, subst, Option, Some, None, arith}
use Rattle.std.specs.Option.{option_map, IsSome, IfSome}
use Rattle.std.specs.Ordering.{nat_cmp}
use Rattle.std.specs.BTreeMap.{is_at, insert_entry}
use Rattle.std.specs.Map.{remove_entry}
use Rattle.tm_records.specs.declared.record.Record.{Record}
use Rattle.tm_records.specs.Records.{Records, at}
use Rattle.tm_image.specs.Reads.{Entry, entry_of, entries_of}
use Rattle.tm_items.specs.Rules.{IsSound}
use Rattle.tm_items.proofs.Reading.{number_decides}
use Rattle.tm_tree.specs.declared.record.ItemBody.{ItemBody}
use Rattle.tm_tree.specs.declared.record.ItemBody.TheVariants as body
use Rattle.tm_tree.specs.declared.node.LeafRow.TheVariants as leaf
use Rattle.tm_volume_records.specs.Records.{head_key, journal_key, item_key, entry_at, items_in}
use Rattle.tm_volume_records.specs.Rules.{Tag, IsHead, HasHead, IsItem, HasStamp, HasJournal, IsGoodVolume}
use Rattle.tm_volume_records.proofs.Slots.{Rising, entry_is}
use Rattle.tm_volume.proofs.Changing.{at_insert, at_remove}
use Rattle.tm_base.specs.Limits.{max_items}

-- a record at its key, but for the rows of a journal
abbrev pub IsGoodRecord : (ℕ → List ℕ) → ℕ → ℕ → Record → Type 0
IsGoodRecord bytes next k r = ((k ≡ head_key) × IsHead (entry_of bytes r)) ⊎ ((k ≡ journal_key) × (r.meta ≡ []))
    ⊎ ((n : ℕ) × (1 ≤ n) × (n ≤ max_items) × (k ≡ item_key n) × IsItem next (entry_of bytes r))

pub record AreGood (bytes : ℕ → List ℕ) (next : ℕ) (es : Records) : Type 0 where
  pub each : (k : ℕ) (r : Record) → at k es ≡ Some r → IsGoodRecord bytes next k r

some_in : {X P : Type 0} (b : Bool) (v : X) (o : Option X) (r : X) → cond b (Some v) o ≡ Some r → (b ≡ true → v ≡ r → P) → (o ≡ Some r → P) → P
some_in true v o r h here there = here refl (let e : v ≡ r = cc in e)
some_in false v o r h here there = there h

left_in : {X P : Type 0} (b : Bool) (o : Option X) (r : X) → cond b None o ≡ Some r → (o ≡ Some r → P) → P
left_in true o r h there = cc
left_in false o r h there = there h

pub good_put : (bytes : ℕ → List ℕ) (next : ℕ) (es : Records) (k : ℕ) (v : Record) → AreGood bytes next es → IsGoodRecord bytes next k v → AreGood bytes next (insert_entry nat_cmp es k v)
good_put bytes next es k v good new = record {
  each = λ j r is. some_in {P = IsGoodRecord bytes next j r} (is_at (nat_cmp j) k) v (at j es) r (sym (at_insert es k v j) ∙ is)
      (λ here same. let key : j ≡ k = (number_decides j k).0 here in subst (λ (x : Record). IsGoodRecord bytes next j x) same (subst (λ (q : ℕ). IsGoodRecord bytes next q v) (sym key) new))
      (λ there. good.each j r there);
}

pub good_remove : (bytes : ℕ → List ℕ) (next : ℕ) (es : Records) (k : ℕ) → Rising es → AreGood bytes next es → AreGood bytes next (remove_entry (is_at (nat_cmp k)) es)
good_remove bytes next es k s good = record {
  each = λ j r is. left_in {P = IsGoodRecord bytes next j r} (is_at (nat_cmp j) k) (at j es) r (sym (at_remove es k j s) ∙ is) (λ there. good.each j r there);
}

pub later_stamp : (next more : ℕ) → next ≤ more → (b : ItemBody) → HasStamp next b → HasStamp more b
later_stamp next more le (body.Folder attrs) h = h
later_stamp next more le (body.Leaf (leaf.File attrs stamp size)) h = (h.0, omega (arith, h.1))
later_stamp next more le (body.Leaf (leaf.Link attrs stamp target)) h = (h.0, omega (arith, h.1))

pub later_item : (next more : ℕ) (e : Entry) → next ≤ more → IsItem next e → IsItem more e
later_item next more e le i = record { row = i.row; meta = i.meta; bytes = i.bytes; stamp = later_stamp next more le i.row.body i.stamp }

pub good_later : (bytes : ℕ → List ℕ) (next more : ℕ) (es : Records) → next ≤ more → AreGood bytes next es → AreGood bytes more es
good_later bytes next more es le good = record {
  each = λ k r is. elim (good.each k r is) [
    | inl head ↦ inl head
    | inr rest ↦ elim rest [
      | inl journal ↦ inr (inl journal)
      | inr item ↦ inr (inr (item.0, item.1, item.2, item.3, later_item next more (entry_of bytes r) le item.4))
    ]
  ];
}

module _ (bytes : ℕ → List ℕ) (es : Records) where
  there_is : (k : ℕ) (r : Record) → at k es ≡ Some r → entry_at k (entries_of bytes es) ≡ Some (entry_of bytes r)
  there_is k r is = entry_is bytes k es ∙ ap (option_map (entry_of bytes)) is

  -- the records of a volume are such
  pub good_from : (tag : Tag) → IsGoodVolume (entries_of bytes es) tag → AreGood bytes tag.next es
  good_from tag good = record {
    each = λ k r is. elim ((good k).known (subst (λ (o : Option Entry). IsSome o) (sym (there_is k r is)) refl)) [
      | inl head ↦
          let has = (good k).head head in
          let here : at head_key es ≡ Some r = subst (λ j. at j es ≡ Some r) head is in
          let same : has.entry ≡ entry_of bytes r = some_same (sym has.is ∙ there_is head_key r here) in
          inl (head, subst (λ (e : Entry). IsHead e) same has.head)
      | inr rest ↦ elim rest [
        | inl journal ↦
            let here : at journal_key es ≡ Some r = subst (λ j. at j es ≡ Some r) journal is in
            inr (inl (journal, subst (λ (o : Option Entry). IfSome o (λ e. e.meta ≡ [])) (there_is journal_key r here) ((good k).journal journal).meta))
        | inr item ↦
            let here : at (item_key item.0) es ≡ Some r = subst (λ j. at j es ≡ Some r) item.3 is in
            inr (inr (item.0, item.1, item.2, item.3, subst (λ (o : Option Entry). IfSome o (IsItem tag.next)) (there_is (item_key item.0) r here) ((good k).item item.0 item.1 item.2 item.3).item))
      ]
    ];
  }
    where
      some_same : {x y : Entry} → Some x ≡ Some y → x ≡ y
      some_same h = cc

  -- and make one while the mark is off, where the head is there and the items are sound
  module _ (tag : Tag) (off : tag.clean ≡ 0) (good : AreGood bytes tag.next es) (head : Record) (head_is : at head_key es ≡ Some head) (sound : IsSound (items_in es bytes)) where
    if_there : (k : ℕ) (P : Entry → Type 0) → ((r : Record) → at k es ≡ Some r → P (entry_of bytes r)) → IfSome (entry_at k (entries_of bytes es)) P
    if_there k P all = subst (λ (o : Option Entry). IfSome o P) (sym (entry_is bytes k es)) (on_record (at k es) refl)
      where
        on_record : (o : Option Record) → at k es ≡ o → IfSome (option_map (entry_of bytes) o) P
        on_record None is = tt
        on_record (Some r) is = all r is

    known : (k : ℕ) (o : Option Record) → at k es ≡ o → IsSome (option_map (entry_of bytes) o) → (k ≡ head_key) ⊎ (k ≡ journal_key) ⊎ ((n : ℕ) × (1 ≤ n) × (n ≤ max_items) × (k ≡ item_key n))
    known k None is there = absurd (let bad : false ≡ true = there in cc)
    known k (Some r) is there = elim (good.each k r is) [
      | inl h ↦ inl h.0
      | inr rest ↦ elim rest [ inl j ↦ inr (inl j.0) | inr item ↦ inr (inr (item.0, item.1, item.2, item.3)) ]
    ]

    has_head : HasHead (entries_of bytes es)
    has_head = record {
      entry = entry_of bytes head;
      is = there_is head_key head head_is;
      head = elim (good.each head_key head head_is) [
        | inl h ↦ h.1
        | inr rest ↦ elim rest [ inl j ↦ absurd (omega (arith, j.0)) | inr item ↦ absurd (omega (arith, item.3)) ]
      ];
    }

    has_journal : HasJournal (entries_of bytes es) tag
    has_journal = record {
      meta = if_there journal_key (λ e. e.meta ≡ []) (λ r is. elim (good.each journal_key r is) [
        | inl h ↦ absurd (omega (arith, h.0))
        | inr rest ↦ elim rest [ inl j ↦ j.1 | inr item ↦ absurd (omega (arith, item.3)) ]
      ]);
      there = λ one. absurd (omega (arith, one, off));
      rows = λ one. absurd (omega (arith, one, off));
    }

    pub good_volume : IsGoodVolume (entries_of bytes es) tag
    good_volume k = record {
      known = λ there. known k (at k es) refl (subst (λ (o : Option Entry). IsSome o) (entry_is bytes k es) there);
      head = λ is. has_head;
      journal = λ is. has_journal;
      item = λ n lo hi is. record {
        item = if_there (item_key n) (IsItem tag.next) (λ r here. elim (good.each (item_key n) r here) [
          | inl h ↦ absurd (omega (arith, h.0, lo))
          | inr rest ↦ elim rest [ inl j ↦ absurd (omega (arith, j.0, lo)) | inr item ↦ item.4 ]
        ]);
        place = sound n;
      };
    }
