-- The rules of the head and of the journal, by the records that were read.
use Rattle.std.proofs.Common.{◌≡◌, ◌⊎◌, ⊎_elim, ℕ, ◌<◌, ◌≤◌, ◌==◌, Bool, true, false, cond, List, [], ◌∷◌, length, Option, Some, None, Result, Ok, Err, refl, sym, ◌∙◌, ap, subst, arith}
use Rattle.std.proofs.lemmas.Bool.Decides.{nat_tests}
use Rattle.std.specs.Option.{option_map, IfSome, IsSome}
use Rattle.std.specs.Result.{OnOk}
use Rattle.tm_base.specs.Paths.{Names}
use Rattle.tm_image.specs.Reads.{Entry, Entries, entry_of, entries_of}
use Rattle.tm_image.specs.declared.error.LoadError.{LoadError}
use Rattle.tm_image.specs.declared.error.LoadError.TheVariants.{Unformatted, Bad, Fault, Memory}
use Rattle.tm_nodes.specs.declared.volume.VolumeHead.{VolumeHead}
use Rattle.tm_nodes.specs.Answers.{Tells}
use Rattle.tm_nodes.specs.declared.error.NodeError.{NodeError}
use Rattle.tm_nodes.specs.declared.error.NodeError.TheVariants.{BadNode}
use Rattle.tm_nodes.specs.Records.{volume_of, paths_of}
use Rattle.tm_records.specs.declared.record.Record.{Record}
use Rattle.tm_records.specs.Records.{Records, at}
use Rattle.tm_world.specs.declared.cause.Cause.TheVariants as cause
use Rattle.tm_volume_records.specs.Loads.{IfBadAt, HeadIn, AreRows}
use Rattle.tm_volume_records.specs.Records.{head_key, journal_key, entry_at}
use Rattle.tm_volume_records.specs.Rules.{Tag, HasHead, HasJournal, IsJournal}
use Rattle.tm_volume_records.proofs.Slots.{entry_is}
use Rattle.tm_base.proofs.Facts.{some_is}
use Rattle.tm_base.specs.Limits.{max_events}

pub bad_at : (A : Type 0) (error : LoadError) (key : ℕ) (P : Type 0) → error ≡ Bad cause.Record key → P → IfBadAt {A = A} (Err error) key P
bad_at A error key P is p = subst (λ (e : LoadError). IfBadAt {A = A} (Err e) key P) (sym is) (refl, refl, p)

pub bad_for : {A : Type 0} (r : Result A LoadError) (key : ℕ) (P Q : Type 0) → (P → Q) → IfBadAt r key P → IfBadAt r key Q
bad_for (Ok a) key P Q f h = h
bad_for (Err Unformatted) key P Q f h = h
bad_for (Err (Bad why place)) key P Q f h = (h.0, h.1, f h.2)
bad_for (Err Fault) key P Q f h = h
bad_for (Err Memory) key P Q f h = h

pub tells_none : {A : Type 0} (key k : ℕ) (error : NodeError) (found : Option A) → error ≡ BadNode k → Tells key (Err error) found → found ≡ None
tells_none key k error found is tells = (subst (λ (e : NodeError). Tells key (Err e) found) is tells).1

pub ok_for : {A E : Type 0} (r : Result A E) (P Q : Type 0) → (P → Q) → OnOk r P → OnOk r Q
ok_for (Ok a) P Q f h = f h
ok_for (Err e) P Q f h = tt

pub is_zero : (n : ℕ) → true ≡ (n == 0) → n ≡ 0
is_zero n h = let t : (n == 0) ≡ true = sym h in grind (arith, nat_tests)

pub is_some : (n : ℕ) → false ≡ (n == 0) → n ≡ 0 → ⊥
is_some n h e = let bad : false ≡ true = h ∙ ap (λ m. m == 0) e in cc

-- the record of an entry
pub record OfRecord (bytes : ℕ → List ℕ) (key : ℕ) (records : Records) (e : Entry) : Type 0 where
  pub rec : Record
  pub at_key : at key records ≡ Some rec
  pub is : entry_of bytes rec ≡ e

of_record : (bytes : ℕ → List ℕ) (key : ℕ) (records : Records) (e : Entry) → entry_at key (entries_of bytes records) ≡ Some e → OfRecord bytes key records e
of_record bytes key records e h = of_option (at key records) refl (sym (entry_is bytes key records) ∙ h)
  where
    of_option : (o : Option Record) → at key records ≡ o → option_map (entry_of bytes) o ≡ Some e → OfRecord bytes key records e
    of_option None is h = cc
    of_option (Some r) is h = record { rec = r; at_key = is; is = cc }

pub none_rec : (records : Records) → at journal_key records ≡ None → IfSome (at journal_key records) (λ r. r.meta ≡ [])
none_rec records none = subst (λ o. IfSome o (λ (r : Record). r.meta ≡ [])) (sym none) tt

pub some_rec : (records : Records) (meta : List ℕ) → option_map (λ r. r.meta) (at journal_key records) ≡ Some meta → IsSome (at journal_key records)
some_rec records meta is = of_option (at journal_key records) is
  where
    of_option : (o : Option Record) → option_map (λ r. r.meta) o ≡ Some meta → IsSome o
    of_option None h = cc
    of_option (Some r) h = refl

-- ---- the head

module _ (bytes : ℕ → List ℕ) (records : Records) where
  pub no_record : at head_key records ≡ None → ¬ HasHead (entries_of bytes records)
  no_record none has = let r = of_record bytes head_key records has.entry has.is in let bad : None ≡ Some r.rec = sym none ∙ r.at_key in cc

  -- what its meta says
  meta_of : (meta : List ℕ) → option_map (λ r. r.meta) (at head_key records) ≡ Some meta → (has : HasHead (entries_of bytes records)) → volume_of meta ≡ Some has.head.head
  meta_of meta is has =
      let r = of_record bytes head_key records has.entry has.is in
      let same : r.rec.meta ≡ meta = some_is r.rec.meta meta (sym (ap (λ o. option_map (λ (x : Record). x.meta) o) r.at_key) ∙ is) in
      ap volume_of (sym same ∙ ap (λ (e : Entry). e.meta) r.is) ∙ has.head.meta

  pub no_meta : (meta : List ℕ) → option_map (λ r. r.meta) (at head_key records) ≡ Some meta → volume_of meta ≡ None → ¬ HasHead (entries_of bytes records)
  no_meta meta is none has = let bad : None ≡ Some has.head.head = sym none ∙ meta_of meta is has in cc

  pub no_capacity : (meta : List ℕ) (head : VolumeHead) → option_map (λ r. r.meta) (at head_key records) ≡ Some meta → volume_of meta ≡ Some head → (head.capacity < 1) ⊎ (max_events < head.capacity) → ¬ HasHead (entries_of bytes records)
  no_capacity meta head is reads out has =
      let same : head ≡ has.head.head = some_is head has.head.head (sym reads ∙ meta_of meta is has) in
      let capacity : head.capacity ≡ has.head.head.capacity = ap (λ (h : VolumeHead). h.capacity) same in
      ⊎_elim
      (λ (low : head.capacity < 1). omega (arith, low, capacity, has.head.capacity.0))
      (λ (high : max_events < head.capacity). omega (arith, high, capacity, has.head.capacity.1))
      out

  pub head_in : (meta : List ℕ) (head : VolumeHead) → option_map (λ r. r.meta) (at head_key records) ≡ Some meta → volume_of meta ≡ Some head → HeadIn records head
  head_in meta head is reads = of_option (at head_key records) is
    where
      of_option : (o : Option Record) → option_map (λ r. r.meta) o ≡ Some meta → option_map (λ r. volume_of r.meta) o ≡ Some (Some head)
      of_option None h = cc
      of_option (Some r) h = let same : r.meta ≡ meta = cc in ap Some (ap volume_of same ∙ reads)

  pub no_paths : (read : List ℕ) → IfSome (at head_key records) (λ r. read ≡ (entry_of bytes r).bytes) → paths_of read ≡ None → ¬ HasHead (entries_of bytes records)
  no_paths read is none has =
      let r = of_record bytes head_key records has.entry has.is in
      let same : read ≡ (entry_of bytes r.rec).bytes = subst (λ o. IfSome o (λ r. read ≡ (entry_of bytes r).bytes)) r.at_key is in
      let bad : None ≡ Some has.head.fixed = sym none ∙ ap paths_of (same ∙ ap (λ (e : Entry). e.bytes) r.is) ∙ has.head.bytes in cc

  pub fixed_is : (read : List ℕ) (fixed : List Names) → IsSome (at head_key records) → IfSome (at head_key records) (λ r. read ≡ (entry_of bytes r).bytes) → paths_of read ≡ Some fixed
      → option_map (λ e. paths_of e.bytes) (entry_at head_key (entries_of bytes records)) ≡ Some (Some fixed)
  fixed_is read fixed there is reads = ap (λ o. option_map (λ (e : Entry). paths_of e.bytes) o) (entry_is bytes head_key records) ∙ of_option (at head_key records) there is
    where
      of_option : (o : Option Record) → IsSome o → IfSome o (λ r. read ≡ (entry_of bytes r).bytes) → option_map (λ (e : Entry). paths_of e.bytes) (option_map (entry_of bytes) o) ≡ Some (Some fixed)
      of_option None there is = cc
      of_option (Some r) there is = ap Some (ap paths_of (sym is) ∙ reads)

  pub has_head : (head : VolumeHead) (fixed : List Names) → HeadIn records head → (1 ≤ head.capacity) × (head.capacity ≤ max_events)
      → option_map (λ e. paths_of e.bytes) (entry_at head_key (entries_of bytes records)) ≡ Some (Some fixed) → HasHead (entries_of bytes records)
  has_head head fixed head_is capacity fixed_is = of_option (at head_key records) head_is (entry_at head_key (entries_of bytes records)) refl (entry_is bytes head_key records) fixed_is
    where
      of_option : (o : Option Record) → option_map (λ r. volume_of r.meta) o ≡ Some (Some head) → (p : Option Entry) → entry_at head_key (entries_of bytes records) ≡ p → p ≡ option_map (entry_of bytes) o
          → option_map (λ (e : Entry). paths_of e.bytes) p ≡ Some (Some fixed) → HasHead (entries_of bytes records)
      of_option None h p is same f = cc
      of_option (Some r) h p is same f = record {
        entry = entry_of bytes r;
        is = is ∙ same;
        head = record { head = head; meta = some_is (volume_of r.meta) (Some head) h; capacity = capacity; fixed = fixed; bytes = some_is (paths_of (entry_of bytes r).bytes) (Some fixed) (ap (λ o. option_map (λ (e : Entry). paths_of e.bytes) o) (sym same) ∙ f) };
      }

  -- ---- the journal

  module _ (clean : Bool) (generation next : ℕ) where
    abbrev T : Tag
    T = record { clean = cond clean 1 0; generation = generation; next = next }

    E : Entries
    E = entries_of bytes records

    pub no_journal : at journal_key records ≡ None → clean ≡ true → ¬ HasJournal (entries_of bytes records) (record { clean = cond clean 1 0; generation = generation; next = next })
    no_journal none on has =
        let there : IsSome (entry_at journal_key (entries_of bytes records)) = has.there (ap (λ b. cond b 1 0) on) in
        let gone : entry_at journal_key (entries_of bytes records) ≡ None = entry_is bytes journal_key records ∙ ap (λ o. option_map (entry_of bytes) o) none in
        let bad : IsSome {T = Entry} None = subst (λ o. IsSome o) gone there in cc

    off_is : {P : Type 0} → clean ≡ false → ◌≡◌ {A = ℕ} (cond clean 1 0) 1 → P
    off_is off is = let bad : ◌≡◌ {A = ℕ} 0 1 = sym (ap (λ b. cond b 1 0) off) ∙ is in absurd (omega (arith, bad))

    meta_is : (o : Option Record) (meta : List ℕ) → option_map (λ r. r.meta) o ≡ Some meta → (p : Option Entry) → p ≡ option_map (entry_of bytes) o → IfSome p (λ e. e.meta ≡ []) → meta ≡ []
    meta_is None meta h p is empty = cc
    meta_is (Some r) meta h p is empty = let same : r.meta ≡ meta = cc in sym same ∙ subst (λ o. IfSome o (λ (e : Entry). e.meta ≡ [])) is empty

    empty_is : (o : Option Record) → IfSome o (λ r. r.meta ≡ []) → (p : Option Entry) → p ≡ option_map (entry_of bytes) o → IfSome p (λ e. e.meta ≡ [])
    empty_is None h p is = subst (λ o. IfSome o (λ (e : Entry). e.meta ≡ [])) (sym is) tt
    empty_is (Some r) h p is = subst (λ o. IfSome o (λ (e : Entry). e.meta ≡ [])) (sym is) h

    pub empty_rec : (meta : List ℕ) → option_map (λ r. r.meta) (at journal_key records) ≡ Some meta → length meta ≡ 0 → IfSome (at journal_key records) (λ r. r.meta ≡ [])
    empty_rec meta is none = of_option (at journal_key records) is
      where
        of_list : (xs : List ℕ) → length xs ≡ 0 → xs ≡ []
        of_list [] h = refl
        of_list (x ∷ xs) h = absurd (omega (arith, h))

        of_option : (o : Option Record) → option_map (λ r. r.meta) o ≡ Some meta → IfSome o (λ r. r.meta ≡ [])
        of_option None h = tt
        of_option (Some r) h = let same : r.meta ≡ meta = cc in same ∙ of_list meta none

    pub has_meta : (meta : List ℕ) → option_map (λ r. r.meta) (at journal_key records) ≡ Some meta → (length meta ≡ 0 → ⊥) → ¬ HasJournal (entries_of bytes records) (record { clean = cond clean 1 0; generation = generation; next = next })
    has_meta meta is some has = some (ap length (meta_is (at journal_key records) meta is (entry_at journal_key (entries_of bytes records)) (entry_is bytes journal_key records) has.meta))

    pub not_clean : IfSome (at journal_key records) (λ r. r.meta ≡ []) → clean ≡ false → HasJournal (entries_of bytes records) (record { clean = cond clean 1 0; generation = generation; next = next })
    not_clean empty off = record {
      meta = empty_is (at journal_key records) empty (entry_at journal_key (entries_of bytes records)) (entry_is bytes journal_key records);
      there = λ is. off_is off is;
      rows = λ is. off_is off is;
    }

    module _ (head : VolumeHead) (has_head : HeadIn records head) where
      one_head : (h : Entry) (other : VolumeHead) → entry_at head_key (entries_of bytes records) ≡ Some h → volume_of h.meta ≡ Some other → other ≡ head
      one_head h other is reads =
          let r = of_record bytes head_key records h is in
          let same : Some (volume_of r.rec.meta) ≡ Some (Some head) = sym (ap (λ o. option_map (λ (x : Record). volume_of x.meta) o) r.at_key) ∙ has_head in
          some_is other head (sym reads ∙ ap (λ (e : Entry). volume_of e.meta) (sym r.is) ∙ some_is (volume_of r.rec.meta) (Some head) same)

      journal_of : (capacity : ℕ) (e : Entry) → head.capacity ≡ capacity → AreRows capacity next e.bytes → IsJournal (entries_of bytes records) next e
      journal_of capacity e is rows = record {
        rows = rows.rows;
        bytes = rows.is;
        few = λ other h at_head reads. omega (arith, rows.few, is, ap (λ (x : VolumeHead). x.capacity) (one_head h other at_head reads));
        drawn = rows.drawn;
      }

      rows_of_journal : (capacity : ℕ) (e : Entry) → head.capacity ≡ capacity → IsJournal (entries_of bytes records) next e → AreRows capacity next e.bytes
      rows_of_journal capacity e is journal = record {
        rows = journal.rows;
        is = journal.bytes;
        few = of_option (at head_key records) refl has_head;
        drawn = journal.drawn;
      }
        where
          of_option : (o : Option Record) → at head_key records ≡ o → option_map (λ r. volume_of r.meta) o ≡ Some (Some head) → length journal.rows ≤ capacity
          of_option None at_head h = cc
          of_option (Some r) at_head h = omega (arith, is, journal.few head (entry_of bytes r) (entry_is bytes head_key records ∙ ap (λ o. option_map (entry_of bytes) o) at_head) (some_is (volume_of r.meta) (Some head) h))

      pub rows_kept : (capacity : ℕ) → head.capacity ≡ capacity → IsSome (at journal_key records) → IfSome (at journal_key records) (λ r. r.meta ≡ []) → IfSome (at journal_key records) (λ r. AreRows capacity next (entry_of bytes r).bytes)
          → HasJournal (entries_of bytes records) (record { clean = cond clean 1 0; generation = generation; next = next })
      rows_kept capacity is there empty rows = record {
        meta = empty_is (at journal_key records) empty (entry_at journal_key (entries_of bytes records)) (entry_is bytes journal_key records);
        there = λ on. some_entry (at journal_key records) there (entry_at journal_key (entries_of bytes records)) (entry_is bytes journal_key records);
        rows = λ on. of_option (at journal_key records) rows (entry_at journal_key (entries_of bytes records)) (entry_is bytes journal_key records);
      }
        where
          some_entry : (o : Option Record) → IsSome o → (p : Option Entry) → p ≡ option_map (entry_of bytes) o → IsSome p
          some_entry None h p is = cc
          some_entry (Some r) h p is = subst (λ o. IsSome o) (sym is) refl

          of_option : (o : Option Record) → IfSome o (λ r. AreRows capacity next (entry_of bytes r).bytes) → (p : Option Entry) → p ≡ option_map (entry_of bytes) o → IfSome p (IsJournal (entries_of bytes records) next)
          of_option None h p same = subst (λ o. IfSome o (IsJournal (entries_of bytes records) next)) (sym same) tt
          of_option (Some r) h p same = subst (λ o. IfSome o (IsJournal (entries_of bytes records) next)) (sym same) (journal_of capacity (entry_of bytes r) is h)

      pub rows_broken : (capacity : ℕ) → head.capacity ≡ capacity → clean ≡ true → IsSome (at journal_key records) → IfSome (at journal_key records) (λ r. ¬ AreRows capacity next (entry_of bytes r).bytes)
          → ¬ HasJournal (entries_of bytes records) (record { clean = cond clean 1 0; generation = generation; next = next })
      rows_broken capacity is on there broken has = of_option (at journal_key records) there broken (entry_at journal_key (entries_of bytes records)) (entry_is bytes journal_key records) (has.rows (ap (λ b. cond b 1 0) on))
        where
          of_option : (o : Option Record) → IsSome o → IfSome o (λ r. ¬ AreRows capacity next (entry_of bytes r).bytes) → (p : Option Entry) → p ≡ option_map (entry_of bytes) o → IfSome p (IsJournal (entries_of bytes records) next) → ⊥
          of_option None there broken p same h = cc
          of_option (Some r) there broken p same h = broken (rows_of_journal capacity (entry_of bytes r) is (subst (λ o. IfSome o (IsJournal (entries_of bytes records) next)) same h))
