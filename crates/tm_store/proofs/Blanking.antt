-- The record of a new store, and that it is one.
use Rattle.std.proofs.Common.{◌≡◌, ◌≢◌, ⊎_elim, inl, inr, ℕ, zero, suc, ◌-◌, ◌*◌, ◌<◌, ◌≤◌, ◌&&◌, true, false, cond, is_some, List, [], ◌∷◌, length, drop, map, Option, Some, None, refl, sym, ◌∙◌, ap, subst, arith, length-append}
use Rattle.std.proofs.Math.Bool.{Bool-set}
use Rattle.std.proofs.Math.Logic.{∥∥₁_elim}
use Rattle.std.proofs.lemmas.Bool.{cases_eq}
use Rattle.std.specs.List.{All}
use Rattle.tm_base.proofs.Facts.{all_one}
use Rattle.tm_base.specs.IsName.{IsName}
use Rattle.tm_codec.specs.Fields.{u8_text, short_text}
use Rattle.tm_codec.proofs.Fields.{length-short_text}
use Rattle.tm_nodes.specs.Headers.{machine_text}
use Rattle.tm_nodes.specs.Records.{machine_of}
use Rattle.tm_nodes.proofs.HeadLemmas.{machine_finds}
use Rattle.tm_records.specs.declared.record.Record.{Record}
use Rattle.tm_records.specs.declared.record.Put.{Put}
use Rattle.tm_records.specs.Puts.{with_puts}
use Rattle.tm_records.specs.Records.{Records}
use Rattle.tm_table.specs.Text.{table_text, record_text}
use Rattle.tm_table.proofs.Standing.{length-record_text}
use Rattle.tm_tree.specs.States.{StoreState, Snapshot as StoredSnapshot, new_store}
use Rattle.tm_world.specs.Disk.{Disk}
use Rattle.tm_world.specs.Log.{Log}
use Rattle.tm_world.specs.Runs.{Runs}
use Rattle.tm_world.specs.declared.world.Side.TheVariants.{Store}
use Rattle.tm_world.proofs.Going.{Runs-weaker}
use Rattle.tm_image.specs.Blank.{IsFirstPut, LacksMagic, LeavesNoneOr}
use Rattle.tm_image.specs.Reads.{ReadsAsTable, entries_of}
use Rattle.tm_image.specs.Room.{HasRoom, table_len}
use Rattle.tm_image.specs.Seen.{IsSound, IsSettled, staged}
use Rattle.tm_graph.specs.Nodes.{Nodes}
use Rattle.tm_store_records.specs.declared.snapshot.Snapshot.{Snapshot}
use Rattle.tm_store_records.specs.Heads.{RecordHead, RecordHeads, heads_of, head_at}
use Rattle.tm_blockmap.specs.Counts.{times}
use Rattle.tm_store_records.specs.Found.{machine_in, nodes_in, snapshots_in}
use Rattle.tm_store_records.specs.Rules.{IsGoodStore, is_record}
use Rattle.tm_store_records.specs.Tags.{tag_of, FitsTag}
use Rattle.tm_store_records.specs.States.{StoreIs, LeavesNoneOrStore, snapshot_on}
use Rattle.tm_store_records.specs.Held.{Held, IsWhole, files_of}
use Rattle.tm_store_records.proofs.Storing.{heads_are}
use Rattle.tm_store_records.proofs.Leaving.{reads_store}
use Rattle.tm_store_records.proofs.NextKeyLemmas.{at_other}
use Rattle.tm_store.specs.Blank.{machine_puts}
use Rattle.tm_nodes.proofs.Fields.{name_had}

-- ---- names

-- ---- the record

abbrev machine_record : List ℕ → Record
machine_record name = record { meta = machine_text name; length = 0; blocks = [] }

abbrev pub first_records : List ℕ → Records
first_records name = (1, machine_record name) ∷ []

text_short : (name : List ℕ) → IsName name → length (machine_text name) ≤ 256
text_short name is = omega (arith, length-short_text name, is.short)

puts_rules : (name : List ℕ) → IsName name → All IsFirstPut (machine_puts name)
puts_rules name is = all_one IsFirstPut _ (record { body = refl; key = omega arith; meta = omega (arith, text_short name is) })

-- the table takes one block
one_block : (name : List ℕ) → IsName name → length (table_text (first_records name)) ≤ 4092
unfolding table_text
one_block name is = omega (arith, length-append (record_text (1, machine_record name)) [], length-record_text (1, machine_record name), text_short name is)

-- ---- the rules

module _ (name : List ℕ) (is : IsName name) where
  reads_name : machine_of (machine_text name) ≡ Some name
  reads_name = machine_finds.again (machine_text name) name (record { rules = is; spelled = refl })

  abbrev first_head : RecordHead
  first_head = record { meta = machine_text name; size = 0 }

  head_found : (key : ℕ) (head : RecordHead) → head_at key (heads_of (first_records name)) ≡ Some head → key ≡ 1
  head_found key head there = ⊎_elim
      (λ (same : key ≡ 1). same)
      (λ (other : key ≢ 1). absurd (let none : None ≡ Some head = sym (ap (λ b. cond b (Some first_head) None) (at_other key 1 other)) ∙ there in cc))
      (cases_eq key 1)

  first_read : (key : ℕ) (head : RecordHead) → head_at key (heads_of (first_records name)) ≡ Some head → is_record key head ≡ true
  first_read key head there =
      let one = head_found key head there in
      let here : Some first_head ≡ Some head = subst (λ k. head_at k (heads_of (first_records name)) ≡ Some head) one there in
      let same : first_head ≡ head = cc in
      let reads : is_record 1 first_head ≡ true = ap (λ o. is_some o && true) reads_name in
      subst (λ k. is_record k head ≡ true) (sym one) (subst (λ (h : RecordHead). is_record 1 h ≡ true) same reads)

  good_first : IsGoodStore (heads_of (first_records name)) 1
  good_first key = record {
    machine = λ one. ap is_some reads_name;
    reads = first_read key;
    snapshot = λ place s there same. absurd (cc there);
    node_rules = λ place e there same. absurd (cc there);
  }

  pub first_is : (bytes : ℕ → List ℕ) → StoreIs (entries_of bytes (first_records name)) (new_store name)
  first_is bytes = record {
    good = subst (λ (heads : RecordHeads). IsGoodStore heads 1) (sym (heads_are (first_records name) bytes)) good_first;
    machine = reads_name;
    snapshots = refl;
  }

  pub first_fits : FitsTag None 1
  first_fits = record { date = tt; least = omega arith; most = omega arith }

  -- ---- while it is written

  leaves_first : (bytes : ℕ → List ℕ) (d : Disk) → LeavesNoneOr Store (entries_of bytes (first_records name)) (tag_of None 1) d → LeavesNoneOrStore (record { store = new_store name; running = None }) d
  leaves_first bytes d leaves image left = ⊎_elim
      (λ (lacks : LacksMagic image.bytes). inl lacks)
      (λ (reads : ReadsAsTable Store (entries_of bytes (first_records name)) (tag_of None 1) image).
      inr (reads_store image (entries_of bytes (first_records name)) (tag_of None 1) (record { store = new_store name; running = None }) reads refl first_fits (first_is bytes)))
      (leaves image left)

  run_first : (bytes : ℕ → List ℕ) (l0 l1 : Log) → Runs Store (LeavesNoneOr Store (entries_of bytes (first_records name)) (tag_of None 1)) l0 l1
      → Runs Store (LeavesNoneOrStore (record { store = new_store name; running = None })) l0 l1
  run_first bytes l0 l1 runs = Runs-weaker Store _ (LeavesNoneOrStore (record { store = new_store name; running = None })) l0 l1 (λ d leaves. leaves_first bytes d leaves) runs

  -- ---- what was made of it in code

  module _ (put : List Put) (tag : List ℕ) (puts : put ≡ machine_puts name) (tag_is : tag ≡ tag_of None 1) where
    pub made_puts : All IsFirstPut put
    made_puts = subst (λ (ps : List Put). All IsFirstPut ps) (sym puts) (puts_rules name is)

    -- from 8 blocks on there is room
    pub made_fits : (blocks need free : ℕ) → 8 ≤ blocks → (free < need) × (free ≡ blocks - 3) × (need ≡ 2 * table_len (with_puts put [])) → ⊥
    made_fits blocks need free many full =
        let short = one_block name is in
        let need_is : need ≡ 2 * table_len (first_records name) = full.2 ∙ ap (λ (ps : List Put). 2 * table_len (with_puts ps [])) puts in
        absurd (omega (arith, short, many, full.0, full.1, need_is))

    pub made_run : (bytes : ℕ → List ℕ) (l0 l1 : Log) → Runs Store (LeavesNoneOr Store (entries_of bytes (with_puts put [])) tag) l0 l1
        → Runs Store (LeavesNoneOrStore (record { store = new_store name; running = None })) l0 l1
    made_run bytes l0 l1 runs =
        run_first bytes l0 l1
        (subst (λ t. Runs Store (LeavesNoneOr Store (entries_of bytes (first_records name)) t) l0 l1) tag_is
        (subst (λ (ps : List Put). Runs Store (LeavesNoneOr Store (entries_of bytes (with_puts ps [])) tag) l0 l1) puts runs))

    pub made_whole : (h : Held) → h.image.records ≡ with_puts put [] → h.image.side ≡ Store → IsSound h.image → IsSettled h.image → HasRoom h.image → h.image.root.tag ≡ tag
        → ((b : ℕ) → staged b h.image ≡ 0) → h.machine ≡ name → h.nodes ≡ [] → h.snapshots ≡ [] → h.running ≡ None → h.stored ≡ None → h.number ≡ 1 → h.staged ≡ [] → IsWhole h
    made_whole h records side sound settled space tagged unstaged machine nodes snapshots running stored number blobs =
        let are : h.image.records ≡ first_records name = records ∙ ap (λ (ps : List Put). with_puts ps []) puts in
        record {
          side = side;
          sound = sound;
          settled = settled;
          space = space;
          good = subst (λ (es : Records). IsGoodStore (heads_of es) h.number) (sym are) (subst (λ n. IsGoodStore (heads_of (first_records name)) n) (sym number) good_first);
          machine_is = ap (λ (es : Records). machine_in (heads_of es)) are ∙ reads_name ∙ ap (λ m. Some m) (sym machine);
          nodes_are = nodes ∙ ap (λ (es : Records). nodes_in (heads_of es)) (sym are);
          snapshots_are = snapshots ∙ ap (λ (es : Records). snapshots_in (heads_of es)) (sym are);
          tag = tagged ∙ tag_is ∙ (λ i. tag_of (sym stored i) (sym number i));
          fits = subst (λ o. FitsTag o h.number) (sym stored) (subst (λ n. FitsTag None n) (sym number) first_fits);
          runs = λ date runs. absurd (let bad : None ≡ Some date = sym running ∙ runs in cc);
          blobs = λ b. ap (λ (bs : List ℕ). times b bs) blobs ∙ sym (unstaged b);
        }

abbrev pub new_of : List ℕ → List StoredSnapshot → StoreState
new_of machine snapshots = record { machine = machine; number = 1; snapshots = snapshots }

-- it is a new store
pub made_store : (name machine : List ℕ) (records : Records) (nodes : Nodes) (snapshots : List Snapshot) → machine ≡ name → snapshots ≡ [] → (bytes : ℕ → List ℕ)
    → new_of machine (map (snapshot_on (files_of records bytes) nodes) snapshots) ≡ new_store name
made_store name machine records nodes snapshots same none bytes = λ i. new_of (same i) (map (snapshot_on (files_of records bytes) nodes) (none i))
