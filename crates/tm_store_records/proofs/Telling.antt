-- How much the records of a store take is told by what they stand for.
use Rattle.std.proofs.Common.{◌≡◌, ◌≢◌, ◌⊎◌, inl, inr, ℕ, ◌+◌, ◌-◌, ◌*◌, ◌^◌, ◌≤◌, ◌==◌, ◌&&◌, Bool, true, false, cond, Option, Some, None, is_some, List, [], ◌∷◌, length, refl, sym, ap, ◌∙◌, arith, subst, length-append}
use Rattle.std.specs.Prelude.{nat_le, nat_lt}
use Rattle.std.specs.List.{All, AllByRecursion, sum_by, flat_map, cons_option}
use Rattle.std.specs.List.Sorted.{IsStrictlySortedBy}
use Rattle.std.specs.Map.{keys_of, values_of}
use Rattle.std.specs.BTreeMap.{is_at}
use Rattle.std.specs.Option.{option_map, option_map_or, option_and_then, unwrap_or, IfSome}
use Rattle.std.specs.Ordering.{nat_cmp}
use Rattle.std.proofs.lemmas.Bool.Decides.{nat_tests}
use Rattle.std.proofs.lemmas.List.Sums.{sum_by-cons}
use Rattle.std.proofs.lemmas.Map.Views.{IfSome-lookup_from_All}
use Rattle.tm_base.proofs.Facts.{both_true}
use Rattle.tm_chain.specs.Blob.{blob_len}
use Rattle.tm_records.specs.declared.record.Record.{Record}
use Rattle.tm_records.specs.Records.{Records, at}
use Rattle.tm_table.specs.Text.{record_text, table_text}
use Rattle.tm_table.proofs.Standing.{length-record_text}
use Rattle.tm_image.specs.Layout.{blocks_for}
use Rattle.tm_image.specs.Seen.{IsKept}
use Rattle.tm_image.specs.Reads.{data_len}
use Rattle.tm_tree.specs.declared.node.LeafRow.TheVariants.{File, Link}
use Rattle.tm_tree.specs.declared.node.NodeBody.{NodeBody}
use Rattle.tm_tree.specs.declared.node.NodeBody.TheVariants.{Folder, Leaf}
use Rattle.tm_tree.specs.declared.node.NodeRow.{NodeRow}
use Rattle.tm_base.specs.IsName.{IsName}
use Rattle.tm_nodes.specs.declared.snapshot.SnapshotRow.{SnapshotRow}
use Rattle.tm_nodes.specs.Headers.{machine_text, snapshot_text, IsSnapshotRow}
use Rattle.tm_nodes.specs.Laws.{FindsSpelled}
use Rattle.tm_nodes.specs.Nodes.{node_text, HasNodeSize}
use Rattle.tm_nodes.specs.Records.{machine_of, snapshot_of, node_of}
use Rattle.tm_identity.specs.Stored.{node_length}
use Rattle.tm_store_records.specs.declared.snapshot.Snapshot.{Snapshot}
use Rattle.tm_store_records.specs.Heads.{RecordHead, heads_of}
use Rattle.tm_store_records.specs.Found.{is_snapshot_key, is_node_key, numbered_snapshot, snapshot_in, node_in, machine_in, snapshots_in, nodes_in}
use Rattle.tm_store_records.specs.Rules.{most_of, reads_node, is_record, IsGoodStore}
use Rattle.tm_store_records.specs.Room.{row_of_snapshot, snapshot_len, node_len, record_len, store_len}
use Rattle.tm_store_records.specs.Laws.{TextIsTold, TableIsTold}
use Rattle.tm_store_records.proofs.NextKeyLemmas as onward
use Rattle.tm_store_records.proofs.NextKeyLemmas.{Sorted, at_same, at_other, tail_sorted, head_above, none_below, le_true, lt_false}
use Rattle.tm_store_records.proofs.Reading.{head_of, head-at}
use Rattle.tm_store_records.proofs.Noding.{NodesAreFound}

abbrev pub SnapshotsAreFound : Type 0
SnapshotsAreFound = FindsSpelled snapshot_of snapshot_text IsSnapshotRow

abbrev pub MachinesAreFound : Type 0
MachinesAreFound = FindsSpelled machine_of machine_text IsName

-- a record with its key, as the rules see it
abbrev pub seen : ℕ × Record → ℕ × RecordHead
seen e = (e.0, head_of e.1)

-- ---- what a record is, by its key

-- the record at 1
pub record IsFirst (e : ℕ × Record) : Type 0 where
  pub key : e.0 ≡ 1
  pub empty : e.1.length ≡ 0

-- a snapshot's
pub record IsSnapshotOf (e : ℕ × Record) : Type 0 where
  pub other : e.0 ≢ 1
  pub low : is_node_key e.0 ≡ false
  pub snapshot : Snapshot
  pub is : snapshot_in (seen e) ≡ Some snapshot
  pub meta : e.1.meta ≡ snapshot_text (row_of_snapshot snapshot)
  pub empty : e.1.length ≡ 0

-- a node's
pub record IsNodeOf (e : ℕ × Record) : Type 0 where
  pub other : e.0 ≢ 1
  pub high : is_snapshot_key e.0 ≡ false
  pub key : is_node_key e.0 ≡ true
  pub row : NodeRow
  pub is : node_in (seen e) ≡ Some (e.0 - 2 ^ 62, row)
  pub meta : e.1.meta ≡ node_text row
  pub size : e.1.length ≡ node_length row

abbrev pub IsOne : ℕ × Record → Type 0
IsOne e = IsFirst e ⊎ IsSnapshotOf e ⊎ IsNodeOf e

is_zero : (n : ℕ) → (n == 0) ≡ true → n ≡ 0
is_zero n h = grind (arith, nat_tests)

is_one : (n : ℕ) → (n == 1) ≡ true → n ≡ 1
is_one n h = grind (arith, nat_tests)

not_one : (n : ℕ) → (n == 1) ≡ false → n ≢ 1
not_one n h same = grind (arith, nat_tests)

pub at_most : (a b : ℕ) → nat_le a b ≡ true → a ≤ b
at_most a b h = grind (arith, nat_tests)

snapshot_low : (k : ℕ) → is_snapshot_key k ≡ true → is_node_key k ≡ false
snapshot_low k h = let t = both_true (nat_le (2 ^ 40) k) (nat_lt k (2 ^ 62)) h in grind (arith, nat_tests, t.1)

-- no more data than a file has
size_is : (body : NodeBody) (size : ℕ) → HasNodeSize size body → size ≤ most_of body → (label links : ℕ) → size ≡ node_length (record { label = label; links = links; body = body })
size_is (Folder attrs entries) size has most label links = omega (arith, most)
size_is (Leaf (File attrs stamp length)) size has most label links = sym has
size_is (Leaf (Link attrs stamp target)) size has most label links = omega (arith, most)

module _ (snapshots_found : SnapshotsAreFound) (nodes_found : NodesAreFound) (e : ℕ × Record) where
  snapshot_of_key : e.0 ≢ 1 → is_snapshot_key e.0 ≡ true → (is_some (snapshot_of e.1.meta) && (e.1.length == 0)) ≡ true → IsSnapshotOf e
  snapshot_of_key other t h = let both = both_true (is_some (snapshot_of e.1.meta)) (e.1.length == 0) h in by_row (snapshot_of e.1.meta) refl both.0 (is_zero e.1.length both.1)
    where
      by_row : (o : Option SnapshotRow) → snapshot_of e.1.meta ≡ o → is_some o ≡ true → e.1.length ≡ 0 → IsSnapshotOf e
      by_row None is some empty = absurd (cc some)
      by_row (Some row) is some empty = record {
        other = other;
        low = snapshot_low e.0 t;
        snapshot = numbered_snapshot (e.0 - 2 ^ 40) row;
        is = ap (λ b. cond b (option_map (numbered_snapshot (e.0 - 2 ^ 40)) (snapshot_of e.1.meta)) None) t ∙ ap (option_map (numbered_snapshot (e.0 - 2 ^ 40))) is;
        meta = ((snapshots_found e.1.meta row).0 is).spelled;
        empty = empty;
      }

  node_of_key : e.0 ≢ 1 → is_snapshot_key e.0 ≡ false → is_node_key e.0 ≡ true → reads_node (head_of e.1) ≡ true → IsNodeOf e
  node_of_key other high t h = by_row (node_of e.1.meta e.1.length) refl h
    where
      by_row : (o : Option NodeRow) → node_of e.1.meta e.1.length ≡ o → unwrap_or (option_map (λ row. nat_le e.1.length (most_of row.body)) o) false ≡ true → IsNodeOf e
      by_row None is few = absurd (cc few)
      by_row (Some row) is few =
          let spelled = (nodes_found e.1.length e.1.meta row).0 is in record {
            other = other;
            high = high;
            key = t;
            row = row;
            is = ap (λ b. cond b (option_map (λ row. (e.0 - 2 ^ 62, row)) (node_of e.1.meta e.1.length)) None) t ∙ ap (option_map (λ row. (e.0 - 2 ^ 62, row))) is;
            meta = spelled.spelled;
            size = size_is row.body e.1.length spelled.rules.size_is (at_most e.1.length (most_of row.body) few) row.label row.links;
          }

  -- a record of a store is one of the three
  pub one_of : is_record e.0 (head_of e.1) ≡ true → IsOne e
  one_of h = by_one (e.0 == 1) refl h
    where
      by_node : (b : Bool) → is_node_key e.0 ≡ b → e.0 ≢ 1 → is_snapshot_key e.0 ≡ false → cond b (reads_node (head_of e.1)) false ≡ true → IsOne e
      by_node true t other high h = inr (inr (node_of_key other high t h))
      by_node false t other high h = absurd (cc h)

      by_snapshot : (b : Bool) → is_snapshot_key e.0 ≡ b → e.0 ≢ 1 → cond b (is_some (snapshot_of e.1.meta) && (e.1.length == 0)) (cond (is_node_key e.0) (reads_node (head_of e.1)) false) ≡ true → IsOne e
      by_snapshot true t other h = inr (inl (snapshot_of_key other t h))
      by_snapshot false t other h = by_node (is_node_key e.0) refl other t h

      by_one : (b : Bool) → (e.0 == 1) ≡ b
          → cond b (is_some (machine_of e.1.meta) && (e.1.length == 0)) (cond (is_snapshot_key e.0) (is_some (snapshot_of e.1.meta) && (e.1.length == 0)) (cond (is_node_key e.0) (reads_node (head_of e.1)) false)) ≡ true → IsOne e
      by_one true t h = inl (record { key = is_one e.0 t; empty = is_zero e.1.length (both_true (is_some (machine_of e.1.meta)) (e.1.length == 0) h).1 })
      by_one false t h = by_snapshot (is_snapshot_key e.0) refl (not_one e.0 t) h

-- ---- what records weigh together

module _ {X : Type 0} (P : ℕ × X → Type 0) where
  -- what is found by its key is each record
  pub each_found : (es : List (ℕ × X)) → Sorted es → ((k : ℕ) (x : X) → onward.at es k ≡ Some x → P (k, x)) → AllByRecursion P es
  each_found [] s all = tt
  each_found (e ∷ es) s all = (
    all e.0 e.1 (ap (λ b. cond b (Some e.1) (onward.at es e.0)) (at_same e.0 e.0 refl)),
    each_found es (tail_sorted e es s) (λ k x is. all k x (ap (λ b. cond b (Some e.1) (onward.at es k)) (at_other k e.0 (apart k x is)) ∙ is)),
  )
    where
      apart : (k : ℕ) (x : X) → onward.at es k ≡ Some x → k ≢ e.0
      apart k x is same = let none : None ≡ Some x = sym (none_below e.0 k es (head_above e es s) (omega (arith, same))) ∙ is in cc

module _ (cost : Record → ℕ) (snap : Snapshot → ℕ) (weight : NodeRow → ℕ) where
  -- what a record costs if it is the first
  abbrev first : ℕ × Record → ℕ
  first e = cond (is_at (nat_cmp 1) e.0) (cost e.1) 0

  abbrev pub Fits : ℕ × Record → Type 0
  Fits e = cost e.1 ≡ first e + option_map_or snap (snapshot_in (seen e)) 0 + option_map_or (λ x. weight x.1) (node_in (seen e)) 0

  -- one of the three fits, where it costs what it is to
  pub fits : (e : ℕ × Record) → ((s : IsSnapshotOf e) → cost e.1 ≡ snap s.snapshot) → ((n : IsNodeOf e) → cost e.1 ≡ weight n.row) → IsOne e → Fits e
  fits e snaps nodes (inl one) =
      let key = one.key in
      let at = ap (λ b. cond b (cost e.1) 0) (at_same 1 e.0 (sym key)) in
      let none : snapshot_in (seen e) ≡ None = subst (λ k. snapshot_in (k, head_of e.1) ≡ None) (sym key) refl in
      let no_node : node_in (seen e) ≡ None = subst (λ k. node_in (k, head_of e.1) ≡ None) (sym key) refl in
      omega (arith, at, ap (λ o. option_map_or snap o 0) none, ap (λ o. option_map_or (λ x. weight x.1) o 0) no_node)
  fits e snaps nodes (inr (inl s)) =
      let at = ap (λ b. cond b (cost e.1) 0) (at_other 1 e.0 (λ same. s.other (sym same))) in
      let no_node : node_in (seen e) ≡ None = ap (λ b. cond b (option_map (λ row. (e.0 - 2 ^ 62, row)) (node_of e.1.meta e.1.length)) None) s.low in
      omega (arith, at, snaps s, ap (λ o. option_map_or snap o 0) s.is, ap (λ o. option_map_or (λ x. weight x.1) o 0) no_node)
  fits e snaps nodes (inr (inr n)) =
      let at = ap (λ b. cond b (cost e.1) 0) (at_other 1 e.0 (λ same. n.other (sym same))) in
      let none : snapshot_in (seen e) ≡ None = ap (λ b. cond b (option_map (numbered_snapshot (e.0 - 2 ^ 40)) (snapshot_of e.1.meta)) None) n.high in
      omega (arith, at, nodes n, ap (λ o. option_map_or snap o 0) none, ap (λ o. option_map_or (λ x. weight x.1) o 0) n.is)

  snap_more : (o : Option Snapshot) (ss : List Snapshot) → sum_by snap (cons_option o ss) ≡ option_map_or snap o 0 + sum_by snap ss
  snap_more None ss = omega arith
  snap_more (Some s) ss = sum_by-cons snap s ss

  node_more : (o : Option (ℕ × NodeRow)) (g : List (ℕ × NodeRow)) → sum_by weight (values_of (cons_option o g)) ≡ option_map_or (λ x. weight x.1) o 0 + sum_by weight (values_of g)
  node_more None g = omega arith
  node_more (Some e) g = sum_by-cons weight e.1 (values_of g)

  first_more : (e : ℕ × Record) (es : Records) → Sorted (e ∷ es) → option_map_or cost (at 1 (e ∷ es)) 0 ≡ first e + option_map_or cost (at 1 es) 0
  first_more e es s = by_test (is_at (nat_cmp 1) e.0) refl
    where
      by_test : (b : Bool) → is_at (nat_cmp 1) e.0 ≡ b → option_map_or cost (cond b (Some e.1) (at 1 es)) 0 ≡ cond b (cost e.1) 0 + option_map_or cost (at 1 es) 0
      by_test true t = let le : 1 ≤ e.0 = grind (arith, nat_tests) in omega (arith, ap (λ o. option_map_or cost o 0) (none_below e.0 1 es (head_above e es s) le))
      by_test false t = omega arith

  -- the first, the snapshots and the nodes
  pub weigh : (es : Records) → Sorted es → AllByRecursion Fits es
      → sum_by cost (values_of es) ≡ option_map_or cost (at 1 es) 0 + sum_by snap (snapshots_in (heads_of es)) + sum_by weight (values_of (nodes_in (heads_of es)))
  weigh [] s all = refl
  weigh (e ∷ es) s all =
      omega (
        arith,
        sum_by-cons cost e.1 (values_of es),
        all.0,
        first_more e es s,
        snap_more (snapshot_in (seen e)) (snapshots_in (heads_of es)),
        node_more (node_in (seen e)) (nodes_in (heads_of es)),
        weigh es (tail_sorted e es s) all.1,
      )

-- ---- the text and the data

-- what a record takes of the table's text
abbrev pub text_cost : Record → ℕ
text_cost r = 20 + length r.meta + 4 * length r.blocks

pub text_sum : (es : Records) → length (table_text es) ≡ sum_by text_cost (values_of es)
unfolding table_text
text_sum [] = refl
text_sum (e ∷ es) = omega (arith, length-append (record_text e) (flat_map record_text es), length-record_text e, text_sum es, sum_by-cons text_cost e.1 (values_of es))

module _ (snapshots_found : SnapshotsAreFound) (nodes_found : NodesAreFound) (records : Records) (number : ℕ) (sorted : IsStrictlySortedBy nat_cmp (keys_of records)) (kept : All IsKept (values_of records)) (good : IsGoodStore (heads_of records) number) where
  kept_at : (k : ℕ) (r : Record) → at k records ≡ Some r → IsKept r
  kept_at k r is = subst (λ o. IfSome o IsKept) is (IfSome-lookup_from_All IsKept (is_at (nat_cmp k)) records kept)

  pub one_at : (k : ℕ) (r : Record) → at k records ≡ Some r → IsOne (k, r)
  one_at k r is = one_of snapshots_found nodes_found (k, r) ((good k).reads (head_of r) (head-at records k ∙ ap (λ o. option_map head_of o) is))

  -- a record's blocks are those of its data
  blocks_are : (r : Record) (size : ℕ) → IsKept r → r.length ≡ size → length r.blocks ≡ blob_len size
  blocks_are r size k is = k.many ∙ ap blob_len is

  first_at : (r : Record) → at 1 records ≡ Some r → length r.blocks ≡ 0
  first_at r is = by_kind (one_at 1 r is)
    where
      by_kind : IsOne (1, r) → length r.blocks ≡ 0
      by_kind (inl one) = blocks_are r 0 (kept_at 1 r is) one.empty
      by_kind (inr (inl s)) = absurd (s.other refl)
      by_kind (inr (inr n)) = absurd (n.other refl)

  all_fit : (cost : Record → ℕ) (snap : Snapshot → ℕ) (weight : NodeRow → ℕ)
      → ((e : ℕ × Record) → IsKept e.1 → (s : IsSnapshotOf e) → cost e.1 ≡ snap s.snapshot)
      → ((e : ℕ × Record) → IsKept e.1 → (n : IsNodeOf e) → cost e.1 ≡ weight n.row)
      → sum_by cost (values_of records) ≡ option_map_or cost (at 1 records) 0 + sum_by snap (snapshots_in (heads_of records)) + sum_by weight (values_of (nodes_in (heads_of records)))
  all_fit cost snap weight snaps nodes = weigh cost snap weight records sorted
      (each_found (Fits cost snap weight) records sorted (λ k r is. fits cost snap weight (k, r) (snaps (k, r) (kept_at k r is)) (nodes (k, r) (kept_at k r is)) (one_at k r is)))

  pub text_told : (machine : List ℕ) → MachinesAreFound → machine_in (heads_of records) ≡ Some machine
      → length (table_text records) ≡ store_len machine (snapshots_in (heads_of records)) (nodes_in (heads_of records))
  text_told machine machines_found named =
      omega (
        arith,
        text_sum records,
        all_fit text_cost snapshot_len node_len
            (λ e k s. let m = s.meta in let b = blocks_are e.1 0 k s.empty in λ i. 20 + length (m i) + 4 * b i)
            (λ e k n. let m = n.meta in let b = blocks_are e.1 (node_length n.row) k n.size in λ i. 20 + length (m i) + 4 * b i),
        by_first (at 1 records) refl (sym (ap (λ o. option_and_then (λ h. machine_of h.meta) o) (head-at records 1)) ∙ named),
      )
    where
      by_first : (o : Option Record) → at 1 records ≡ o → option_and_then (λ h. machine_of h.meta) (option_map head_of o) ≡ Some machine → option_map_or text_cost o 0 ≡ record_len (length (machine_text machine)) 0
      by_first None is found = absurd (cc found)
      by_first (Some r) is found =
          let meta = ((machines_found r.meta machine).0 found).spelled in
          let blocks = first_at r is in λ i. 20 + length (meta i) + 4 * blocks i

  none_of : (ss : List Snapshot) → sum_by (λ s. 0) ss ≡ 0
  none_of [] = refl
  none_of (s ∷ ss) = omega (arith, sum_by-cons (λ (s : Snapshot). 0) s ss, none_of ss)

  pub data_told : data_len records ≡ sum_by (λ row. blob_len (node_length row)) (values_of (nodes_in (heads_of records)))
  data_told =
      omega (
        arith,
        all_fit (λ r. length r.blocks) (λ s. 0) (λ row. blob_len (node_length row)) (λ e k s. blocks_are e.1 0 k s.empty) (λ e k n. blocks_are e.1 (node_length n.row) k n.size),
        by_first (at 1 records) refl,
        none_of (snapshots_in (heads_of records)),
      )
    where
      by_first : (o : Option Record) → at 1 records ≡ o → option_map_or (λ r. length r.blocks) o 0 ≡ 0
      by_first None is = refl
      by_first (Some r) is = first_at r is

-- the table of a store in memory
pub table_told : TextIsTold → TableIsTold
table_told told h whole =
    let sound = whole.sound in
    let text = told h.image.records h.number h.machine sound.rising sound.each whole.good whole.machine_is in
    ap blocks_for (text ∙ λ i. store_len h.machine (sym whole.snapshots_are i) (sym whole.nodes_are i))
