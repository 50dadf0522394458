-- The sizes of a store are those of its nodes.
use Rattle.std.proofs.Common.{◌≡◌, inl, inr, ℕ, ◌+◌, ◌-◌, ◌^◌, Bool, true, false, cond, Option, Some, None, List, [], ◌∷◌, ◌++◌, length, map, refl, sym, ap, ◌∙◌, arith, subst, length-append}
use Rattle.std.specs.List.{AllByRecursion, sum_by, flat_map, cons_option}
use Rattle.std.specs.Map.{values_of}
use Rattle.std.specs.BTreeMap.{is_at}
use Rattle.std.specs.Ordering.{nat_cmp}
use Rattle.std.specs.Option.{option_map, unwrap_or}
use Rattle.std.proofs.lemmas.Bool.Decides.{nat_tests}
use Rattle.std.proofs.lemmas.List.Sums.{sum_by-cons}
use Rattle.tm_base.specs.Paths.{Names}
use Rattle.tm_chain.specs.Blob.{blob_len, bytes_in}
use Rattle.tm_codec.specs.Fields.{u32_text, u64_text, u128_text, short_text}
use Rattle.tm_codec.proofs.Fields.{length-u32_text, length-u64_text, length-u128_text, length-short_text}
use Rattle.tm_tree.specs.declared.node.Child.{Child}
use Rattle.tm_tree.specs.declared.node.LeafRow.TheVariants.{File, Link}
use Rattle.tm_tree.specs.declared.node.NodeBody.{NodeBody}
use Rattle.tm_tree.specs.declared.node.NodeBody.TheVariants.{Folder, Leaf}
use Rattle.tm_tree.specs.declared.node.NodeRow.{NodeRow}
use Rattle.tm_tree.specs.Copies.{LabelledTree}
use Rattle.tm_tree.specs.Trees.{children, last_of}
use Rattle.tm_tree.specs.Items.{bytes_of}
use Rattle.tm_graph.specs.Nodes.{Nodes, node, entries_of}
use Rattle.tm_graph.specs.Trees.{rows_of}
use Rattle.tm_nodes.specs.declared.snapshot.SnapshotRow.{SnapshotRow}
use Rattle.tm_nodes.specs.Attrs.{attrs_text}
use Rattle.tm_nodes.specs.Headers.{snapshot_text}
use Rattle.tm_nodes.specs.Kinds.{kind_text}
use Rattle.tm_nodes.specs.Records.{node_of}
use Rattle.tm_nodes.specs.Nodes.{node_text, node_kind, node_attrs, node_tail, entries_text, child_text}
use Rattle.tm_identity.specs.Stored.{node_length, body_length, Lengths, WeighsAt, SumsAreCounted, StoredIsCounted}
use Rattle.tm_identity.specs.Stores.{IsStore, Labels, trees_of}
use Rattle.tm_identity.specs.Sums.{item_length, sum_over, identity_count}
use Rattle.tm_identity.proofs.Entries.{names_in, names_are}
use Rattle.tm_identity.proofs.Once.{once_over}
use Rattle.tm_records.specs.declared.record.Record.{Record}
use Rattle.tm_records.specs.Records.{Records, at}
use Rattle.tm_image.specs.Laws.{TableFits, BlocksAreShared}
use Rattle.tm_image.specs.Layout.{blocks_for}
use Rattle.tm_store_records.specs.declared.snapshot.Snapshot.{Snapshot}
use Rattle.tm_store_records.specs.Heads.{heads_of}
use Rattle.tm_store_records.specs.Found.{node_key, node_in, nodes_in, snapshots_in, roots_of}
use Rattle.tm_store_records.specs.Held.{files_of}
use Rattle.tm_store_records.specs.Laws.{GoodIsStore, HeldIsStore, HeldFiles, HeldLengths, HeldSizes, SizesAreTold, TableIsTold, DataIsTold}
use Rattle.tm_store_records.specs.Room.{row_of_snapshot, snapshot_len, node_len, record_len}
use Rattle.tm_store_records.specs.Sizes.{entries_beneath, labelled_len, snapshot_row, snapshot_text_len, trees_in, store_of}
use Rattle.tm_store_records.specs.States.{item_on, labelled_on, snapshot_on}
use Rattle.tm_store_records.proofs.Noding.{NodesAreFound}
use Rattle.tm_store_records.proofs.Reading.{head_of, heads_sorted}
use Rattle.tm_store_records.proofs.Storing.{length-bytes_in}
use Rattle.tm_store_records.proofs.Telling.{SnapshotsAreFound, IsOne, seen, one_at, each_found, at_most}

-- ---- the text of a node is as long whatever its numbers

kind-part : (row : NodeRow) → length (node_text row) ≡ length (kind_text (node_kind row.body)) + 16 + length (attrs_text (node_attrs row.body)) + length (node_tail row.body)
unfolding node_text
kind-part row =
    let k = kind_text (node_kind row.body) in
    let l = u64_text row.label in
    let n = u64_text row.links in
    let a = attrs_text (node_attrs row.body) in
    let t = node_tail row.body in
    omega (arith, length-append (k ++ l ++ n ++ a) t, length-append (k ++ l ++ n) a, length-append (k ++ l) n, length-append k l, length-u64_text row.label, length-u64_text row.links)

-- what names take
abbrev name_cost : List ℕ → ℕ
name_cost name = 9 + length name

child-len : (c : Child) → length (child_text c) ≡ name_cost c.name
unfolding child_text
child-len c = omega (arith, length-append (short_text c.name) (u64_text c.node), length-short_text c.name, length-u64_text c.node)

children-len : (es : List Child) → length (flat_map child_text es) ≡ sum_by name_cost (map (λ c. c.name) es)
children-len [] = refl
children-len (c ∷ es) = omega (arith, length-append (child_text c) (flat_map child_text es), child-len c, children-len es, sum_by-cons name_cost c.name (map (λ (c : Child). c.name) es))

entries-len : (es : List Child) → length (entries_text es) ≡ 4 + sum_by name_cost (map (λ c. c.name) es)
unfolding entries_text
entries-len es = omega (arith, length-append (u32_text (length es)) (flat_map child_text es), length-u32_text (length es), children-len es)

-- the entries that a tree has at a path have its names
names_at : (t : LabelledTree) (p : Names) → map (λ c. c.name) (entries_beneath t p) ≡ names_in t p
names_at t p = of (children t p)
  where
    of : (rows : LabelledTree) → map (λ (c : Child). c.name) (map (λ row. record { name = last_of row.0; node = 0 }) rows) ≡ map (λ row. last_of row.0) rows
    of [] = refl
    of (row ∷ rows) = ap (λ (ns : List (List ℕ)). last_of row.0 ∷ ns) (of rows)

module _ (t : LabelledTree) (p : Names) (bytes : List ℕ) (label links : ℕ) where
  abbrev Alike : NodeBody → Type 0
  Alike body = labelled_len t p (record { label = label; item = item_on bytes body }) ≡ node_len (record { label = label; links = links; body = body })

  row_alike : (body : NodeBody) → length (bytes_of (item_on bytes body)) ≡ body_length body → ((attrs : _) (es : List Child) → body ≡ Folder attrs es → names_in t p ≡ map (λ c. c.name) es) → Alike body
  row_alike (Folder attrs es) size named =
      let names = names_at t p ∙ named attrs es refl in
      let same : length (node_text (record { label = label; links = 0; body = Folder attrs (entries_beneath t p) })) ≡ length (node_text (record { label = label; links = links; body = Folder attrs es }))
      = omega (
        arith,
        kind-part (record { label = label; links = 0; body = Folder attrs (entries_beneath t p) }),
        kind-part (record { label = label; links = links; body = Folder attrs es }),
        entries-len (entries_beneath t p),
        entries-len es,
        ap (λ (ns : List (List ℕ)). sum_by name_cost ns) names,
      ) in
      ap (λ n. record_len n 0) same
  row_alike (Leaf (File attrs stamp long)) size named =
      let same : length (node_text (record { label = label; links = 0; body = Leaf (File attrs stamp (length bytes)) })) ≡ length (node_text (record { label = label; links = links; body = Leaf (File attrs stamp long) }))
      = kind-part (record { label = label; links = 0; body = Leaf (File attrs stamp (length bytes)) }) ∙ sym (kind-part (record { label = label; links = links; body = Leaf (File attrs stamp long) })) in
      λ i. record_len (same i) (size i)
  row_alike (Leaf (Link attrs stamp target)) size named =
      let same : length (node_text (record { label = label; links = 0; body = Leaf (Link attrs stamp target) })) ≡ length (node_text (record { label = label; links = links; body = Leaf (Link attrs stamp target) }))
      = kind-part (record { label = label; links = 0; body = Leaf (Link attrs stamp target) }) ∙ sym (kind-part (record { label = label; links = links; body = Leaf (Link attrs stamp target) })) in
      ap (λ n. record_len n 0) same

-- ---- the text of a snapshot

snapshot-part : (row : SnapshotRow) → length (snapshot_text row) ≡ 49 + length row.volume
unfolding snapshot_text
snapshot-part row =
    let d = u64_text row.date in
    let i = u128_text row.id in
    let g = u64_text row.mark.generation in
    let c = u64_text row.mark.cursor in
    let v = short_text row.volume in
    let r = u64_text row.root in
    omega (
      arith,
      length-append (d ++ i ++ g ++ c ++ v) r,
      length-append (d ++ i ++ g ++ c) v,
      length-append (d ++ i ++ g) c,
      length-append (d ++ i) g,
      length-append d i,
      length-u64_text row.date,
      length-u128_text row.id,
      length-u64_text row.mark.generation,
      length-u64_text row.mark.cursor,
      length-short_text row.volume,
      length-u64_text row.root,
    )

-- ---- a store over a graph

module _ (files : ℕ → List ℕ) (g : Nodes) where
  heads-len : (ss : List Snapshot) → sum_by snapshot_text_len (map (snapshot_on files g) ss) ≡ sum_by snapshot_len ss
  heads-len [] = refl
  heads-len (s ∷ ss) =
      omega (
        arith,
        sum_by-cons snapshot_text_len (snapshot_on files g s) (map (snapshot_on files g) ss),
        sum_by-cons snapshot_len s ss,
        heads-len ss,
        snapshot-part (snapshot_row (snapshot_on files g s)),
        snapshot-part (row_of_snapshot s),
      )

  trees-are : (ss : List Snapshot) → map (λ s. s.tree) (map (snapshot_on files g) ss) ≡ trees_of (labelled_on files) g (roots_of ss)
  trees-are [] = refl
  trees-are (s ∷ ss) = ap (λ (ts : List LabelledTree). rows_of (labelled_on files) g s.root ∷ ts) (trees-are ss)

  labels : Labels (labelled_on files) g
  labels n row e = refl

  module _ (roots : List ℕ) (st : IsStore g roots) (long : Lengths (labelled_on files) g) where
    weighs : WeighsAt (labelled_on files) g roots labelled_len node_len
    weighs r n p row at e = row_alike (rows_of (labelled_on files) g r) p (files n) row.label row.links row.body (long n row e)
        (λ attrs es is. names_are (labelled_on files) g st.graph r n p row at.1 e ∙ ap (λ (b : NodeBody). map (λ (c : Child). c.name) (entries_of (record row { body = b }))) is)

    data_weighs : WeighsAt (labelled_on files) g roots (λ t p l. blob_len (item_length l)) (λ row. blob_len (node_length row))
    data_weighs r n p row at e = ap blob_len (long n row e)

-- the sizes of a store over a graph
pub sizes_told : SumsAreCounted → StoredIsCounted → SizesAreTold
sizes_told sums stored machine number files g snapshots st long =
    let roots = roots_of snapshots in
    let v = labelled_on files in
    let trees = trees-are files g snapshots in
    let items = sums v g roots labelled_len node_len (labels files g) st (weighs files g roots st long) in
    let blobs = sums v g roots (λ t p l. blob_len (item_length l)) (λ row. blob_len (node_length row)) (labels files g) st (data_weighs files g roots st long) in
    record {
      table = ap blocks_for (omega (arith, heads-len files g snapshots, ap (λ (ts : List LabelledTree). sum_over labelled_len ts) trees, items));
      blobs = once_over (λ l. blob_len (item_length l)) (trees_in (store_of machine number files g snapshots)) ∙ ap (λ (ts : List LabelledTree). sum_over (λ t p l. blob_len (item_length l)) ts) trees ∙ blobs;
      nodes = ap (λ (ts : List LabelledTree). identity_count ts) trees ∙ (stored v g roots (labels files g) st).1;
    }

-- ---- a store in memory

-- a file has as many bytes as its node says
module _ (records : Records) (bytes : ℕ → List ℕ) where
  abbrev IsLong : ℕ × Record → Type 0
  IsLong e = (x : ℕ × NodeRow) → node_in (seen e) ≡ Some x → length (files_of records bytes x.0) ≡ node_length x.1

  long_one : (k : ℕ) (r : Record) → at k records ≡ Some r → IsOne (k, r) → IsLong (k, r)
  long_one k r is (inl one) x found = absurd (let none : node_in (k, head_of r) ≡ None = subst (λ q. node_in (q, head_of r) ≡ None) (sym one.key) refl in let both : None ≡ Some x = sym none ∙ found in cc)
  long_one k r is (inr (inl s)) x found =
      absurd (let none : node_in (k, head_of r) ≡ None = ap (λ b. cond b (option_map (λ row. (k - 2 ^ 62, row)) (node_of r.meta r.length)) None) s.low in let both : None ≡ Some x = sym none ∙ found in cc)
  long_one k r is (inr (inr n)) x found =
      let low = at_most (2 ^ 62) k n.key in
      let here : at (node_key (k - 2 ^ 62)) records ≡ Some r = subst (λ q. at q records ≡ Some r) (omega (arith, low)) is in
      let long : length (files_of records bytes (k - 2 ^ 62)) ≡ node_length n.row
      = ap (λ (o : Option Record). length (unwrap_or (option_map (λ r. bytes_in r.blocks bytes 0 r.length) o) [])) here ∙ length-bytes_in r bytes ∙ n.size in
      let both : Some (k - 2 ^ 62, n.row) ≡ Some x = sym n.is ∙ found in
      let same : (k - 2 ^ 62, n.row) ≡ x = cc in
      subst (λ (y : ℕ × NodeRow). length (files_of records bytes y.0) ≡ node_length y.1) same long

  long_all : (es : Records) → AllByRecursion IsLong es → (n : ℕ) (row : NodeRow) → node (nodes_in (heads_of es)) n ≡ Some row → length (files_of records bytes n) ≡ node_length row
  long_all [] each n row is = absurd (cc is)
  long_all (e ∷ es) each n row is = by_node (node_in (seen e)) refl is (long_all es each.1 n row)
    where
      by_number : (x : ℕ × NodeRow) → node_in (seen e) ≡ Some x → (b : Bool) → is_at (nat_cmp n) x.0 ≡ b → cond b (Some x.1) (node (nodes_in (heads_of es)) n) ≡ Some row
          → (node (nodes_in (heads_of es)) n ≡ Some row → length (files_of records bytes n) ≡ node_length row) → length (files_of records bytes n) ≡ node_length row
      by_number x here true t found rest =
          let same : n ≡ x.0 = grind (arith, nat_tests) in
          let rows : x.1 ≡ row = cc in
          (λ i. length (files_of records bytes (same i))) ∙ each.0 x here ∙ ap node_length rows
      by_number x here false t found rest = rest found

      by_node : (o : Option (ℕ × NodeRow)) → node_in (seen e) ≡ o → node (cons_option o (nodes_in (heads_of es))) n ≡ Some row
          → (node (nodes_in (heads_of es)) n ≡ Some row → length (files_of records bytes n) ≡ node_length row) → length (files_of records bytes n) ≡ node_length row
      by_node None here found rest = rest found
      by_node (Some x) here found rest = by_number x here (is_at (nat_cmp n) x.0) refl found rest

-- so the items do
items_long : (bytes : List ℕ) (body : NodeBody) → length bytes ≡ body_length body → length (bytes_of (item_on bytes body)) ≡ body_length body
items_long bytes (Folder attrs es) long = refl
items_long bytes (Leaf (File attrs stamp size)) long = long
items_long bytes (Leaf (Link attrs stamp target)) long = refl

pub held_files : SnapshotsAreFound → NodesAreFound → HeldFiles
held_files snapshots_found nodes_found h bytes n row whole is =
    let records = h.image.records in
    let sound = whole.sound in
    let each = each_found (IsLong records bytes) records sound.rising (λ k r there. long_one records bytes k r there (one_at snapshots_found nodes_found records h.number sound.rising sound.each whole.good k r there)) in
    long_all records bytes records each n row (ap (λ (g : Nodes). node g n) (sym whole.nodes_are) ∙ is)

pub held_lengths : HeldFiles → HeldLengths
held_lengths files h bytes whole n row is = items_long (files_of h.image.records bytes n) row.body (files h bytes n row whole is)

pub held_store : GoodIsStore → HeldIsStore
held_store good h whole =
    let heads = heads_of h.image.records in
    let sound = whole.sound in
    let found : IsStore (nodes_in heads) (roots_of (snapshots_in heads)) = good heads h.number whole.fits.most (heads_sorted h.image.records sound.rising) whole.good in
    let over_nodes = subst (λ (g : Nodes). IsStore g (roots_of (snapshots_in heads))) (sym whole.nodes_are) found in
    subst (λ (ss : List Snapshot). IsStore h.nodes (roots_of ss)) (sym whole.snapshots_are) over_nodes

pub held_sizes : HeldIsStore → HeldLengths → TableIsTold → DataIsTold → SizesAreTold → TableFits → BlocksAreShared → HeldSizes
held_sizes store lengths table blobs told fits shared h bytes whole =
    let records = h.image.records in
    let sound = whole.sound in
    let sizes = told h.machine h.number (files_of records bytes) h.nodes h.snapshots (store h whole) (lengths h bytes whole) in
    let blocks = table h whole ∙ sym sizes.table in
    let used = blobs records h.number sound.rising sound.each whole.good ∙ ap (λ (g : Nodes). sum_by (λ row. blob_len (node_length row)) (values_of g)) (sym whole.nodes_are) ∙ sym sizes.blobs in
    record {
      table = sym sizes.table;
      blobs = used;
      nodes = sym sizes.nodes;
      free = omega (arith, shared h.image h.staged sound whole.blobs, fits h.image sound whole.settled, blocks, used);
    }
