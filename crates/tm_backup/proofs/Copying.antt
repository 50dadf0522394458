-- What was made is what the finished backup keeps.
use Rattle.std.proofs.Common.{◌≡◌, zero, suc, ℕ, ◌+◌, ◌-◌, ◌<◌, Bool, true, false, cond, nat_lt, ◌==◌, if◌then◌else◌, Option, Some, None, is_some, List, [], ◌∷◌, ◌++◌, map, refl, sym, ap, ◌∙◌, subst, arith}
use Rattle.std.specs.List.{All, cons_option, flat_map, last_or}
use Rattle.std.specs.Option.{option_map, unwrap_or}
use Rattle.std.specs.BTreeMap.{is_at}
use Rattle.std.specs.Map.{lookup}
use Rattle.std.specs.Ordering.{nat_cmp}
use Rattle.std.specs.Cmp.{unsigned_Decides}
use Rattle.std.proofs.lemmas.Bool.Decides.{nat_tests}
use Rattle.std.proofs.lemmas.List.Elements.{All-head, All-tail}
use Rattle.tm_world.specs.declared.bytes.Blob.{Blob}
use Rattle.tm_tree.specs.declared.rows.Mark.{Mark}
use Rattle.tm_tree.specs.declared.item.Item.{Item}
use Rattle.tm_tree.specs.declared.node.Child.{Child}
use Rattle.tm_tree.specs.declared.node.LeafRow.TheVariants.{File, Link}
use Rattle.tm_tree.specs.declared.node.NodeBody.{NodeBody}
use Rattle.tm_tree.specs.declared.node.NodeBody.TheVariants.{Folder, Leaf}
use Rattle.tm_tree.specs.declared.node.NodeRow.{NodeRow}
use Rattle.tm_tree.specs.Trees.{IsTree}
use Rattle.tm_tree.specs.Copies.{LabelledTree, bare, copy}
use Rattle.tm_tree.specs.States.{StoreState, VolumeState, Snapshot as StoredSnapshot, tree_of_volume, base, backed_up, snapshot_of}
use Rattle.tm_graph.specs.declared.built.Built.{Built}
use Rattle.tm_graph.specs.Nodes.{Nodes, node, greatest, entries_of, IsGraph}
use Rattle.tm_graph.specs.Trees.{under, rows_with, rows_to, rows_of}
use Rattle.tm_graph.proofs.PlaceAt.{or_else}
use Rattle.tm_fit.specs.Fit.{Fits, SnapshotsFit, SnapshotFits, StampsAgree}
use Rattle.tm_image.specs.Seen.{Seen as Image}
use Rattle.tm_store_records.specs.Held.{Held, store_on, files_of}
use Rattle.tm_store_records.specs.Built.{bytes_of_blob, files_built, snapshot_built, store_completed}
use Rattle.tm_store_records.specs.States.{item_on, labelled_on, snapshot_on}
use Rattle.tm_volume.specs.Seen.{Seen, volume_on}
use Rattle.tm_copy.specs.Making.{Making, IsMaking, lengths_of, file_length}
use Rattle.tm_copy.specs.Reading.{labelled}
use Rattle.tm_copy.specs.Stamps.{StampsTell}
use Rattle.tm_copy.specs.Building.{Backup, prev, first, next, all, all_files}
use Rattle.tm_copy.proofs.Appended.{node-append, old_below}
use Rattle.tm_copy.proofs.Telling.{agreeing_tell}
use Rattle.tm_backup.specs.Growing.{IsFilled}
use Rattle.tm_backup.specs.Taking.{base_root, view_on, backup_of}
use Rattle.tm_backup.proofs.Basing.{reads_same, base_tree}
use Rattle.tm_backup.proofs.Ending.{in_volume}
use Rattle.tm_backup.proofs.Making.{IsMadeOf}
use Rattle.tm_backup.proofs.Taking.{taken_is}

-- ---- rows read only nodes that are there

module _ {X : Type 0} (v w : ℕ → NodeRow → X) (g : Nodes) (alike : (n : ℕ) (row : NodeRow) → node g n ≡ Some row → v n row ≡ w n row) where
  rows_alike_to : (depth n : ℕ) → rows_to v depth g n ≡ rows_to w depth g n
  rows_alike_to zero n = refl
  rows_alike_to (suc depth) n = by_node (node g n) refl (λ m. rows_alike_to depth m)
    where
      by_node : (o : Option NodeRow) → node g n ≡ o → ((m : ℕ) → rows_to v depth g m ≡ rows_to w depth g m) → rows_with v o n (rows_to v depth g) ≡ rows_with w o n (rows_to w depth g)
      by_node None is rest = refl
      by_node (Some row) is rest = λ i. ([], alike n row is i) ∷ flat_map (λ (child : Child). under child.name (rest child.node i)) (entries_of row)

  rows_alike : (n : ℕ) → rows_of v g n ≡ rows_of w g n
  rows_alike n = rows_alike_to (suc n) n

-- ---- the blob of a file

-- where a blob of this number is, it holds these bytes
blob_found : (blobs : List (ℕ × Blob)) (n : ℕ) (top : ℕ) (told : Type 0) (bytes other : ℕ → List ℕ) → told → All (IsFilled told top bytes other) blobs → (b : Blob) → lookup (is_at (nat_cmp n)) blobs ≡ Some b
    → bytes_of_blob bytes b ≡ other n
blob_found [] n top told bytes other t each b is = absurd (cc is)
blob_found (x ∷ blobs) n top told bytes other t each b is = by_at (is_at (nat_cmp n) x.0) refl (λ later. blob_found blobs n top told bytes other t (All-tail (IsFilled told top bytes other) x blobs each) b later) is
  where
    by_at : (k : Bool) → is_at (nat_cmp n) x.0 ≡ k → (lookup (is_at (nat_cmp n)) blobs ≡ Some b → bytes_of_blob bytes b ≡ other n) → cond k (Some x.1) (lookup (is_at (nat_cmp n)) blobs) ≡ Some b → bytes_of_blob bytes b ≡ other n
    by_at true at rest h =
        let same : x.1 ≡ b = cc h in
        let number : x.0 ≡ n = grind (arith, nat_tests) in
        ap (bytes_of_blob bytes) (sym same) ∙ (All-head (IsFilled told top bytes other) x blobs each).holds t ∙ ap other number
    by_at false off rest h = rest h

-- each number of these has a blob
number_found : (blobs : List (ℕ × Blob)) (n : ℕ) → is_some (lookup (is_at (nat_cmp n)) (map {B = ℕ × ℕ} (λ (x : ℕ × Blob). (x.0, x.1.length)) blobs)) ≡ is_some (lookup (is_at (nat_cmp n)) blobs)
number_found [] n = refl
number_found (x ∷ blobs) n = by_at (is_at (nat_cmp n) x.0) (number_found blobs n)
  where
    by_at : (k : Bool) → is_some (lookup (is_at (nat_cmp n)) (map {B = ℕ × ℕ} (λ (x : ℕ × Blob). (x.0, x.1.length)) blobs)) ≡ is_some (lookup (is_at (nat_cmp n)) blobs)
        → is_some (cond k (Some x.1.length) (lookup (is_at (nat_cmp n)) (map {B = ℕ × ℕ} (λ (x : ℕ × Blob). (x.0, x.1.length)) blobs))) ≡ is_some (cond k (Some x.1) (lookup (is_at (nat_cmp n)) blobs))
    by_at true rest = refl
    by_at false rest = rest

abbrev keyed : ℕ → ℕ → ℕ × ℕ
keyed n size = (n, size)

-- a file among the nodes has a length
file_found : (nodes : Nodes) (n size : ℕ) (row : NodeRow) → node nodes n ≡ Some row → file_length row.body ≡ Some size → is_some (lookup (is_at (nat_cmp n)) (lengths_of nodes)) ≡ true
file_found [] n size row is file = absurd (cc is)
file_found (e ∷ nodes) n size row is file = by_at (is_at (nat_cmp n) e.0) refl is (λ later. file_found nodes n size row later file)
  where
    by_size : (o : Option ℕ) → is_some (lookup (is_at (nat_cmp n)) (lengths_of nodes)) ≡ true → is_some (lookup (is_at (nat_cmp n)) (cons_option (option_map (keyed e.0) o) (lengths_of nodes))) ≡ true
    by_size None rest = rest
    by_size (Some k) rest = by_key (is_at (nat_cmp n) e.0)
      where
        by_key : (b : Bool) → is_some (cond b (Some k) (lookup (is_at (nat_cmp n)) (lengths_of nodes))) ≡ true
        by_key true = refl
        by_key false = rest

    by_here : (o : Option ℕ) → o ≡ Some size → is_at (nat_cmp n) e.0 ≡ true → is_some (lookup (is_at (nat_cmp n)) (cons_option (option_map (keyed e.0) o) (lengths_of nodes))) ≡ true
    by_here None f at = absurd (cc f)
    by_here (Some k) f at = ap (λ b. is_some (cond b (Some k) (lookup (is_at (nat_cmp n)) (lengths_of nodes)))) at

    by_at : (b : Bool) → is_at (nat_cmp n) e.0 ≡ b → cond b (Some e.1) (node nodes n) ≡ Some row → (node nodes n ≡ Some row → is_some (lookup (is_at (nat_cmp n)) (lengths_of nodes)) ≡ true) → is_some (lookup (is_at (nat_cmp n)) (lengths_of (e ∷ nodes))) ≡ true
    by_at true at h rest = let same : e.1 ≡ row = cc h in by_here (file_length e.1.body) (ap (λ (r : NodeRow). file_length r.body) same ∙ file) at
    by_at false off h rest = by_size (file_length e.1.body) (rest h)

-- a node reads alike where its file has the same bytes
item_alike : (x y : List ℕ) (body : NodeBody) → ((size : ℕ) → file_length body ≡ Some size → x ≡ y) → item_on x body ≡ item_on y body
item_alike x y (Folder a es) same = refl
item_alike x y (Leaf (File a s n)) same = ap (λ (z : List ℕ). item_on z (Leaf (File a s n))) (same n refl)
item_alike x y (Leaf (Link a s t)) same = refl

-- ---- where the volume fits the store

one_fits : (v : VolumeState) (x s : StoredSnapshot) → (x.id ≡ v.id → SnapshotFits v x) → Some x ≡ Some s → s.id ≡ v.id → SnapshotFits v s
one_fits v x s fit is same = let one : x ≡ s = cc is in subst (λ (y : StoredSnapshot). SnapshotFits v y) one (fit (ap (λ (y : StoredSnapshot). y.id) one ∙ same))

latest_fits : (v : VolumeState) (o : Option StoredSnapshot) (snapshots : List StoredSnapshot) → SnapshotsFit v snapshots → ((s : StoredSnapshot) → o ≡ Some s → s.id ≡ v.id → SnapshotFits v s)
    → (s : StoredSnapshot) → last_or o snapshots ≡ Some s → s.id ≡ v.id → SnapshotFits v s
latest_fits v o [] fit first s is same = first s is same
latest_fits v o (x ∷ snapshots) fit first s is same = latest_fits v (Some x) snapshots fit.1 (λ y e f. one_fits v x y fit.0 e f) s is same

-- stamps of the base's tree tell the items of the volume
base_agrees : (v : VolumeState) (store : StoreState) → SnapshotsFit v store.snapshots → StampsAgree (bare (base store v.id)) v.contents.tree
base_agrees v store fit = by_last (last_or None store.snapshots) refl
  where
    nothing : StampsAgree (bare []) v.contents.tree
    nothing p q d e x was is sd se = absurd (cc was)

    none_fits : (s : StoredSnapshot) → None ≡ Some s → s.id ≡ v.id → SnapshotFits v s
    none_fits s is same = absurd (cc is)

    by_id : (s : StoredSnapshot) (b : Bool) → last_or None store.snapshots ≡ Some s → (s.id == v.id) ≡ b → StampsAgree (bare (if b then s.tree else [])) v.contents.tree
    by_id s true is same = (latest_fits v None store.snapshots fit none_fits s is ((unsigned_Decides s.id v.id).0 same)).agree
    by_id s false is other = nothing

    by_last : (o : Option StoredSnapshot) → last_or None store.snapshots ≡ o → StampsAgree (bare (tree_of_volume v.id (last_or None store.snapshots))) v.contents.tree
    by_last None is = subst (λ (o : Option StoredSnapshot). StampsAgree (bare (tree_of_volume v.id o)) v.contents.tree) (sym is) nothing
    by_last (Some s) is = subst (λ (o : Option StoredSnapshot). StampsAgree (bare (tree_of_volume v.id o)) v.contents.tree) (sym is) (by_id s (s.id == v.id) is refl)

-- ---- the store afterwards

module _ (told : Type 0) (t : told) (s : Held) (v : Seen) (bytes start stored : ℕ → List ℕ) (image : Image) (now : List ℕ) (n : ℕ) (m : Making) (staged : List ℕ)
    (made : IsMadeOf told (backup_of s (files_of image.records stored) (base_root s v.head.id) (view_on v bytes)) stored m n staged) (making : IsMaking m)
    (graph : IsGraph s.nodes) (tree : IsTree (view_on v bytes)) (state : store_on (record s { image = image; staged = now }) stored ≡ store_on s start) (fit : Fits (Some (volume_on v bytes)) (Some (store_on s start))) where
  abbrev b : Backup
  b = backup_of s (files_of image.records stored) (base_root s v.head.id) (view_on v bytes)

  abbrev built : Built
  built = record { root = n; nodes = m.nodes; blobs = m.blobs }

  abbrev after : Held
  after = record s { image = image; staged = now }

  abbrev blob_at : ℕ → Option Blob
  blob_at k = lookup (is_at (nat_cmp k)) m.blobs

  -- a new file has its blob's bytes
  new_bytes : (k size : ℕ) (row : NodeRow) → node m.nodes k ≡ Some row → file_length row.body ≡ Some size → unwrap_or (option_map (bytes_of_blob stored) (blob_at k)) [] ≡ made.other k
  new_bytes k size row there file = by_blob (blob_at k) refl
      (sym (number_found m.blobs k) ∙ ap (λ (xs : List (ℕ × ℕ)). is_some (lookup (is_at (nat_cmp k)) xs)) making.files ∙ file_found m.nodes k size row there file)
    where
      by_blob : (o : Option Blob) → blob_at k ≡ o → is_some o ≡ true → unwrap_or (option_map (bytes_of_blob stored) o) [] ≡ made.other k
      by_blob None is some = absurd (cc some)
      by_blob (Some x) is some = blob_found m.blobs k (next b m.nodes) told stored made.other t made.filled x is

  new_node : (k : ℕ) (row : NodeRow) → greatest s.nodes < k → node (all b m.nodes) k ≡ Some row → node m.nodes k ≡ Some row
  new_node k row above there = by_node (node s.nodes k) refl (sym (node-append s.nodes m.nodes k) ∙ there)
    where
      by_node : (o : Option NodeRow) → node s.nodes k ≡ o → or_else o (node m.nodes k) ≡ Some row → node m.nodes k ≡ Some row
      by_node None is e = e
      by_node (Some old) is e = absurd (let low = old_below b k graph (ap is_some is) in omega (arith, low, above))

  same_bytes : (k size : ℕ) (row : NodeRow) → node (all b m.nodes) k ≡ Some row → file_length row.body ≡ Some size → files_built after built stored k ≡ all_files b made.other k
  same_bytes k size row there file = by_new (nat_lt (greatest s.nodes) k) refl
    where
      by_new : (c : Bool) → nat_lt (greatest s.nodes) k ≡ c
          → cond c (unwrap_or (option_map (bytes_of_blob stored) (blob_at k)) []) (files_of image.records stored k) ≡ cond c (made.other k) (files_of image.records stored k)
      by_new true is = let above : greatest s.nodes < k = grind (arith, nat_tests) in new_bytes k size row (new_node k row above there) file
      by_new false is = refl

  same_reads : (k : ℕ) (row : NodeRow) → node (all b m.nodes) k ≡ Some row → labelled_on (files_built after built stored) k row ≡ labelled (all_files b made.other) k row
  same_reads k row there =
      ap (λ (e : Item). record { label = row.label; item = e }) (item_alike (files_built after built stored k) (all_files b made.other k) row.body (λ size file. same_bytes k size row there file))
      ∙ sym (reads_same (all_files b made.other) k row)

  tree_is : rows_of (labelled_on (files_built after built stored)) (all b m.nodes) n ≡ copy s.number (prev b) b.now
  tree_is = rows_alike (labelled_on (files_built after built stored)) (labelled (all_files b made.other)) (all b m.nodes) same_reads n ∙ made.up.tree

  base_is : prev b ≡ base (store_on s start) v.head.id
  base_is = sym (base_tree after stored v.head.id) ∙ ap (λ (store : StoreState). base store v.head.id) state

  tells : StampsTell (bare (prev b)) (view_on v bytes)
  tells = agreeing_tell (bare (prev b)) (view_on v bytes)
      (subst (λ (old : LabelledTree). StampsAgree (bare old) (view_on v bytes)) (sym base_is)
      (λ p q d e x was is one other. base_agrees (volume_on v bytes) (store_on s start) fit.1 p q d e x was (in_volume v bytes q e is) one other))

  now_is : b.now ≡ view_on v bytes
  now_is = taken_is (prev b) (view_on v bytes) tree tells

  copy_is : rows_of (labelled_on (files_built after built stored)) (all b m.nodes) n ≡ copy s.number (base (store_on s start) v.head.id) (view_on v bytes)
  copy_is = tree_is ∙ (λ i. copy s.number (base_is i) (now_is i))

  abbrev mark : Mark
  mark = record { generation = v.tag.generation; cursor = v.tag.next - 1 }

  snapshot_is : (date : ℕ) → snapshot_on (files_built after built stored) (all b m.nodes) (snapshot_built after built date v.head.name v.head.id mark) ≡ snapshot_of (store_on s start) (volume_on v bytes) date
  snapshot_is date = λ i. record { date = date; volume = v.head.name; id = v.head.id; generation = v.tag.generation; cursor = v.tag.next - 1; tree = copy_is i }

  pub copied : (date : ℕ) → store_completed after built date v.head.name v.head.id mark stored ≡ backed_up (store_on s start) (volume_on v bytes) date
  copied date = λ i. record { machine = (state i).machine; number = (state i).number + 1; snapshots = (state i).snapshots ++ snapshot_is date i ∷ [] }
