-- The trees of the store with what was built, whatever the files are read from.
use Rattle.std.proofs.Common.{suc, ◌≡◌, ℕ, ◌*◌, ◌≤◌, ◌||◌, Bool, true, false, cond, Option, Some, is_some, List, [], ◌∷◌, ◌++◌, map, nat_eq, refl, sym, ap, ◌∙◌, arith}
use Rattle.std.specs.Prelude.{nat_lt}
use Rattle.std.specs.Option.{option_map, unwrap_or}
use Rattle.std.specs.Set.{is_member}
use Rattle.std.specs.Map.{lookup}
use Rattle.std.specs.Ordering.{nat_cmp}
use Rattle.std.specs.BTreeMap.{is_at}
use Rattle.std.proofs.lemmas.Bool.Decides.{nat_tests}
use Rattle.tm_base.specs.Limits.{max_nodes}
use Rattle.tm_base.proofs.Facts.{some_is}
use Rattle.tm_tree.specs.declared.rows.Mark.{Mark}
use Rattle.tm_tree.specs.declared.node.NodeRow.{NodeRow}
use Rattle.tm_tree.specs.States.{Snapshot as StoredSnapshot}
use Rattle.tm_tree.specs.Copies.{LabelledTree}
use Rattle.tm_graph.specs.declared.built.Built.{Built}
use Rattle.tm_graph.specs.Nodes.{Nodes, node, greatest, with_links}
use Rattle.tm_graph.specs.Trees.{rows_of}
use Rattle.tm_graph.specs.Growing.{grown}
use Rattle.tm_identity.proofs.Kept.{same_rows}
use Rattle.tm_store_records.specs.declared.snapshot.Snapshot.{Snapshot}
use Rattle.tm_store_records.specs.Held.{Held, IsWhole, files_of}
use Rattle.tm_store_records.specs.Built.{IsBuilt, snapshot_built, all_nodes, bytes_of_blob, files_built, store_completed}
use Rattle.tm_store_records.specs.Found.{roots_of}
use Rattle.tm_store_records.specs.States.{snapshot_on, labelled_on, item_on}
use Rattle.tm_store_records.proofs.NextKeyLemmas.{lt_false}
use Rattle.tm_store_records.proofs.Noding.{NodesAreFound}
use Rattle.tm_snapshot.specs.Completing.{count_after}
use Rattle.tm_snapshot.proofs.Finishing.{Joining}
use Rattle.tm_snapshot.proofs.Olds.{IsOld, old_is}
use Rattle.tm_snapshot.proofs.Joined.{old_low}
use Rattle.tm_snapshot.proofs.Adding.{is_graph, keeps, part, was, root_is_there, trees_stay}

map_push : {X Y : Type 0} (f : X → Y) (xs : List X) (y : X) → map f (xs ++ y ∷ []) ≡ map f xs ++ f y ∷ []
map_push f [] y = refl
map_push f (x ∷ xs) y = ap (λ ys. f x ∷ ys) (map_push f xs y)

-- with the tree that is given
abbrev snapshot_with : Snapshot → LabelledTree → StoredSnapshot
snapshot_with s tree = record { date = s.date; volume = s.volume; id = s.id; generation = s.mark.generation; cursor = s.mark.cursor; tree = tree }

module _ (h : Held) (built : Built) (whole : IsWhole h) (is_built : IsBuilt h built) (few : count_after h built ≤ 2 * max_nodes) (found : NodesAreFound) (bytes : ℕ → List ℕ) where
  abbrev g : Nodes
  g = h.nodes

  abbrev after : Nodes
  after = grown g built.nodes built.root

  abbrev all : Nodes
  all = all_nodes h built

  abbrev roots : List ℕ
  roots = roots_of h.snapshots

  abbrev files_before : ℕ → List ℕ
  files_before = files_of h.image.records bytes

  old : IsOld h.nodes h.snapshots h.number
  old = old_is h whole found

  abbrev joins : Joining
  joins = record { h = h; built = built; is_built = is_built; old = old; few = few; most = whole.fits.most }

  -- an old node has the bytes that it had
  pub old_bytes : (n : ℕ) → is_some (node g n) ≡ true → files_built h built bytes n ≡ files_before n
  old_bytes n t = old_files (lt_false (greatest g) n (old_low joins n t))
    where
      old_files : nat_lt (greatest g) n ≡ false → files_built h built bytes n ≡ files_before n
      old_files e = ap (λ b. cond b (unwrap_or (option_map (bytes_of_blob bytes) (lookup (is_at (nat_cmp n)) built.blobs)) []) (files_before n)) e

  row_there : (x : Nodes) (n : ℕ) (row : NodeRow) → node x n ≡ Some row → is_some (node x n) ≡ true
  row_there x n row e = ap (λ (o : Option NodeRow). is_some o) e

  same_label : (n : ℕ) (fs hs : ℕ → List ℕ) (row other : NodeRow) (links : ℕ) → fs n ≡ hs n → other ≡ with_links row links → labelled_on fs n row ≡ labelled_on hs n other
  same_label n fs hs row other links bytes_same e = ap (λ (b : List ℕ). record { label = row.label; item = item_on b row.body }) bytes_same ∙ ap (λ (r : NodeRow). labelled_on hs n r) (sym e)

  -- files have the bytes that they had or that were built
  module _ (files : ℕ → List ℕ) (files_are : (n : ℕ) → is_some (node all n) ≡ true → files n ≡ files_built h built bytes n) where
    same_bytes : (n : ℕ) → is_some (node g n) ≡ true → files_before n ≡ files n
    same_bytes n t =
        let among = ap (λ (o : Option NodeRow). is_some o) (was joins n t) ∙ t in
        sym (files_are n among ∙ old_bytes n t)

    -- the trees of old snapshots stay
    old_tree : (r : ℕ) → is_member nat_eq roots r ≡ true → rows_of (labelled_on files) after r ≡ rows_of (labelled_on files_before) g r
    old_tree r member = sym (trees_stay joins (labelled_on files_before) (labelled_on files)
        (λ n row other e f.
        let kept = keeps joins n row e in
        same_label n files_before files row other kept.0 (same_bytes n (row_there g n row e)) (some_is other (with_links row kept.0) (sym f ∙ kept.1)))
        r member)

    old_snapshots : (ss : List Snapshot) → ((r : ℕ) → is_member nat_eq (roots_of ss) r ≡ true → is_member nat_eq roots r ≡ true) → map (snapshot_on files after) ss ≡ map (snapshot_on files_before g) ss
    old_snapshots [] among = refl
    old_snapshots (s ∷ ss) among =
        let here = old_tree s.root (among s.root (first s.root (roots_of ss))) in
        let rest = old_snapshots ss (λ r m. among r (later s.root (roots_of ss) r m)) in
        λ i. snapshot_with s (here i) ∷ rest i
      where
        first : (r : ℕ) (rs : List ℕ) → (nat_eq r r || is_member nat_eq rs r) ≡ true
        first r rs = grind (arith, nat_tests)

        later : (q : ℕ) (rs : List ℕ) (r : ℕ) → is_member nat_eq rs r ≡ true → (nat_eq r q || is_member nat_eq rs r) ≡ true
        later q rs r m = by_test (nat_eq r q) m
          where
            by_test : (b : Bool) → is_member nat_eq rs r ≡ true → (b || is_member nat_eq rs r) ≡ true
            by_test true m = refl
            by_test false m = m

    -- the new tree is that of what was built
    new_tree : rows_of (labelled_on files) after built.root ≡ rows_of (labelled_on (files_built h built bytes)) all built.root
    new_tree = same_rows (labelled_on files) (labelled_on (files_built h built bytes)) after all
        (is_graph joins)
        (part joins)
        (λ n row other e f.
        let its = part joins n row e in
        same_label n files (files_built h built bytes) row other its.0 (files_are n (row_there all n other f)) (some_is other (with_links row its.0) (sym f ∙ its.1)))
        (suc built.root) built.root (root_is_there joins)

    pub snapshots_are : (date : ℕ) (volume : List ℕ) (id : ℕ) (mark : Mark)
        → map (snapshot_on files after) (h.snapshots ++ snapshot_built h built date volume id mark ∷ []) ≡ (store_completed h built date volume id mark bytes).snapshots
    snapshots_are date volume id mark =
        map_push (snapshot_on files after) h.snapshots (snapshot_built h built date volume id mark)
        ∙ (λ i. old_snapshots h.snapshots (λ r m. m) i ++ snapshot_with (snapshot_built h built date volume id mark) (new_tree i) ∷ [])
