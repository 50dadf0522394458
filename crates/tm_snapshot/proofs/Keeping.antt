-- The records after a finished backup keep the rules.
use Rattle.std.proofs.Common.{zero, suc, ◌≡◌, ◌≢◌, ◌⊎◌, inl, inr, ⊎_elim, ℕ, ◌+◌, ◌-◌, ◌*◌, ◌^◌, ◌<◌, ◌≤◌, ◌==◌, ◌||◌, ◌&&◌, Bool, true, false, Option, Some, None, is_some, List, [], ◌∷◌, ◌++◌, length, map, nat_eq, refl, sym, ap, ◌∙◌, arith, subst, length-append}
use Rattle.std.specs.Prelude.{slice_get, nat_le}
use Rattle.std.specs.Option.{option_map, unwrap_or}
use Rattle.std.specs.Set.{is_member}
use Rattle.std.proofs.lemmas.Bool.{cases_lt, cases_eq}
use Rattle.std.proofs.lemmas.Bool.Decides.{nat_tests}
use Rattle.std.proofs.lemmas.Option.{slice_get_within}
use Rattle.tm_base.specs.Limits.{max_names, max_nodes}
use Rattle.tm_base.specs.Paths.{Names}
use Rattle.tm_tree.specs.declared.node.NodeRow.{NodeRow}
use Rattle.tm_records.specs.Records.{at}
use Rattle.tm_graph.specs.Nodes.{Nodes, node, entries_of, names, times, links_of}
use Rattle.tm_graph.specs.Trees.{and_then, number_at, number}
use Rattle.tm_graph.specs.Growing.{relinked}
use Rattle.tm_graph.proofs.Lost.{member_push}
use Rattle.tm_identity.proofs.Kept.{same_value, root_there}
use Rattle.tm_nodes.specs.Headers.{snapshot_text}
use Rattle.tm_store_records.specs.declared.snapshot.Snapshot.{Snapshot}
use Rattle.tm_store_records.specs.Heads.{RecordHead, heads_of, head_at}
use Rattle.tm_store_records.specs.Built.{all_nodes}
use Rattle.tm_store_records.specs.Found.{roots_of, snapshot_key, node_key, nodes_in, snapshots_in}
use Rattle.tm_store_records.specs.Places.{LeadsDown, NodeStandsAt}
use Rattle.tm_store_records.specs.Rules.{IsGoodStore, IsGoodSnapshot, is_record, reads_node, is_folder_node, most_of}
use Rattle.tm_store_records.specs.Room.{row_of_snapshot}
use Rattle.tm_store_records.proofs.Placed.{at_place, place_within}
use Rattle.tm_store_records.proofs.Graphing.{AllGood, kept, stands, there}
use Rattle.tm_store_records.proofs.Linking.{AllSnapshotsGood}
use Rattle.tm_snapshot.specs.Growth.{AreGrown}
use Rattle.tm_snapshot.proofs.Finishing.{Finishing, joining, parts}
use Rattle.tm_snapshot.proofs.Olds.{greatest_low}
use Rattle.tm_snapshot.proofs.Joined.{all_at, folder_there, is_new, new_number}
use Rattle.tm_snapshot.proofs.Adding.{is_graph, is_linked, is_store, keeps, same_way, root_is_there, node_after, was}
use Rattle.tm_snapshot.proofs.Readings.{head_of, head_is, is_snapshot}
use Rattle.tm_snapshot.proofs.Rows.{old, old_row, new_row, named_after, record_of_node, record_of_snapshot}
use Rattle.tm_snapshot.proofs.Regrown.{NodesReadAgain, SnapshotsReadAgain}
use Rattle.tm_snapshot.proofs.Rereading.{fits_after, own_record, node_stands, none_stands, row_read, nodes_are, files_are}
use Rattle.tm_snapshot.proofs.Snapping.{snapshots_are, machine_is, snapshot_stands, other_stands, row_rules}

-- a way that leads to a node finds it
pub leads_number : (g : Nodes) (p : Names) (r n : ℕ) → is_some (node g n) ≡ true → LeadsDown g r p n → number_at g r p ≡ Some n
leads_number g [] r n t way = by_node (node g r) (subst (λ k. is_some (node g k) ≡ true) (sym way) t)
  where
    by_node : (o : Option NodeRow) → is_some o ≡ true → option_map (number r) o ≡ Some n
    by_node None t = cc
    by_node (Some row) t = ap (λ (k : ℕ). Some k) way
leads_number g (x ∷ p) r n t way = ap (λ o. and_then o (λ m. number_at g m p)) way.1 ∙ leads_number g p way.0 n t way.3

-- one more at the end of a list
pub push_at : {X : Type 0} (xs : List X) (y : X) (i : ℕ) (z : X) → slice_get (xs ++ y ∷ []) i ≡ Some z → (slice_get xs i ≡ Some z) ⊎ ((i ≡ length xs) × (y ≡ z))
push_at [] y zero z is = inr (refl, cc)
push_at [] y (suc i) z is = absurd (cc is)
push_at (x ∷ xs) y zero z is = inl is
push_at (x ∷ xs) y (suc i) z is = ⊎_elim (λ before. inl before) (λ last. inr (ap suc last.0, last.1)) (push_at xs y i z is)

roots_push : (ss : List Snapshot) (s : Snapshot) → roots_of (ss ++ s ∷ []) ≡ roots_of ss ++ s.root ∷ []
roots_push [] s = refl
roots_push (x ∷ ss) s = ap (λ (rs : List ℕ). x.root ∷ rs) (roots_push ss s)

old_or_last : (roots : List ℕ) (root r : ℕ) → is_member nat_eq (roots ++ root ∷ []) r ≡ true → (is_member nat_eq roots r ≡ true) ⊎ (r ≡ root)
old_or_last roots root r m = by_test (is_member nat_eq roots r) refl (sym (member_push roots root r) ∙ m)
  where
    by_test : (b : Bool) → is_member nat_eq roots r ≡ b → (is_member nat_eq roots r || nat_eq r root) ≡ true → (is_member nat_eq roots r ≡ true) ⊎ (r ≡ root)
    by_test true t h = inl t
    by_test false t h = inr (grind (arith, nat_tests, h, t))

module _ (f : Finishing) where
  open f use {h, built, date, volume, id, mark, may}
  open parts f use {g, new, root, last, after, roots, S, s}

  -- ---- places

  found_way : (p : Names) (n : ℕ) → is_some (node after n) ≡ true → (at : NodeStandsAt after (roots ++ root ∷ []) p n) → number_at after at.root p ≡ Some n
  found_way p n t at = leads_number after p at.root n t at.leads

  near : (p : Names) (n : ℕ) → is_some (node after n) ≡ true → NodeStandsAt after (roots ++ root ∷ []) p n → length p ≤ max_names
  near p n t at = ⊎_elim
      (λ (was_root : is_member nat_eq roots at.root ≡ true).
      let store = (old f).store in
      let here = root_there g roots store at.root was_root in
      let way : number_at g at.root p ≡ Some n = same_value number number g after store.graph (keeps (joining f)) (λ k row other e f. refl) p at.root here ∙ found_way p n t at in
      let row = there g roots h.number (old f).sorted (old f).good p at.root n way in
      (kept g roots h.number (old f).sorted (old f).good n row.0 row.1).rules.near p
      (stands g roots h.number (old f).sorted (old f).good at.root n p (was_root, way)))
      (λ (is_root : at.root ≡ root).
      let here = root_is_there (joining f) in
      let way : number_at after root p ≡ Some n = subst (λ r. number_at after r p ≡ Some n) is_root (found_way p n t at) in
      may.is_built.short p n (sym (same_way (joining f) root p here) ∙ way))
      (old_or_last roots root at.root at.is_root)

  -- ---- nodes

  -- what is told of old and new nodes apart
  record Bounds (n : ℕ) (row : NodeRow) : Type 0 where
    pub least : 1 ≤ n
    pub most : n ≤ max_nodes * h.number
    pub label_least : 1 ≤ row.label
    pub label_most : row.label < h.number + 1

  bounds : (n : ℕ) (row : NodeRow) → node after n ≡ Some row → Bounds n row
  bounds n row e = ⊎_elim
      (λ (lt : last < n).
      let is = new_row f n row lt e in
      let one = is_new (joining f) n is.first is.is_there in
      let high = (new_number (joining f) n (ap (λ (o : Option NodeRow). is_some o) is.is_there)).1 in
      let low = greatest_low g h.snapshots h.number (old f) in
      let label : row.label ≡ h.number = ap (λ (r : NodeRow). r.label) is.row_is ∙ one.label in
      let number = may.whole.fits.least in
      let few = may.few in
      record { least = omega (arith, lt); most = omega (arith, high, low, number, few); label_least = omega (arith, label, number); label_most = omega (arith, label) })
      (λ (le : n ≤ last).
      let is = old_row f n row le e in
      let rules = (kept g roots h.number (old f).sorted (old f).good n is.first is.was_there).rules in
      let label : row.label ≡ is.first.label = ap (λ (r : NodeRow). r.label) is.row_is in
      let least = rules.least in
      let most = rules.most in
      let label_least = rules.label_least in
      let label_most = rules.label_most in
      record { least = least; most = omega (arith, most); label_least = omega (arith, label, label_least); label_most = omega (arith, label, label_most) })
      (cases_lt last n)

  few_after : (place : ℕ) (e : ℕ × NodeRow) → slice_get after place ≡ Some e → place < max_nodes
  few_after place e is = let within = place_within after place e is in let few = may.few in omega (arith, within, few, size (g ++ new), length-append g new)
    where
      size : (nodes : Nodes) → length {A = ℕ × NodeRow} (map (λ e. (e.0, relinked g new root e.0 e.1)) nodes) ≡ length nodes
      size [] = refl
      size (e ∷ nodes) = ap suc (size nodes)

  good_node : AllGood after (roots ++ root ∷ []) (h.number + 1)
  good_node place e is =
      let graph = is_graph (joining f) in
      let store = is_store (joining f) in
      let here : node after e.0 ≡ Some e.1 = at_place after place e graph.in_order is in
      let t : is_some (node after e.0) ≡ true = ap (λ (o : Option NodeRow). is_some o) here in
      let links : links_of after e.0 ≡ e.1.links = ap (λ (o : Option NodeRow). unwrap_or (option_map (λ (r : NodeRow). r.links) o) 0) here in
      let linked = is_linked (joining f) e.0 t in
      let rooted = store.rooted e.0 in
      let counted = graph.counted e.0 in
      let in_bounds = bounds e.0 e.1 here in
      let most = in_bounds.most in
      record {
        few = few_after place e is;
        least = in_bounds.least;
        most = omega (arith, most);
        label_least = in_bounds.label_least;
        label_most = in_bounds.label_most;
        children = λ q l. (lower e.0 q e.1 here l, named_after f e.0 q e.1 here l);
        linked = omega (arith, links, linked);
        counted = omega (arith, links, rooted, counted);
        near = λ p at. near p e.0 t at;
        one_path = λ p q a b. store.one_path a.root b.root e.0 p q (a.is_root, found_way p e.0 t a) (b.is_root, found_way q e.0 t b);
        one_node = λ m other p lt em label a b. (let same = store.one_node a.root b.root m e.0 p (a.is_root, found_way p m (ap (λ (o : Option NodeRow). is_some o) em) a) (b.is_root, found_way p e.0 t b) (ap label_in em ∙ label ∙ sym (ap label_in here)) in
            omega (arith, lt, same));
      }
    where
      label_in : Option NodeRow → ℕ
      label_in o = unwrap_or (option_map (λ row. row.label) o) 0

      lower : (n q : ℕ) (row : NodeRow) → node after n ≡ Some row → 0 < times q (entries_of row) → q < n
      lower n q row e l = ⊎_elim (λ (lt : q < n). lt)
          (λ (le : n ≤ q). absurd (let none = (is_graph (joining f)).falls n q le in let times_none : times q (entries_of row) ≡ 0 = sym (ap (names q) e) ∙ none in omega (arith, l, times_none)))
          (cases_lt q n)

  -- ---- snapshots

  folder_after : (q : ℕ) → is_folder_node (node (all_nodes h built) q) ≡ true → is_folder_node (node after q) ≡ true
  folder_after q t = ap is_folder_node (node_after (joining f) q) ∙ by_node (node (all_nodes h built) q) t
    where
      by_node : (o : Option NodeRow) → is_folder_node o ≡ true → is_folder_node (option_map (relinked g new root q) o) ≡ true
      by_node None t = t
      by_node (Some row) t = t

  folder_was : (q : ℕ) → is_folder_node (node g q) ≡ true → is_folder_node (node (all_nodes h built) q) ≡ true
  folder_was q t = ap is_folder_node (was (joining f) q (folder_there (node g q) t)) ∙ t

  good_snapshot : AllSnapshotsGood after (h.snapshots ++ s ∷ []) (h.number + 1)
  good_snapshot place x is = ⊎_elim (λ before. old_one before) (λ last. subst (λ (y : Snapshot). IsGoodSnapshot after (h.snapshots ++ s ∷ []) (h.number + 1) place y) last.1 (new_one last.0)) (push_at h.snapshots s place x is)
    where
      old_one : slice_get h.snapshots place ≡ Some x → IsGoodSnapshot after (h.snapshots ++ s ∷ []) (h.number + 1) place x
      old_one at =
          let rules = (old f).good_snapshots place x at in
          let most = rules.most in
          record {
            few = rules.few;
            least = rules.least;
            most = omega (arith, most);
            later = λ i other lt there. ⊎_elim (λ before. rules.later i other lt before)
                (λ last. absurd (let within = slice_get_within h.snapshots place x at in let end = last.0 in omega (arith, within, lt, end))) (push_at h.snapshots s i other there);
            generation_least = rules.generation_least;
            generation_most = rules.generation_most;
            cursor = rules.cursor;
            root = folder_after x.root (folder_was x.root rules.root);
          }

      new_one : place ≡ length h.snapshots → IsGoodSnapshot after (h.snapshots ++ s ∷ []) (h.number + 1) place s
      new_one end =
          let finish = (may.whole.runs date may.runs).1 in
          let few = finish.few in
          record {
            few = omega (arith, end, few);
            least = may.whole.fits.least;
            most = omega arith;
            later = λ i other lt there. ⊎_elim (λ before. all_at (λ (y : Snapshot). y.date < date) h.snapshots i other finish.later before)
                (λ last. absurd (let same = last.0 in omega (arith, lt, end, same))) (push_at h.snapshots s i other there);
            generation_least = may.is_mark.generation_least;
            generation_most = may.is_mark.generation_most;
            cursor = may.is_mark.cursor;
            root = folder_after root may.is_built.root;
          }

  -- ---- keys

  module _ (nodes_again : NodesReadAgain) (snapshots_again : SnapshotsReadAgain) where
    stands_good : (AllGood (nodes_in (heads_of S)) (roots_of (snapshots_in (heads_of S))) (h.number + 1)) × (AllSnapshotsGood (nodes_in (heads_of S)) (snapshots_in (heads_of S)) (h.number + 1))
    stands_good =
        let nodes = nodes_are f nodes_again in
        let snapshots = snapshots_are f snapshots_again in
        subst (λ (x : Nodes × List Snapshot). (AllGood x.0 (roots_of x.1) (h.number + 1)) × (AllSnapshotsGood x.0 x.1 (h.number + 1))) (λ i. (sym nodes i, sym snapshots i))
        (subst (λ (rs : List ℕ). AllGood after rs (h.number + 1)) (sym (roots_push h.snapshots s)) good_node, good_snapshot)

    reads_snapshot : is_record (snapshot_key h.number) (record { meta = snapshot_text (row_of_snapshot s); size = 0 }) ≡ true
    reads_snapshot =
        let most = may.whole.fits.most in
        record_of_snapshot (snapshot_key h.number) (record { meta = snapshot_text (row_of_snapshot s); size = 0 }) (is_snapshot h.number (omega (arith, most)))
        ∙ ap (λ o. is_some o && (0 == 0)) (snapshots_again (row_of_snapshot s) (row_rules f))

    reads_node_at : (n : ℕ) (head : RecordHead) → head_at (node_key n) (heads_of S) ≡ Some head → is_record (node_key n) head ≡ true
    reads_node_at n head is = record_of_node n head ∙ by_node (node after n) refl
      where
        by_node : (o : Option NodeRow) → node after n ≡ o → reads_node head ≡ true
        by_node None e = absurd (let bad : None ≡ Some head = sym (head_is S (node_key n) ∙ ap (option_map head_of) (none_stands f n e)) ∙ is in cc)
        by_node (Some row) e =
            let its : Some (head_of (own_record f n row)) ≡ Some head = sym (head_is S (node_key n) ∙ ap (option_map head_of) (node_stands f n row e)) ∙ is in
            let same : head_of (own_record f n row) ≡ head = cc in
            subst (λ (x : RecordHead). reads_node x ≡ true) same
            (ap (λ (o : Option NodeRow). unwrap_or (option_map (λ r. nat_le (own_record f n row).length (most_of r.body)) o) false) (row_read f nodes_again n row e)
            ∙ (fits_after f n row e).few)

    reads : (key : ℕ) (head : RecordHead) → head_at key (heads_of S) ≡ Some head → is_record key head ≡ true
    reads key head is = ⊎_elim
        (λ (here : key ≡ snapshot_key h.number).
        let its : Some (record { meta = snapshot_text (row_of_snapshot s); size = 0 }) ≡ Some head = sym (head_is S (snapshot_key h.number) ∙ ap (option_map head_of) (snapshot_stands f)) ∙ subst (λ k. head_at k (heads_of S) ≡ Some head) here is in
        let same : record { meta = snapshot_text (row_of_snapshot s); size = 0 } ≡ head = cc in
        subst (λ k. is_record k head ≡ true) (sym here) (subst (λ (x : RecordHead). is_record (snapshot_key h.number) x ≡ true) same reads_snapshot))
        (λ (other : key ≢ snapshot_key h.number). ⊎_elim
        (λ (low : key < 2 ^ 62). (may.whole.good key).reads head (head_is h.image.records key ∙ ap (option_map head_of) (sym (other_stands f key other low)) ∙ sym (head_is S key) ∙ is))
        (λ (high : 2 ^ 62 ≤ key).
        let number : node_key (key - 2 ^ 62) ≡ key = omega (arith, high) in
        subst (λ k. is_record k head ≡ true) number (reads_node_at (key - 2 ^ 62) head (subst (λ k. head_at k (heads_of S) ≡ Some head) (sym number) is)))
        (cases_lt key (2 ^ 62)))
        (cases_eq key (snapshot_key h.number))

    good : IsGoodStore (heads_of S) (h.number + 1)
    good key = record {
      machine = λ e. ap (λ o. is_some o) (machine_is f);
      reads = λ head is. reads key head is;
      snapshot = λ place x is e. stands_good.1 place x is;
      node_rules = λ place x is e. stands_good.0 place x is;
    }

    pub are_grown : AreGrown h built date volume id mark S
    are_grown = record {
      good = good;
      machine_is = machine_is f;
      nodes_are = nodes_are f nodes_again;
      snapshots_are = snapshots_are f snapshots_again;
      files_are = files_are f;
    }
