-- The snapshot that is named, and what a look in it answers.
use Rattle.std.proofs.Common.{◌≡◌, ℕ, suc, ◌-◌, ◌==◌, Bool, true, false, cond, Option, Some, None, is_some, Ok, Err, List, [], ◌∷◌, length, map, find, refl, sym, ap, ◌∙◌, subst, if◌then◌else◌}
use Rattle.std.specs.Prelude.{slice_get, IsSomeAnd}
use Rattle.std.specs.List.{last_or}
use Rattle.std.specs.Option.{option_map}
use Rattle.tm_base.specs.Paths.{Names, same_name}
use Rattle.tm_base.specs.declared.refused.Refused.TheVariants as refused
use Rattle.tm_base.specs.declared.refused.LineFault.TheVariants as fault
use Rattle.tm_graph.specs.declared.walk.Walk.TheVariants.{NotFound, NotFolder}
use Rattle.tm_graph.specs.Nodes.{Nodes, node, IsGraph}
use Rattle.tm_graph.specs.Trees.{and_then, child_of, number, number_at, rows_of, RowsStand}
use Rattle.tm_graph.specs.Walks.{down}
use Rattle.tm_graph.proofs.WaysFound.{ways_found}
use Rattle.tm_tree.specs.declared.node.NodeRow.{NodeRow}
use Rattle.tm_tree.specs.States.{Snapshot as StoredSnapshot}
use Rattle.tm_tree.specs.Lookups.{snapshot_at, snapshot_by, snapshot_under, under_volume}
use Rattle.tm_tree.specs.Walks.{found as walk_found}
use Rattle.tm_store_records.specs.declared.snapshot.Snapshot.{Snapshot}
use Rattle.tm_store_records.specs.Heads.{heads_of}
use Rattle.tm_store_records.specs.Found.{snapshots_in, snapshot_key}
use Rattle.tm_store_records.specs.Rules.{is_folder_node}
use Rattle.tm_store_records.specs.States.{labelled_on, snapshot_on}
use Rattle.tm_store_records.specs.Held.{Held, IsWhole, files_of, store_on}
use Rattle.tm_store.specs.Finding.{snapshot_dated, held_at, held_under, of_volume, WalkLeadsTo, Looks}
use Rattle.tm_base.proofs.Facts.{last_is}
use Rattle.tm_store.proofs.Looking.{item_of, labelled_at, walks_as, tree_ends}

last_mapped : {X Y : Type 0} (f : X → Y) (o : Option X) (xs : List X) → last_or (option_map f o) (map f xs) ≡ option_map f (last_or o xs)
last_mapped f o [] = refl
last_mapped f o (x ∷ xs) = last_mapped f (Some x) xs

find_mapped : (files : ℕ → List ℕ) (g : Nodes) (date : ℕ) (xs : List Snapshot) → find (λ s. s.date == date) (map (snapshot_on files g) xs) ≡ option_map (snapshot_on files g) (find (λ s. s.date == date) xs)
find_mapped files g date [] = refl
find_mapped files g date (x ∷ xs) = by_test (x.date == date) (find_mapped files g date xs)
  where
    by_test : (b : Bool) → find (λ s. s.date == date) (map (snapshot_on files g) xs) ≡ option_map (snapshot_on files g) (find (λ s. s.date == date) xs)
        → cond b (Some (snapshot_on files g x)) (find (λ s. s.date == date) (map (snapshot_on files g) xs)) ≡ option_map (snapshot_on files g) (cond b (Some x) (find (λ s. s.date == date) xs))
    by_test true rest = refl
    by_test false rest = rest

find_there : (date : ℕ) (xs : List Snapshot) (s : Snapshot) → find (λ s. s.date == date) xs ≡ Some s → (place : ℕ) × (slice_get xs place ≡ Some s)
find_there date [] s is = absurd (cc is)
find_there date (x ∷ xs) s is = by_test (x.date == date) (find_there date xs s) is
  where
    by_test : (b : Bool) → (find (λ s. s.date == date) xs ≡ Some s → (place : ℕ) × (slice_get xs place ≡ Some s))
        → cond b (Some x) (find (λ s. s.date == date) xs) ≡ Some s → (place : ℕ) × (slice_get (x ∷ xs) place ≡ Some s)
    by_test true rest is = (0, is)
    by_test false rest is = let found = rest is in (suc found.0, found.1)

dated_there : (xs : List Snapshot) (at : Option ℕ) (s : Snapshot) → snapshot_dated xs at ≡ Some s → (place : ℕ) × (slice_get xs place ≡ Some s)
dated_there xs None s is = (length xs - 1, last_is xs ∙ is)
dated_there xs (Some date) s is = find_there date xs s is

-- a snapshot that is named stands in the list
under_there : (own : List ℕ) (xs : List Snapshot) (machine : List ℕ) (at : Option ℕ) (volume : List ℕ) (s : Snapshot) → held_under own xs machine at volume ≡ Some s → (place : ℕ) × (slice_get xs place ≡ Some s)
under_there own xs machine at volume s is = by_machine (same_name machine own) is
  where
    by_volume : (x : Snapshot) → snapshot_dated xs at ≡ Some x → (b : Bool) → (if b then Some x else None) ≡ Some s → (place : ℕ) × (slice_get xs place ≡ Some s)
    by_volume x d true is = dated_there xs at s (d ∙ is)
    by_volume x d false is = absurd (cc is)

    by_dated : (o : Option Snapshot) → snapshot_dated xs at ≡ o → of_volume volume o ≡ Some s → (place : ℕ) × (slice_get xs place ≡ Some s)
    by_dated None d is = absurd (cc is)
    by_dated (Some x) d is = by_volume x d (same_name volume x.volume) is

    by_machine : (b : Bool) → of_volume volume (if b then snapshot_dated xs at else None) ≡ Some s → (place : ℕ) × (slice_get xs place ≡ Some s)
    by_machine true is = by_dated (snapshot_dated xs at) refl is
    by_machine false is = absurd (cc is)

number_there : (g : Nodes) (r : ℕ) (p : Names) (n : ℕ) → number_at g r p ≡ Some n → is_some (node g n) ≡ true
number_there g r [] n is = by_node (node g r) refl is
  where
    by_node : (o : Option NodeRow) → node g r ≡ o → option_map (number r) o ≡ Some n → is_some (node g n) ≡ true
    by_node None e is = absurd (cc is)
    by_node (Some row) e is = let same : r ≡ n = cc in subst (λ k. is_some (node g k) ≡ true) same (ap is_some e)
number_there g r (name ∷ p) n is = by_child (λ m. number_there g m p n) (child_of (node g r) name) is
  where
    by_child : ((m : ℕ) → number_at g m p ≡ Some n → is_some (node g n) ≡ true) → (o : Option ℕ) → and_then o (λ m. number_at g m p) ≡ Some n → is_some (node g n) ≡ true
    by_child below None is = absurd (cc is)
    by_child below (Some m) is = below m is

module _ (h : Held) (bytes : ℕ → List ℕ) where
  abbrev files : ℕ → List ℕ
  files = files_of h.image.records bytes

  by_is : (at : Option ℕ) → snapshot_by (store_on h bytes) at ≡ option_map (snapshot_on files h.nodes) (snapshot_dated h.snapshots at)
  by_is None = last_mapped (snapshot_on files h.nodes) None h.snapshots
  by_is (Some date) = find_mapped files h.nodes date h.snapshots

  -- a snapshot is named in the store as it is in memory
  pub named_at : (machine : List ℕ) (at : Option ℕ) → snapshot_at (store_on h bytes) machine at ≡ option_map (snapshot_on files h.nodes) (held_at h.machine h.snapshots machine at)
  named_at machine at = by_machine (same_name machine h.machine)
    where
      by_machine : (b : Bool) → (if b then snapshot_by (store_on h bytes) at else None) ≡ option_map (snapshot_on files h.nodes) (if b then snapshot_dated h.snapshots at else None)
      by_machine true = by_is at
      by_machine false = refl

  pub under_is : (machine : List ℕ) (at : Option ℕ) (volume : List ℕ) → snapshot_under (store_on h bytes) machine at volume ≡ option_map (snapshot_on files h.nodes) (held_under h.machine h.snapshots machine at volume)
  under_is machine at volume = ap (under_volume volume) (named_at machine at) ∙ by_dated (held_at h.machine h.snapshots machine at)
    where
      by_volume : (s : Snapshot) (b : Bool) → (if b then Some (snapshot_on files h.nodes s) else None) ≡ option_map (snapshot_on files h.nodes) (if b then Some s else None)
      by_volume s true = refl
      by_volume s false = refl

      by_dated : (o : Option Snapshot) → under_volume volume (option_map (snapshot_on files h.nodes) o) ≡ option_map (snapshot_on files h.nodes) (of_volume volume o)
      by_dated None = refl
      by_dated (Some s) = by_volume s (same_name volume s.volume)

  pub looks_nowhere : (machine : List ℕ) (at : Option ℕ) (volume : List ℕ) (path : Names) → held_under h.machine h.snapshots machine at volume ≡ None
      → Looks files h.nodes (snapshot_under (store_on h bytes) machine at volume) path (Err (fault.Refused refused.NoSnapshot))
  looks_nowhere machine at volume path none =
      subst (λ (o : Option StoredSnapshot). Looks files h.nodes o path (Err (fault.Refused refused.NoSnapshot))) (sym (under_is machine at volume ∙ ap (option_map (snapshot_on files h.nodes)) none)) refl

  module _ (rows : RowsStand) (graph : IsGraph h.nodes) (whole : IsWhole h) (machine : List ℕ) (at : Option ℕ) (volume : List ℕ) (s : Snapshot) (is : held_under h.machine h.snapshots machine at volume ≡ Some s) (path : Names) where
    named : snapshot_under (store_on h bytes) machine at volume ≡ Some (snapshot_on files h.nodes s)
    named = under_is machine at volume ∙ ap (option_map (snapshot_on files h.nodes)) is

    root_there : is_some (node h.nodes s.root) ≡ true
    root_there =
        let place = under_there h.machine h.snapshots machine at volume s is in
        let listed : slice_get (snapshots_in (heads_of h.image.records)) place.0 ≡ Some s = subst (λ (ss : List Snapshot). slice_get ss place.0 ≡ Some s) whole.snapshots_are place.1 in
        let folder = (whole.good (snapshot_key s.number)).snapshot place.0 s listed refl in
        by_node (node h.nodes s.root) (subst (λ (g : Nodes). is_folder_node (node g s.root) ≡ true) (sym whole.nodes_are) folder.root)
      where
        by_node : (o : Option NodeRow) → is_folder_node o ≡ true → is_some o ≡ true
        by_node None folder = absurd (let bad : false ≡ true = folder in cc)
        by_node (Some row) folder = refl

    pub numbered_at : (n : ℕ) → down h.nodes s.root path ≡ Ok n → number_at h.nodes s.root path ≡ Some n
    numbered_at n goes = (ways_found h.nodes s.root n path graph root_there).0 goes

    -- in the snapshot as it is in memory
    pub held_number : (n : ℕ) → down h.nodes s.root path ≡ Ok n → IsSomeAnd (held_under h.machine h.snapshots machine at volume) (λ t. number_at h.nodes t.root path ≡ Some n)
    held_number n goes = subst (λ (o : Option Snapshot). IsSomeAnd o (λ t. number_at h.nodes t.root path ≡ Some n)) (sym is) (numbered_at n goes)

    pub node_there : (n : ℕ) → down h.nodes s.root path ≡ Ok n → is_some (node h.nodes n) ≡ true
    node_there n goes = number_there h.nodes s.root path n (numbered_at n goes)

    leads_to : (n : ℕ) → down h.nodes s.root path ≡ Ok n → WalkLeadsTo files h.nodes (rows_of (labelled_on files) h.nodes s.root) path n
    leads_to n goes = by_node (node h.nodes n) refl (node_there n goes)
      where
        by_node : (o : Option NodeRow) → node h.nodes n ≡ o → is_some o ≡ true → WalkLeadsTo files h.nodes (rows_of (labelled_on files) h.nodes s.root) path n
        by_node None e there = absurd (let bad : false ≡ true = there in cc)
        by_node (Some row) e there = record {
          row = row;
          is = e;
          stands = labelled_at h.nodes files rows graph s.root path ∙ ap (λ o. and_then o (λ m. option_map (labelled_on files m) (node h.nodes m))) (numbered_at n goes) ∙ ap (option_map (labelled_on files n)) e;
          walks = walks_as h.nodes files rows graph s.root path root_there ∙ ap (tree_ends h.nodes files) goes ∙ ap (λ o. walk_found (item_of h.nodes files n o)) e;
        }

    pub looks_at : (n : ℕ) → down h.nodes s.root path ≡ Ok n → Looks files h.nodes (snapshot_under (store_on h bytes) machine at volume) path (Ok (record { date = s.date; node = n }))
    looks_at n goes = subst (λ (o : Option StoredSnapshot). Looks files h.nodes o path (Ok (record { date = s.date; node = n }))) (sym named) (refl, leads_to n goes)

    pub looks_missing : down h.nodes s.root path ≡ Err NotFound → Looks files h.nodes (snapshot_under (store_on h bytes) machine at volume) path (Err (fault.Refused refused.NotFound))
    looks_missing ends = subst (λ (o : Option StoredSnapshot). Looks files h.nodes o path (Err (fault.Refused refused.NotFound))) (sym named) (walks_as h.nodes files rows graph s.root path root_there ∙ ap (tree_ends h.nodes files) ends)

    pub looks_blocked : down h.nodes s.root path ≡ Err NotFolder → Looks files h.nodes (snapshot_under (store_on h bytes) machine at volume) path (Err (fault.Refused refused.NotFolder))
    looks_blocked ends = subst (λ (o : Option StoredSnapshot). Looks files h.nodes o path (Err (fault.Refused refused.NotFolder))) (sym named) (walks_as h.nodes files rows graph s.root path root_there ∙ ap (tree_ends h.nodes files) ends)
