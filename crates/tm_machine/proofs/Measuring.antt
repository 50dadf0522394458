-- A store in numbers.
use Rattle.std.proofs.Common.{◌≡◌, ℕ, suc, ◌==◌, ◌||◌, nat_eq, Bool, true, false, cond, if◌then◌else◌, IsSomeAnd, Option, Some, None, Result, Ok, Err, List, [], ◌∷◌, length, map, find, arith, refl, sym, ◌∙◌, ap, subst}
use Rattle.std.proofs.lemmas.Bool.Decides.{nat_tests}
use Rattle.std.specs.List.{last_or, sum_by}
use Rattle.std.specs.Map.{values_of}
use Rattle.std.specs.Option.{option_map, option_map_or, unwrap_or}
use Rattle.std.specs.Set.{is_member}
use Rattle.tm_base.specs.Paths.{Names, same_name}
use Rattle.tm_base.specs.declared.refused.LineFault.{LineFault}
use Rattle.tm_base.specs.declared.refused.LineFault.TheVariants.{Refused as RefusedFor, Fault, Memory}
use Rattle.tm_graph.specs.Nodes.{Nodes, node, links_of}
use Rattle.tm_graph.specs.Trees.{number_at, rows_of}
use Rattle.tm_identity.specs.Identities.{links}
use Rattle.tm_identity.specs.Links.{LinksAreCounted}
use Rattle.tm_identity.specs.Stored.{StoredIsCounted, node_length}
use Rattle.tm_identity.specs.Stores.{Labels, label_of, trees_of}
use Rattle.tm_identity.specs.Sums.{stored_bytes}
use Rattle.tm_image.specs.Room.{free_of}
use Rattle.tm_reply.specs.declared.row.Kind.{Kind}
use Rattle.tm_reply.specs.declared.row.ReplyRow.{ReplyRow}
use Rattle.tm_reply.specs.declared.row.ReplyRow.TheVariants as row
use Rattle.tm_store.specs.declared.finding.Found.{Found}
use Rattle.tm_store.specs.declared.finding.Stat.{Stat}
use Rattle.tm_store.specs.Finding.{Looks, NamedUnder, WalkLeadsTo, held_under, kind_of_body, of_volume, snapshot_dated, stat_of}
use Rattle.tm_store_records.specs.declared.snapshot.Snapshot.{Snapshot as Row}
use Rattle.tm_store_records.specs.Found.{roots_of}
use Rattle.tm_store_records.specs.Held.{Held, IsWhole, files_of, store_on}
use Rattle.tm_store_records.specs.Laws.{HeldIsStore, HeldLengths, HeldSizes}
use Rattle.tm_store_records.specs.Sizes.{free_blocks, node_count, trees_in}
use Rattle.tm_store_records.specs.States.{item_on, labelled_on, snapshot_on}
use Rattle.tm_text.specs.declared.place.ItemAt.{ItemAt}
use Rattle.tm_tree.specs.declared.item.Labelled.{Labelled}
use Rattle.tm_tree.specs.declared.node.LeafRow.TheVariants as leaf
use Rattle.tm_tree.specs.declared.node.NodeBody.{NodeBody}
use Rattle.tm_tree.specs.declared.node.NodeBody.TheVariants as body
use Rattle.tm_tree.specs.declared.node.NodeRow.{NodeRow}
use Rattle.tm_tree.specs.Changes.{item_tests}
use Rattle.tm_tree.specs.Copies.{LabelledTree, bare}
use Rattle.tm_tree.specs.Refusing.{Tests, first_refused}
use Rattle.tm_tree.specs.States.{Snapshot, StoreState}
use Rattle.tm_tree.specs.Trees.{at}
use Rattle.tm_machine.specs.Answers.{AnswersQuery, IsRow}
use Rattle.tm_machine.specs.Queries.{date_of, df_rows, holding_snapshot, kind_of, labelled_tree, reply_kind, stat_row, stat_rows}
use Rattle.tm_machine.specs.Steps.{stored_tests}
use Rattle.tm_machine.proofs.Reading.{item_there}

-- one data line is the answer
row_told : (tested : Tests) (rows : List ReplyRow) (r : ReplyRow) (result : Result (List ReplyRow) LineFault) → IsRow r result
    → first_refused tested ≡ None → rows ≡ r ∷ [] → AnswersQuery tested rows result
row_told tested rows r (Ok found) is none told = (none, is ∙ sym told)
row_told tested rows r (Err (RefusedFor why)) is none told = absurd is
row_told tested rows r (Err (Fault side)) is none told = is
row_told tested rows r (Err Memory) is none told = tt

-- ---- the trees of a store in memory

module _ (files : ℕ → List ℕ) (g : Nodes) where
  trees_are : (ss : List Row) → map (λ (s : Snapshot). s.tree) (map (snapshot_on files g) ss) ≡ trees_of (labelled_on files) g (roots_of ss)
  trees_are [] = refl
  trees_are (s ∷ ss) = ap (λ (ts : List LabelledTree). rows_of (labelled_on files) g s.root ∷ ts) (trees_are ss)

  as_many : (ss : List Row) → length (map (snapshot_on files g) ss) ≡ length ss
  as_many [] = refl
  as_many (s ∷ ss) = ap suc (as_many ss)

  labels_are : Labels (labelled_on files) g
  labels_are n row e = refl

-- ---- the whole store

pub df_told : HeldSizes → HeldIsStore → HeldLengths → StoredIsCounted → (h : Held) (bytes : ℕ → List ℕ) (blocks free nodes stored count : ℕ) → IsWhole h → h.staged ≡ []
    → blocks ≡ length h.image.used → free ≡ free_of h.image → nodes ≡ length h.nodes → stored ≡ sum_by node_length (values_of h.nodes) → count ≡ length h.snapshots
    → (result : Result (List ReplyRow) LineFault) → IsRow (row.Df blocks free nodes stored count) result → AnswersQuery [] (df_rows (length h.image.used) (store_on h bytes)) result
df_told sizes is_store lengths counted h bytes blocks free nodes stored count whole unstaged blocks_is free_is nodes_is stored_is count_is result row_is =
    let s = store_on h bytes in
    let its_files = files_of h.image.records bytes in
    let sized = sizes h bytes whole in
    let none : length h.staged ≡ 0 = ap length unstaged in
    let trees = trees_are its_files h.nodes h.snapshots in
    let free_told : free_blocks (length h.image.used) s ≡ free = omega (arith, free_is, none, sized.free) in
    let nodes_told : node_count s ≡ nodes = sym (nodes_is ∙ sized.nodes) in
    let stored_told : stored_bytes (trees_in s) ≡ stored
    = ap stored_bytes trees ∙ (counted (labelled_on its_files) h.nodes (roots_of h.snapshots) (labels_are its_files h.nodes) (is_store h whole)).0 (lengths h bytes whole) ∙ sym stored_is in
    let count_told : length s.snapshots ≡ count = as_many its_files h.nodes h.snapshots ∙ sym count_is in
    row_told [] (df_rows (length h.image.used) s) (row.Df blocks free nodes stored count) result row_is refl
    (ap (λ (n : ℕ). row.Df n (free_blocks (length h.image.used) s) (node_count s) (stored_bytes (trees_in s)) (length s.snapshots) ∷ []) (sym blocks_is)
    ∙ ap (λ (n : ℕ). row.Df blocks n (node_count s) (stored_bytes (trees_in s)) (length s.snapshots) ∷ []) free_told
    ∙ ap (λ (n : ℕ). row.Df blocks free n (stored_bytes (trees_in s)) (length s.snapshots) ∷ []) nodes_told
    ∙ ap (λ (n : ℕ). row.Df blocks free nodes n (length s.snapshots) ∷ []) stored_told
    ∙ ap (λ (n : ℕ). row.Df blocks free nodes stored n ∷ []) count_told)

-- ---- a snapshot that is named is one of the store's

or_right : (a b : Bool) → b ≡ true → (a || b) ≡ true
or_right true b h = refl
or_right false b h = h

itself : (n : ℕ) → nat_eq n n ≡ true
itself n = grind (arith, nat_tests)

first_rooted : (x s : Row) (xs : List Row) → Some x ≡ Some s → is_member nat_eq (roots_of (x ∷ xs)) s.root ≡ true
first_rooted x s xs e =
    let same : x ≡ s = cc in
    subst (λ (y : Row). is_member nat_eq (roots_of (x ∷ xs)) y.root ≡ true) same (ap (λ (b : Bool). b || is_member nat_eq (roots_of xs) x.root) (itself x.root))

last_rooted : (x s : Row) (xs : List Row) → last_or (Some x) xs ≡ Some s → is_member nat_eq (roots_of (x ∷ xs)) s.root ≡ true
last_rooted x s [] e = first_rooted x s [] e
last_rooted x s (y ∷ ys) e = or_right (nat_eq s.root x.root) (is_member nat_eq (roots_of (y ∷ ys)) s.root) (last_rooted y s ys e)

found_rooted : (date : ℕ) (xs : List Row) (s : Row) → find (λ r. r.date == date) xs ≡ Some s → is_member nat_eq (roots_of xs) s.root ≡ true
found_rooted date [] s e = absurd (cc e)
found_rooted date (x ∷ xs) s e = by_test (x.date == date) (found_rooted date xs s) e
  where
    by_test : (b : Bool) → (find (λ r. r.date == date) xs ≡ Some s → is_member nat_eq (roots_of xs) s.root ≡ true)
        → cond b (Some x) (find (λ r. r.date == date) xs) ≡ Some s → is_member nat_eq (roots_of (x ∷ xs)) s.root ≡ true
    by_test true rest e = first_rooted x s xs e
    by_test false rest e = or_right (nat_eq s.root x.root) (is_member nat_eq (roots_of xs) s.root) (rest e)

dated_rooted : (xs : List Row) (date : Option ℕ) (s : Row) → snapshot_dated xs date ≡ Some s → is_member nat_eq (roots_of xs) s.root ≡ true
dated_rooted [] None s e = absurd (cc e)
dated_rooted (x ∷ xs) None s e = last_rooted x s xs e
dated_rooted xs (Some date) s e = found_rooted date xs s e

named_rooted : (own : List ℕ) (xs : List Row) (machine : List ℕ) (date : Option ℕ) (volume : List ℕ) (s : Row) → held_under own xs machine date volume ≡ Some s → is_member nat_eq (roots_of xs) s.root ≡ true
named_rooted own xs machine date volume s e = by_machine (same_name machine own) e
  where
    by_volume : (x : Row) → snapshot_dated xs date ≡ Some x → (b : Bool) → (if b then Some x else None) ≡ Some s → is_member nat_eq (roots_of xs) s.root ≡ true
    by_volume x d true e = dated_rooted xs date s (d ∙ e)
    by_volume x d false e = absurd (cc e)

    by_dated : (o : Option Row) → snapshot_dated xs date ≡ o → of_volume volume o ≡ Some s → is_member nat_eq (roots_of xs) s.root ≡ true
    by_dated None d e = absurd (cc e)
    by_dated (Some x) d e = by_volume x d (same_name volume x.volume) e

    by_machine : (b : Bool) → of_volume volume (if b then snapshot_dated xs date else None) ≡ Some s → is_member nat_eq (roots_of xs) s.root ≡ true
    by_machine true e = by_dated (snapshot_dated xs date) refl e
    by_machine false e = absurd (cc e)

-- ---- an item of it

kind_told : (bytes : List ℕ) (b : NodeBody) → kind_of (item_on bytes b) ≡ reply_kind (kind_of_body b)
kind_told bytes (body.Folder a entries) = refl
kind_told bytes (body.Leaf (leaf.File a stamp size)) = refl
kind_told bytes (body.Leaf (leaf.Link a stamp target)) = refl

module _ (named : NamedUnder) (is_store : HeldIsStore) (counted : LinksAreCounted) (h : Held) (bytes : ℕ → List ℕ) (whole : IsWhole h) (item : ItemAt) where
  abbrev its_files : ℕ → List ℕ
  its_files = files_of h.image.records bytes

  abbrev its_trees : List LabelledTree
  its_trees = trees_in (store_on h bytes)

  abbrev its_row : Option Row
  its_row = held_under h.machine h.snapshots item.snapshot.machine (date_of item.snapshot.at) item.volume

  links_told : (s : Row) (n : ℕ) (r : NodeRow) → its_row ≡ Some s → number_at h.nodes s.root item.path ≡ Some n → node h.nodes n ≡ Some r → links its_trees r.label item.path ≡ r.links
  links_told s n r e number is =
      let roots = roots_of h.snapshots in
      let member = named_rooted h.machine h.snapshots item.snapshot.machine (date_of item.snapshot.at) item.volume s e in
      let label : label_of h.nodes n ≡ r.label = ap (λ (o : Option NodeRow). unwrap_or (option_map (λ row. row.label) o) 0) is in
      ap (λ (ts : List LabelledTree). links ts r.label item.path) (trees_are its_files h.nodes h.snapshots)
      ∙ ap (λ (k : ℕ). links (trees_of (labelled_on its_files) h.nodes roots) k item.path) (sym label)
      ∙ counted (labelled_on its_files) h.nodes roots (labels_are its_files h.nodes) (is_store h whole) s.root n item.path (member, number)
      ∙ ap (λ (o : Option NodeRow). unwrap_or (option_map (λ row. row.links) o) 0) is

  row_is : (s : Row) (n : ℕ) (stat : Stat) (k : Kind) (leads : WalkLeadsTo its_files h.nodes (rows_of (labelled_on its_files) h.nodes s.root) item.path n) → its_row ≡ Some s
      → number_at h.nodes s.root item.path ≡ Some n → stat_of leads.row ≡ stat → k ≡ reply_kind stat.kind
      → stat_row its_trees item.path (labelled_on its_files n leads.row) ≡ row.Stat k stat.label stat.links
  row_is s n stat k leads e number told kind =
      let kinds : kind_of (item_on (its_files n) leads.row.body) ≡ k = kind_told (its_files n) leads.row.body ∙ ap (λ (x : Stat). reply_kind x.kind) told ∙ sym kind in
      ap (λ (x : Kind). row.Stat x leads.row.label (links its_trees leads.row.label item.path)) kinds
      ∙ ap (λ (x : ℕ). row.Stat k leads.row.label x) (links_told s n leads.row e number leads.is)
      ∙ ap (λ (x : Stat). row.Stat k x.label x.links) told

  by_row : (o : Option Row) (found : Found) (stat : Stat) (k : Kind) → its_row ≡ o → IsSomeAnd o (λ s. number_at h.nodes s.root item.path ≡ Some found.node)
      → Looks its_files h.nodes (option_map (snapshot_on its_files h.nodes) o) item.path (Ok found)
      → option_map stat_of (node h.nodes found.node) ≡ Some stat → k ≡ reply_kind stat.kind
      → (first_refused (stored_tests item_tests (option_map (snapshot_on its_files h.nodes) o) item.path) ≡ None)
      × (option_map_or (λ (l : Labelled). stat_row its_trees item.path l ∷ []) (at (labelled_tree (option_map (snapshot_on its_files h.nodes) o)) item.path) [] ≡ row.Stat k stat.label stat.links ∷ [])
  by_row None found stat k e number looks told kind = absurd looks
  by_row (Some s) found stat k e number looks told kind =
      let tree = rows_of (labelled_on its_files) h.nodes s.root in
      let leads = looks.1 in
      let read : Some (stat_of leads.row) ≡ Some stat = sym (ap (option_map stat_of) leads.is) ∙ told in
      let same : stat_of leads.row ≡ stat = cc in (
        item_there (bare tree) item.path (item_on (its_files found.node) leads.row.body) leads.walks,
        ap (λ (o : Option Labelled). option_map_or (λ (l : Labelled). stat_row its_trees item.path l ∷ []) o []) leads.stands
            ∙ ap (λ (r : ReplyRow). r ∷ []) (row_is s found.node stat k leads e number same kind),
      )

  pub stat_told : (found : Found) (stat : Stat) (k : Kind) → IsSomeAnd its_row (λ s. number_at h.nodes s.root item.path ≡ Some found.node)
      → Looks its_files h.nodes (holding_snapshot (store_on h bytes) item) item.path (Ok found)
      → option_map stat_of (node h.nodes found.node) ≡ Some stat → k ≡ reply_kind stat.kind
      → (result : Result (List ReplyRow) LineFault) → IsRow (row.Stat k stat.label stat.links) result
      → AnswersQuery (stored_tests item_tests (holding_snapshot (store_on h bytes) item) item.path) (stat_rows (store_on h bytes) item) result
  stat_told found stat k number looks told kind result row_is =
      let here : holding_snapshot (store_on h bytes) item ≡ option_map (snapshot_on its_files h.nodes) its_row = named h bytes item.snapshot.machine (date_of item.snapshot.at) item.volume in
      subst (λ (o : Option Snapshot). AnswersQuery (stored_tests item_tests o item.path) (option_map_or (λ (l : Labelled). stat_row its_trees item.path l ∷ []) (at (labelled_tree o) item.path) []) result) (sym here)
      (let both = by_row its_row found stat k refl number (subst (λ (o : Option Snapshot). Looks its_files h.nodes o item.path (Ok found)) here looks) told kind in
      row_told (stored_tests item_tests (option_map (snapshot_on its_files h.nodes) its_row) item.path) _ (row.Stat k stat.label stat.links) result row_is both.0 both.1)
