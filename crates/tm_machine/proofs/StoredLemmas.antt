-- What the lines that read the store answer.
use Rattle.std.proofs.Common.{◌≡◌, ℕ, ◌==◌, ◌||◌, ◌+◌, ◌-◌, ◌<◌, suc, slice_get, arith, append_assoc, drop, get_or, is_some, length, take, IfSome, IsSomeAnd, Bor, if◌then◌else◌, Bool, true, false, cond, Option, Some, None, not, Result, Ok, Err, List, [], ◌∷◌, ◌++◌, map, refl, sym, ◌∙◌, ap, subst}
use Rattle.std.specs.List.{cons_option, filter_map, last_or, list_any}
use Rattle.std.proofs.lemmas.List.{take_all, take_more}
use Rattle.std.proofs.lemmas.List.Elements.{filter_map-append}
use Rattle.std.specs.Option.{option_map, option_map_or}
use Rattle.tm_base.specs.Paths.{Names, same_name}
use Rattle.tm_base.specs.declared.refused.LineFault.{LineFault}
use Rattle.tm_base.specs.declared.refused.LineFault.TheVariants.{Refused as RefusedFor, Fault, Memory}
use Rattle.tm_base.specs.declared.refused.Refused.{Refused}
use Rattle.tm_base.specs.declared.refused.Refused.TheVariants.{NoSnapshot, NoStore, IsFolder}
use Rattle.tm_reply.specs.declared.row.ReplyRow.{ReplyRow}
use Rattle.tm_reply.specs.declared.row.ReplyRow.TheVariants as row
use Rattle.tm_reply.specs.declared.row.ListedName.{ListedName}
use Rattle.tm_reply.specs.declared.row.ListedName.TheVariants as called
use Rattle.tm_text.specs.declared.place.StorePath.TheVariants as place
use Rattle.tm_text.specs.declared.place.SnapshotAt.{SnapshotAt}
use Rattle.tm_text.specs.declared.place.ItemAt.{ItemAt}
use Rattle.tm_tree.specs.declared.item.Item.{Item}
use Rattle.tm_tree.specs.declared.item.Labelled.{Labelled}
use Rattle.tm_tree.specs.declared.node.Child.{Child}
use Rattle.tm_tree.specs.declared.node.LeafRow.{LeafRow}
use Rattle.tm_tree.specs.declared.node.LeafRow.TheVariants as leaf
use Rattle.tm_tree.specs.declared.node.NodeBody.{NodeBody}
use Rattle.tm_tree.specs.declared.node.NodeBody.TheVariants as body
use Rattle.tm_tree.specs.declared.node.NodeRow.{NodeRow}
use Rattle.tm_tree.specs.Changes.{item_tests}
use Rattle.tm_tree.specs.Copies.{bare}
use Rattle.tm_tree.specs.declared.attrs.Attrs.{Attrs}
use Rattle.tm_tree.specs.Items.{attrs_of, is_folder}
use Rattle.tm_tree.specs.Listings.{entries_of}
use Rattle.tm_tree.specs.Refusing.{Tests, first_refused}
use Rattle.tm_tree.specs.States.{StoreState, Snapshot, latest}
use Rattle.tm_graph.specs.Nodes.{Nodes, node, entries_of as entries_in}
use Rattle.tm_store_records.specs.declared.snapshot.Snapshot.{Snapshot as Row}
use Rattle.tm_identity.specs.Stored.{body_length, node_length}
use Rattle.tm_store_records.specs.Held.{Held, IsWhole, files_of, store_on}
use Rattle.tm_store_records.specs.Laws.{HeldFiles}
use Rattle.tm_store_records.specs.States.{item_on, labelled_on, snapshot_on}
use Rattle.tm_graph.specs.Nodes.{IsGraph}
use Rattle.tm_graph.specs.Trees.{number_at, rows_of}
use Rattle.tm_identity.specs.Entries.{EntriesStand, entry_read, standing_in}
use Rattle.tm_store.specs.declared.finding.Found.{Found}
use Rattle.tm_store.specs.Finding.{WalkLeadsTo, Looks, NamedAt, NamedUnder, held_at, held_under}
use Rattle.tm_tree.specs.Copies.{LabelledTree}
use Rattle.tm_tree.specs.Trees.{children, is_child, last_of}
use Rattle.tm_tree.specs.Walks.{walk}
use Rattle.tm_base.specs.declared.refused.Side.{Side}
use Rattle.tm_machine.specs.declared.store.StoredItem.{StoredItem}
use Rattle.tm_machine.specs.Answers.{AnswersQuery, AnswersReading, FindsIn, HoldsNode, IsRow}
use Rattle.tm_world.specs.Outside.{Outside, disk}
use Rattle.tm_world.specs.declared.world.Side.TheVariants.{Store as StoreSide}
use Rattle.tm_machine.specs.Session.{Seen, state_on}
use Rattle.tm_machine.specs.States.{store_in}
use Rattle.tm_machine.proofs.Resting.{held_in}
use Rattle.tm_machine.proofs.Reading.{contents_missing, content_folder, list_missing, lists, tells}
use Rattle.tm_machine.specs.Queries.{attributes, leaf_in, content_row, content_rows, date_of, list_rows, read_item, child_line, child_lines, extra_rows, item_row, named_row, node_attributes, node_line, node_lines, shown_rows, path_row, date_row, snapshot_paths, latest_path, held_paths, held_dates, held_latest, held_machine, store_rows, named_snapshot, holding_snapshot, stored_tree}
use Rattle.tm_machine.specs.Steps.{content_tests, on_store, place_tests, snapshot_tests, stored_tests}
use Rattle.tm_base.proofs.Facts.{last_there}

-- the last of a list

pub last_is : {X : Type 0} (xs : List X) → slice_get xs (length xs - 1) ≡ last_or None xs
last_is [] = refl
last_is (x ∷ xs) =
    let below : suc (length xs) - 1 ≡ length xs = omega arith in
    ap (slice_get (x ∷ xs)) below ∙ last_there None x xs

-- ---- the snapshots in memory are those of the store

module _ (files : ℕ → List ℕ) (g : Nodes) where
  abbrev told : Row → Snapshot
  told s = snapshot_on files g s

  pub paths_are : (machine : List ℕ) (xs : List Row) → map (path_row machine) (map told xs) ≡ held_paths machine xs
  paths_are machine [] = refl
  paths_are machine (x ∷ xs) = ap (λ (rows : List ReplyRow). row.SnapshotPath machine x.date ∷ rows) (paths_are machine xs)

  pub dates_are : (xs : List Row) → map date_row (map told xs) ≡ held_dates xs
  dates_are [] = refl
  dates_are (x ∷ xs) = ap (λ (rows : List ReplyRow). row.Snapshot x.date ∷ rows) (dates_are xs)

  last_mapped : (o : Option Row) (xs : List Row) → last_or (option_map told o) (map told xs) ≡ option_map told (last_or o xs)
  last_mapped o [] = refl
  last_mapped o (x ∷ xs) = last_mapped (Some x) xs

  latest_told : (o : Option Row) → option_map_or (λ (s : Snapshot). row.Latest s.date ∷ []) (option_map told o) [] ≡ held_latest o
  latest_told None = refl
  latest_told (Some s) = refl

  pub machine_is : (xs : List Row) → map date_row (map told xs) ++ option_map_or (λ (s : Snapshot). row.Latest s.date ∷ []) (last_or None (map told xs)) [] ≡ held_machine xs
  machine_is xs =
      ap (λ (rows : List ReplyRow). rows ++ option_map_or (λ (s : Snapshot). row.Latest s.date ∷ []) (last_or None (map told xs)) []) (dates_are xs)
      ∙ ap (λ (o : Option Snapshot). held_dates xs ++ option_map_or (λ (s : Snapshot). row.Latest s.date ∷ []) o []) (last_mapped None xs)
      ∙ ap (λ (rows : List ReplyRow). held_dates xs ++ rows) (latest_told (last_or None xs) ∙ ap held_latest (sym (last_is xs)))

-- ---- what is asked of all

pub lists_backups : (h : Held) (bytes : ℕ → List ℕ) (rows : List ReplyRow) → rows ≡ held_paths h.machine h.snapshots → rows ≡ snapshot_paths (store_on h bytes)
lists_backups h bytes rows is = is ∙ sym (paths_are (files_of h.image.records bytes) h.nodes h.machine h.snapshots)

abbrev latest_in : Held → (ℕ → List ℕ) → Option Snapshot
latest_in h bytes = latest (store_on h bytes)

pub latest_is : (h : Held) (bytes : ℕ → List ℕ) → latest_in h bytes ≡ option_map (snapshot_on (files_of h.image.records bytes) h.nodes) (last_or None h.snapshots)
latest_is h bytes = last_mapped (files_of h.image.records bytes) h.nodes None h.snapshots

-- ---- the bytes of a stored file

whole_at : (h : Held) (bytes : ℕ → List ℕ) (n size : ℕ) (into out : List ℕ) (count : ℕ) (o : Option NodeRow) → node h.nodes n ≡ o → is_some o ≡ true → IfSome o (λ r. size ≡ node_length r)
    → ((r : NodeRow) → node h.nodes n ≡ Some r → length (files_of h.image.records bytes n) ≡ node_length r) → count ≡ size
    → into ≡ take count (drop 0 (files_of h.image.records bytes n)) → out ≡ into → out ≡ files_of h.image.records bytes n
whole_at h bytes n size into out count None e t long lengths many read same = cc
whole_at h bytes n size into out count (Some r) e t long lengths many read same =
    same ∙ read ∙ take_all count (files_of h.image.records bytes n) (omega (arith, lengths r e, long, many))

pub whole_file : HeldFiles → (h : Held) (bytes : ℕ → List ℕ) (n size : ℕ) (into out : List ℕ) (count : ℕ) → IsWhole h → is_some (node h.nodes n) ≡ true → IfSome (node h.nodes n) (λ r. size ≡ node_length r)
    → count ≡ size → into ≡ take count (drop 0 (files_of h.image.records bytes n)) → out ≡ into → out ≡ files_of h.image.records bytes n
whole_file files h bytes n size into out count whole there long many read same =
    whole_at h bytes n size into out count (node h.nodes n) refl there long (λ r e. files h bytes n r whole e) many read same

-- ---- the lines of entries, one after the other

pub child_lines_more : (g : Nodes) (children : List Child) (i : ℕ) (child : Child) (rows new first : List ReplyRow) → i < length children → child ≡ get_or children i child
    → new ≡ rows ++ cons_option (child_line g child) [] → rows ≡ first ++ child_lines g (take i children) → new ≡ first ++ child_lines g (take (i + 1) children)
child_lines_more g children i child rows new first low is step so_far =
    step ∙ ap (λ (x : List ReplyRow). x ++ cons_option (child_line g child) []) so_far ∙ append_assoc first (child_lines g (take i children)) (cons_option (child_line g child) [])
    ∙ ap (λ (x : List ReplyRow). first ++ x)
    (ap (λ (c : Child). child_lines g (take i children) ++ cons_option (child_line g c) []) is
    ∙ sym (ap (filter_map (child_line g)) (take_more children i child low) ∙ filter_map-append (child_line g) (take i children) (get_or children i child ∷ [])))

-- ---- what stands at a path of a snapshot

line_body : (bytes : List ℕ) (b : NodeBody) (name : ListedName) → length bytes ≡ body_length b → item_row (item_on bytes b) name ≡ node_line b name
line_body bytes (body.Folder a entries) name long = refl
line_body bytes (body.Leaf (leaf.File a stamp size)) name long = ap (λ (n : ℕ). row.File (attributes a) n stamp name) long
line_body bytes (body.Leaf (leaf.Link a stamp target)) name long = refl

attrs_body : (bytes : List ℕ) (b : NodeBody) → attrs_of (item_on bytes b) ≡ node_attributes b
attrs_body bytes (body.Folder a entries) = refl
attrs_body bytes (body.Leaf (leaf.File a stamp size)) = refl
attrs_body bytes (body.Leaf (leaf.Link a stamp target)) = refl

-- the entries of a folder's node have the lines of the items in it; of a leaf there are none
module _ (files : ℕ → List ℕ) (g : Nodes) (lengths : (n : ℕ) (r : NodeRow) → node g n ≡ Some r → length (files n) ≡ node_length r) where
  abbrev read_entry : Child → Option (List ℕ × Item)
  read_entry c = read_item files g c

  entry_line : (c : Child) (o : Option NodeRow) → node g c.node ≡ o
      → option_map named_row (option_map (λ r. (c.name, item_on (files c.node) r.body)) o) ≡ option_map (λ r. node_line r.body (called.Entry c.name)) o
  entry_line c None e = refl
  entry_line c (Some r) e = ap (λ (x : ReplyRow). Some x) (line_body (files c.node) r.body (called.Entry c.name) (lengths c.node r e))

  cons_mapped : (o : Option (List ℕ × Item)) (rows : List (List ℕ × Item)) → map named_row (cons_option o rows) ≡ cons_option (option_map named_row o) (map named_row rows)
  cons_mapped None rows = refl
  cons_mapped (Some x) rows = refl

  entries_lines : (cs : List Child) → map named_row (filter_map read_entry cs) ≡ child_lines g cs
  entries_lines [] = refl
  entries_lines (c ∷ cs) =
      cons_mapped (read_entry c) (filter_map read_entry cs) ∙ ap (λ (o : Option ReplyRow). cons_option o (map named_row (filter_map read_entry cs))) (entry_line c (node g c.node) refl)
      ∙ ap (cons_option (child_line g c)) (entries_lines cs)

  folder_lines : (n : ℕ) (r : NodeRow) (p : Names) (b : NodeBody) (entries : List (List ℕ × Item)) → r.body ≡ b → entries ≡ filter_map read_entry (entries_in r)
      → (if is_folder (item_on (files n) b) then map named_row entries else []) ≡ child_lines g (entries_in r)
  folder_lines n r p (body.Folder a es) entries e is = ap (map named_row) is ∙ entries_lines (entries_in r)
  folder_lines n r p (body.Leaf (leaf.File a stamp size)) entries e is = sym (ap (λ (k : NodeBody). child_lines g (entries_in (record r { body = k }))) e)
  folder_lines n r p (body.Leaf (leaf.Link a stamp target)) entries e is = sym (ap (λ (k : NodeBody). child_lines g (entries_in (record r { body = k }))) e)

  -- an item is shown as its node
  pub shown_is : (n : ℕ) (r : NodeRow) (p : Names) (entries : List (List ℕ × Item)) → node g n ≡ Some r → entries ≡ filter_map read_entry (entries_in r)
      → shown_rows (item_on (files n) r.body) p entries ≡ node_lines g r p
  shown_is n r p entries e is =
      ap (λ (x : ReplyRow). x ∷ extra_rows (attrs_of (item_on (files n) r.body)) ++ (if is_folder (item_on (files n) r.body) then map named_row entries else [])) (line_body (files n) r.body (called.Path p) (lengths n r e))
      ∙ ap (λ (a : Attrs). node_line r.body (called.Path p) ∷ extra_rows a ++ (if is_folder (item_on (files n) r.body) then map named_row entries else [])) (attrs_body (files n) r.body)
      ∙ ap (λ (rows : List ReplyRow). node_line r.body (called.Path p) ∷ extra_rows (node_attributes r.body) ++ rows) (folder_lines n r p r.body entries refl is)

-- ---- a stored item is found

abbrev bare_entry : List ℕ × Labelled → List ℕ × Item
bare_entry x = (x.0, x.1.item)

entries_bare : (t : LabelledTree) (p : Names) → entries_of (bare t) p ≡ map bare_entry (standing_in t p)
entries_bare [] p = refl
entries_bare (r ∷ t) p = by_test (is_child p r.0) (entries_bare t p)
  where
    by_test : (b : Bool) → entries_of (bare t) p ≡ map bare_entry (standing_in t p)
        → map (λ (x : Names × Item). (last_of x.0, x.1)) (cond b ((r.0, r.1.item) ∷ children (bare t) p) (children (bare t) p))
        ≡ map bare_entry (map (λ (x : Names × Labelled). (last_of x.0, x.1)) (cond b (r ∷ children t p) (children t p)))
    by_test true h = ap (λ (rows : List (List ℕ × Item)). (last_of r.0, r.1.item) ∷ rows) h
    by_test false h = h

entries_mapped : (files : ℕ → List ℕ) (g : Nodes) (cs : List Child) → map bare_entry (filter_map (entry_read (labelled_on files) g) cs) ≡ filter_map (read_item files g) cs
entries_mapped files g [] = refl
entries_mapped files g (c ∷ cs) = by_node (node g c.node) (entries_mapped files g cs)
  where
    by_node : (o : Option NodeRow) → map bare_entry (filter_map (entry_read (labelled_on files) g) cs) ≡ filter_map (read_item files g) cs
        → map bare_entry (cons_option (option_map (λ r. (c.name, labelled_on files c.node r)) o) (filter_map (entry_read (labelled_on files) g) cs))
        ≡ cons_option (option_map (λ r. (c.name, item_on (files c.node) r.body)) o) (filter_map (read_item files g) cs)
    by_node None h = h
    by_node (Some r) h = ap (λ (rows : List (List ℕ × Item)). (c.name, item_on (files c.node) r.body) ∷ rows) h

module _ (named : NamedUnder) (stands : EntriesStand) (h : Held) (bytes : ℕ → List ℕ) (graph : IsGraph h.nodes) (at : ItemAt) where
  abbrev its_files : ℕ → List ℕ
  its_files = files_of h.image.records bytes

  abbrev its_row : Option Row
  its_row = held_under h.machine h.snapshots at.snapshot.machine (date_of at.snapshot.at) at.volume

  its_snapshot : (o : Option Row) → its_row ≡ o → holding_snapshot (store_on h bytes) at ≡ option_map (snapshot_on its_files h.nodes) o
  its_snapshot o e = named h bytes at.snapshot.machine (date_of at.snapshot.at) at.volume ∙ ap (option_map (snapshot_on its_files h.nodes)) e

  holds_node : (s : Row) (found : Found) (row : NodeRow) → number_at h.nodes s.root at.path ≡ Some found.node → node h.nodes found.node ≡ Some row
      → WalkLeadsTo its_files h.nodes (rows_of (labelled_on its_files) h.nodes s.root) at.path found.node → HoldsNode (snapshot_on its_files h.nodes s) at.path its_files h.nodes found.node row
  holds_node s found row number is leads =
      let same : leads.row ≡ row = one_row leads.row row (sym leads.is ∙ is) in
      record {
        is = is;
        walks = subst (λ (r : NodeRow). walk (bare (rows_of (labelled_on its_files) h.nodes s.root)) at.path ≡ Ok (item_on (its_files found.node) r.body)) same leads.walks;
        entries = entries_bare (rows_of (labelled_on its_files) h.nodes s.root) at.path
            ∙ ap (map bare_entry) (stands (labelled_on its_files) h.nodes s.root found.node at.path row graph number is) ∙ entries_mapped its_files h.nodes (entries_in row);
      }
    where
      one_row : (a b : NodeRow) → Some a ≡ Some b → a ≡ b
      one_row a b e = cc

  found_at : (o : Option Row) (found : Found) (row : Bor NodeRow) → its_row ≡ o → IsSomeAnd o (λ s. number_at h.nodes s.root at.path ≡ Some found.node) → node h.nodes found.node ≡ Some row.now
      → Looks its_files h.nodes (option_map (snapshot_on its_files h.nodes) o) at.path (Ok found)
      → FindsIn (option_map (snapshot_on its_files h.nodes) o) at.path its_files h.nodes (Ok (record { number = found.node; row = row }))
  found_at None found row e number is looks = looks
  found_at (Some s) found row e number is looks = holds_node s found row.now number is looks.1

  pub found_stored : (found : Found) (row : Bor NodeRow) → IsSomeAnd its_row (λ s. number_at h.nodes s.root at.path ≡ Some found.node) → node h.nodes found.node ≡ Some row.now
      → Looks its_files h.nodes (holding_snapshot (store_on h bytes) at) at.path (Ok found)
      → FindsIn (holding_snapshot (store_on h bytes) at) at.path its_files h.nodes (Ok (record { number = found.node; row = row }))
  found_stored found row number is looks =
      subst (λ (o : Option Snapshot). FindsIn o at.path its_files h.nodes (Ok (record { number = found.node; row = row }))) (sym (its_snapshot its_row refl))
      (found_at its_row found row refl number is (subst (λ (o : Option Snapshot). Looks its_files h.nodes o at.path (Ok found)) (its_snapshot its_row refl) looks))

pub missed_stored : (files : ℕ → List ℕ) (g : Nodes) (o : Option Snapshot) (path : Names) (why : LineFault) → Looks files g o path (Err why) → FindsIn o path files g (Err why)
missed_stored files g None path (RefusedFor r) looks = looks
missed_stored files g None path (Fault side) looks = looks
missed_stored files g None path Memory looks = tt
missed_stored files g (Some s) path (RefusedFor r) looks = looks
missed_stored files g (Some s) path (Fault side) looks = looks
missed_stored files g (Some s) path Memory looks = tt

-- it takes no device
pub looks_unfailed : {A : Type 0} (files : ℕ → List ℕ) (g : Nodes) (o : Option Snapshot) (path : Names) (why : LineFault) → Looks files g o path (Err why) → (side : Side) → ◌≡◌ {A = Result A LineFault} (Err why) (Err (Fault side)) → ⊥
looks_unfailed files g None path (RefusedFor r) looks side e = cc
looks_unfailed files g None path (Fault s) looks side e = looks
looks_unfailed files g None path Memory looks side e = cc
looks_unfailed files g (Some z) path (RefusedFor r) looks side e = cc
looks_unfailed files g (Some z) path (Fault s) looks side e = looks
looks_unfailed files g (Some z) path Memory looks side e = cc

-- ---- what is answered of it

pub stored_missing : (files : ℕ → List ℕ) (g : Nodes) (o : Option Snapshot) (path : Names) (why : LineFault) (rows : List ReplyRow) → FindsIn o path files g (Err why) → AnswersQuery (stored_tests item_tests o path) rows (Err why)
stored_missing files g None path (RefusedFor r) rows finds = ap (λ (x : Refused). Some x) (sym finds)
stored_missing files g None path (Fault side) rows finds = finds
stored_missing files g None path Memory rows finds = tt
stored_missing files g (Some s) path (RefusedFor r) rows finds = list_missing (bare s.tree) path (RefusedFor r) rows finds
stored_missing files g (Some s) path (Fault side) rows finds = finds
stored_missing files g (Some s) path Memory rows finds = tt

pub stored_lists : (files : ℕ → List ℕ) (g : Nodes) (o : Option Snapshot) (path : Names) (found : StoredItem) (rows : List ReplyRow)
    → ((n : ℕ) (r : NodeRow) → node g n ≡ Some r → length (files n) ≡ node_length r) → FindsIn o path files g (Ok found) → rows ≡ node_lines g found.row.now path
    → AnswersQuery (stored_tests item_tests o path) (list_rows (stored_tree o) path) (Ok rows)
stored_lists files g None path found rows lengths finds is = absurd finds
stored_lists files g (Some s) path found rows lengths finds is =
    lists (bare s.tree) path (item_on (files found.number) found.row.now.body) (entries_of (bare s.tree) path) rows finds.walks refl
    (is ∙ sym (shown_is files g lengths found.number found.row.now path (entries_of (bare s.tree) path) finds.is finds.entries))

-- a node is the file or link that it has, or a folder
pub body_is : (b : NodeBody) (l : LeafRow) → Some l ≡ leaf_in b → b ≡ body.Leaf l
body_is (body.Folder a es) l e = cc
body_is (body.Leaf k) l e = let same : l ≡ k = cc in ap (λ (x : LeafRow). body.Leaf x) (sym same)

folder_is : (bytes : List ℕ) (b : NodeBody) → None ≡ leaf_in b → is_folder (item_on bytes b) ≡ true
folder_is bytes (body.Folder a es) e = refl
folder_is bytes (body.Leaf k) e = cc

-- the contents
pub stored_untold : (files : ℕ → List ℕ) (g : Nodes) (o : Option Snapshot) (path : Names) (why : LineFault) (rows : List ReplyRow) → FindsIn o path files g (Err why) → AnswersReading (stored_tests content_tests o path) rows (Err why)
stored_untold files g None path (RefusedFor r) rows finds = ap (λ (x : Refused). Some x) (sym finds)
stored_untold files g None path (Fault side) rows finds = tt
stored_untold files g None path Memory rows finds = tt
stored_untold files g (Some s) path (RefusedFor r) rows finds = contents_missing (bare s.tree) path (RefusedFor r) rows finds
stored_untold files g (Some s) path (Fault side) rows finds = tt
stored_untold files g (Some s) path Memory rows finds = tt

pub stored_folder : (files : ℕ → List ℕ) (g : Nodes) (o : Option Snapshot) (path : Names) (found : StoredItem) → FindsIn o path files g (Ok found)
    → None ≡ leaf_in found.row.now.body → first_refused (stored_tests content_tests o path) ≡ Some IsFolder
stored_folder files g None path found finds e = absurd finds
stored_folder files g (Some s) path found finds e =
    content_folder (bare s.tree) path (item_on (files found.number) found.row.now.body) finds.walks (folder_is (files found.number) found.row.now.body e)

stored_tells : (files : ℕ → List ℕ) (g : Nodes) (o : Option Snapshot) (path : Names) (found : StoredItem) (rows : List ReplyRow) → FindsIn o path files g (Ok found)
    → is_folder (item_on (files found.number) found.row.now.body) ≡ false → rows ≡ content_row (item_on (files found.number) found.row.now.body)
    → (first_refused (stored_tests content_tests o path) ≡ None) × (rows ≡ content_rows (stored_tree o) path)
stored_tells files g None path found rows finds leaf is = absurd finds
stored_tells files g (Some s) path found rows finds leaf is = tells (bare s.tree) path (item_on (files found.number) found.row.now.body) rows finds.walks leaf is

one_told : (tested : Tests) (rows : List ReplyRow) (r : ReplyRow) (result : Result (List ReplyRow) LineFault) → IsRow r result
    → ((found : List ReplyRow) → found ≡ r ∷ [] → (first_refused tested ≡ None) × (found ≡ rows)) → AnswersReading tested rows result
one_told tested rows r (Ok found) is h = h found is
one_told tested rows r (Err (RefusedFor why)) is h = absurd is
one_told tested rows r (Err (Fault side)) is h = tt
one_told tested rows r (Err Memory) is h = tt

pub stored_file : (files : ℕ → List ℕ) (g : Nodes) (o : Option Snapshot) (path : Names) (found : StoredItem) (a : Attrs) (stamp size : ℕ) (bytes : List ℕ) (result : Result (List ReplyRow) LineFault)
    → FindsIn o path files g (Ok found) → found.row.now.body ≡ body.Leaf (leaf.File a stamp size) → bytes ≡ files found.number → IsRow (row.Contents bytes) result
    → AnswersReading (stored_tests content_tests o path) (content_rows (stored_tree o) path) result
stored_file files g o path found a stamp size bytes result finds e is row_is =
    one_told (stored_tests content_tests o path) (content_rows (stored_tree o) path) (row.Contents bytes) result row_is (λ rows told.
    stored_tells files g o path found rows finds (ap (λ (k : NodeBody). is_folder (item_on (files found.number) k)) e)
    (told ∙ ap (λ (b : List ℕ). row.Contents b ∷ []) is ∙ sym (ap (λ (k : NodeBody). content_row (item_on (files found.number) k)) e)))

pub stored_link : (files : ℕ → List ℕ) (g : Nodes) (o : Option Snapshot) (path : Names) (found : StoredItem) (a : Attrs) (stamp : ℕ) (target copy : List ℕ) (result : Result (List ReplyRow) LineFault)
    → FindsIn o path files g (Ok found) → found.row.now.body ≡ body.Leaf (leaf.Link a stamp target) → copy ≡ target → IsRow (row.Target copy) result
    → AnswersReading (stored_tests content_tests o path) (content_rows (stored_tree o) path) result
stored_link files g o path found a stamp target copy result finds e is row_is =
    one_told (stored_tests content_tests o path) (content_rows (stored_tree o) path) (row.Target copy) result row_is (λ rows told.
    stored_tells files g o path found rows finds (ap (λ (k : NodeBody). is_folder (item_on (files found.number) k)) e)
    (told ∙ ap (λ (b : List ℕ). row.Target b ∷ []) is ∙ sym (ap (λ (k : NodeBody). content_row (item_on (files found.number) k)) e)))

-- ---- what a session answers of its store

-- a fact of a session's store, whatever it holds
pub of_store : (P : Option StoreState → Type 0) (m : Seen) (h : Held) (o : Outside) → m.store ≡ Some h → P (Some (store_on h (disk StoreSide o).bytes)) → P (store_in (state_on m o).store)
of_store P m h o is p = subst (λ (z : Option Held). P (store_in (held_in (disk StoreSide o).bytes z))) (sym is) p

pub of_none : (P : Option StoreState → Type 0) (m : Seen) (o : Outside) → m.store ≡ None → P None → P (store_in (state_on m o).store)
of_none P m o is p = subst (λ (z : Option Held). P (store_in (held_in (disk StoreSide o).bytes z))) (sym is) p

-- where no store is formatted
pub no_store_answer : (test : StoreState → Tests) (rows : Option StoreState → List ReplyRow) (m : Seen) (o : Outside) (why : Refused) (r : Result (List ReplyRow) LineFault) → why ≡ NoStore → m.store ≡ None → r ≡ Err (RefusedFor why)
    → AnswersQuery (on_store (store_in (state_on m o).store) test) (rows (store_in (state_on m o).store)) r
no_store_answer test rows m o why r is none exit =
    subst (AnswersQuery (on_store (store_in (state_on m o).store) test) (rows (store_in (state_on m o).store))) (sym exit)
    (of_none (λ z. AnswersQuery (on_store z test) (rows z) (Err (RefusedFor why))) m o none (ap Some (sym is)))

pub no_store_reading : (test : StoreState → Tests) (rows : Option StoreState → List ReplyRow) (m : Seen) (o : Outside) (why : Refused) (r : Result (List ReplyRow) LineFault) → why ≡ NoStore → m.store ≡ None → r ≡ Err (RefusedFor why)
    → AnswersReading (on_store (store_in (state_on m o).store) test) (rows (store_in (state_on m o).store)) r
no_store_reading test rows m o why r is none exit =
    subst (AnswersReading (on_store (store_in (state_on m o).store) test) (rows (store_in (state_on m o).store))) (sym exit)
    (of_none (λ z. AnswersReading (on_store z test) (rows z) (Err (RefusedFor why))) m o none (ap Some (sym is)))

pub tells_backups : (m : Seen) (h : Held) (rows : List ReplyRow) → m.store ≡ Some h → rows ≡ held_paths h.machine h.snapshots → (o : Outside)
    → let z = store_in (state_on m o).store in AnswersQuery (on_store z (λ store. [])) (option_map_or snapshot_paths z []) (Ok rows)
tells_backups m h rows is told o =
    of_store (λ z. AnswersQuery (on_store z (λ store. [])) (option_map_or snapshot_paths z []) (Ok rows)) m h o is (refl, lists_backups h (disk StoreSide o).bytes rows told)

latest_rows : (machine : List ℕ) (s : Snapshot) (o : Option Snapshot) (rows : List ReplyRow) → o ≡ Some s → rows ≡ row.SnapshotPath machine s.date ∷ []
    → (first_refused (snapshot_tests o) ≡ None) × (rows ≡ option_map_or (λ (s : Snapshot). row.SnapshotPath machine s.date ∷ []) o [])
latest_rows machine s o rows e is = subst (λ (x : Option Snapshot). (first_refused (snapshot_tests x) ≡ None) × (rows ≡ option_map_or (λ (s : Snapshot). row.SnapshotPath machine s.date ∷ []) x [])) (sym e) (refl, is)

pub tells_latest : (m : Seen) (h : Held) (s : Row) (rows : List ReplyRow) → m.store ≡ Some h → slice_get h.snapshots (length h.snapshots - 1) ≡ Some s → rows ≡ row.SnapshotPath h.machine s.date ∷ [] → (o : Outside)
    → let z = store_in (state_on m o).store in AnswersQuery (on_store z (λ store. snapshot_tests (latest store))) (option_map_or latest_path z []) (Ok rows)
tells_latest m h s rows is last told o =
    let bytes = (disk StoreSide o).bytes in
    of_store (λ z. AnswersQuery (on_store z (λ store. snapshot_tests (latest store))) (option_map_or latest_path z []) (Ok rows)) m h o is
    (latest_rows h.machine (snapshot_on (files_of h.image.records bytes) h.nodes s) (latest_in h bytes) rows (latest_is h bytes ∙ ap (option_map (snapshot_on (files_of h.image.records bytes) h.nodes)) (sym (last_is h.snapshots) ∙ last)) told)

pub no_latest : (m : Seen) (h : Held) → m.store ≡ Some h → slice_get h.snapshots (length h.snapshots - 1) ≡ None → (o : Outside)
    → first_refused (on_store (store_in (state_on m o).store) (λ store. snapshot_tests (latest store))) ≡ Some NoSnapshot
no_latest m h is last o =
    let bytes = (disk StoreSide o).bytes in
    of_store (λ z. first_refused (on_store z (λ store. snapshot_tests (latest store))) ≡ Some NoSnapshot) m h o is
    (ap (λ (x : Option Snapshot). first_refused (snapshot_tests x)) (latest_is h bytes ∙ ap (option_map (snapshot_on (files_of h.image.records bytes) h.nodes)) (sym (last_is h.snapshots) ∙ last)))

-- ---- what a store path names

pub machine_listed : (h : Held) (bytes : ℕ → List ℕ) (machine : List ℕ) (rows : List ReplyRow) → same_name machine h.machine ≡ true → rows ≡ held_machine h.snapshots
    → AnswersQuery (place_tests (store_on h bytes) (place.Machine machine)) (store_rows (store_on h bytes) (place.Machine machine)) (Ok rows)
machine_listed h bytes machine rows same is =
    (ap (λ (b : Bool). first_refused ((not b, NoSnapshot) ∷ [])) same, is ∙ sym (machine_is (files_of h.image.records bytes) h.nodes h.snapshots))

named_rows : (o : Option Snapshot) (s : Snapshot) (rows : List ReplyRow) → o ≡ Some s → rows ≡ row.Volume s.volume s.id ∷ []
    → (first_refused (snapshot_tests o) ≡ None) × (rows ≡ option_map_or (λ (s : Snapshot). row.Volume s.volume s.id ∷ []) o [])
named_rows o s rows e is = subst (λ (x : Option Snapshot). (first_refused (snapshot_tests x) ≡ None) × (rows ≡ option_map_or (λ (s : Snapshot). row.Volume s.volume s.id ∷ []) x [])) (sym e) (refl, is)

pub snapshot_listed : NamedAt → (h : Held) (bytes : ℕ → List ℕ) (at : SnapshotAt) (s : Row) (rows : List ReplyRow) → Some s ≡ held_at h.machine h.snapshots at.machine (date_of at.at) → rows ≡ row.Volume s.volume s.id ∷ []
    → AnswersQuery (place_tests (store_on h bytes) (place.Snapshot at)) (store_rows (store_on h bytes) (place.Snapshot at)) (Ok rows)
snapshot_listed named h bytes at s rows found is =
    named_rows (named_snapshot (store_on h bytes) at) (snapshot_on (files_of h.image.records bytes) h.nodes s) rows
    (named h bytes at.machine (date_of at.at) ∙ ap (option_map (snapshot_on (files_of h.image.records bytes) h.nodes)) (sym found)) is

pub snapshot_missing : NamedAt → (h : Held) (bytes : ℕ → List ℕ) (at : SnapshotAt) → None ≡ held_at h.machine h.snapshots at.machine (date_of at.at)
    → first_refused (place_tests (store_on h bytes) (place.Snapshot at)) ≡ Some NoSnapshot
snapshot_missing named h bytes at none =
    ap (λ (o : Option Snapshot). first_refused (snapshot_tests o)) (named h bytes at.machine (date_of at.at) ∙ ap (option_map (snapshot_on (files_of h.image.records bytes) h.nodes)) (sym none))

-- ---- which volumes they are of

pub ids_are : (files : ℕ → List ℕ) (g : Nodes) (id : ℕ) (xs : List Row) → list_any (λ (s : Snapshot). s.id == id) (map (snapshot_on files g) xs) ≡ list_any (λ (s : Row). s.id == id) xs
ids_are files g id [] = refl
ids_are files g id (x ∷ xs) = ap (λ (b : Bool). x.id == id || b) (ids_are files g id xs)
