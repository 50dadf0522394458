-- What a walk finds on the volume, and the entries of a folder.
use Rattle.std.proofs.Common.{◌≡◌, ℕ, suc, ◌+◌, ◌<◌, Bool, true, false, if◌then◌else◌, not, ◌&&◌, Option, Some, None, IfSome, Result, Ok, Err, OnOk, List, [], ◌∷◌, ◌++◌, map, length, take, drop, get_or, add-one, drop-cons, append_assoc, append-nil, refl, sym, ap, ◌∙◌, subst, arith}
use Rattle.std.specs.BTreeMap.{is_at}
use Rattle.std.specs.Cmp.{eq_by_cmp_equiv, unsigned_Decides}
use Rattle.std.specs.Cmp.Lexicographic.{pointwise_decides}
use Rattle.std.specs.List.{All}
use Rattle.std.specs.List.Sorted.{IsStrictlySortedBy}
use Rattle.std.specs.Map.{keys_of, lookup}
use Rattle.std.specs.Option.{option_map_or}
use Rattle.std.proofs.lemmas.List.{length-map, get_or-map, get_or_default, drop_all, take_all}
use Rattle.std.proofs.lemmas.List.Elements.{All-filter, filter_passes}
use Rattle.std.proofs.lemmas.Map.Keys.{IsDistinct-from_sorted}
use Rattle.std.proofs.lemmas.Map.Views.{lookup-from_Contains}
use Rattle.tm_base.specs.Paths.{Names, path_cmp, is_root, same_path, parent_of}
use Rattle.tm_base.specs.declared.refused.LineFault.{LineFault}
use Rattle.tm_base.specs.declared.refused.LineFault.TheVariants as fault
use Rattle.tm_base.specs.declared.refused.Refused.{Refused}
use Rattle.tm_base.specs.declared.refused.Refused.TheVariants.{NotFolder}
use Rattle.tm_items.specs.Computed.{tree_of, items_of, placed_rows}
use Rattle.tm_items.proofs.Finding.{last_apart}
use Rattle.tm_base.specs.declared.refused.Side.{Side as RefusedSide}
use Rattle.tm_reply.specs.declared.row.ListedName.{ListedName}
use Rattle.tm_reply.specs.declared.row.ListedName.TheVariants as called
use Rattle.tm_reply.specs.declared.row.ReplyRow.{ReplyRow}
use Rattle.tm_tree.specs.declared.item.Item.{Item}
use Rattle.tm_tree.specs.declared.item.Item.TheVariants.{Folder, File, Link}
use Rattle.tm_tree.specs.declared.listing.ListRow.{ListRow}
use Rattle.tm_tree.specs.declared.record.ItemBody.{ItemBody}
use Rattle.tm_tree.specs.declared.record.ItemRow.{ItemRow}
use Rattle.tm_tree.specs.declared.attrs.Attrs.{Attrs}
use Rattle.tm_tree.specs.declared.node.LeafRow.TheVariants as leaf
use Rattle.tm_tree.specs.declared.record.ItemBody.TheVariants as body
use Rattle.tm_tree.specs.Items.{is_folder, is_file, attrs_of, bytes_of}
use Rattle.tm_tree.specs.Listings.{entries_of, listed, list_rows as rows_of, listing, listing_of}
use Rattle.tm_tree.specs.declared.listing.Listing.{Listing}
use Rattle.tm_tree.specs.Trees.{Tree, item_at, children, is_child, last_of}
use Rattle.tm_tree.specs.Walks.{walk, walk_from, through, found, Finds}
use Rattle.tm_tree.proofs.AtPaths.{in_order_put_all}
use Rattle.tm_tree.proofs.Order.{path_total, InOrder}
use Rattle.tm_volume.specs.Answers.{FindsRow}
use Rattle.tm_volume_records.specs.Records.{placings_of}
use Rattle.tm_volume.specs.Room.{body_of}
use Rattle.tm_volume.specs.Seen.{Seen as VolumeSeen, entries_on, tree_on}
use Rattle.tm_machine.specs.Queries.{item_row, body_row, body_attrs, content_row, content_rows, extra_rows, list_rows, named_row, shown_rows}
use Rattle.tm_base.specs.declared.refused.Refused.TheVariants.{IsFolder}
use Rattle.tm_reply.specs.declared.row.ReplyRow.TheVariants as row
use Rattle.tm_tree.specs.Refusing.{first_refused}
use Rattle.tm_machine.specs.Answers.{AnswersQuery, AnswersReading, IsRow}
use Rattle.tm_tree.specs.Changes.{item_tests}
use Rattle.tm_machine.specs.Steps.{content_tests}
use Rattle.tm_machine.proofs.Reading.{walk_stands, list_missing, lists, contents_missing, content_folder, tells}
use Rattle.tm_base.proofs.Facts.{both_true}

-- ---- an item by its record

pub row_of_body : (e : Item) (name : ListedName) → body_row (body_of e) name ≡ item_row e name
row_of_body (Folder a) name = refl
row_of_body (File a s b) name = refl
row_of_body (Link a s t) name = refl

pub attrs_of_body : (e : Item) → body_attrs (body_of e) ≡ attrs_of e
attrs_of_body (Folder a) = refl
attrs_of_body (File a s b) = refl
attrs_of_body (Link a s t) = refl

-- ---- a walk that goes on by a name

onward_same : (o : Option Item) (w x : Result Item Refused) (e : Item) → through o w ≡ Ok e → through o x ≡ x
onward_same None w x e h = cc
onward_same (Some d) w x e h = elim (is_folder d) as (λ b. (if b then w else Err NotFolder) ≡ Ok e → (if b then x else Err NotFolder) ≡ x) [ true ↦ λ k. refl | false ↦ λ k. cc ] h

onward_ok : (o : Option Item) (w : Result Item Refused) (e : Item) → through o w ≡ Ok e → w ≡ Ok e
onward_ok None w e h = cc
onward_ok (Some d) w e h = elim (is_folder d) as (λ b. (if b then w else Err NotFolder) ≡ Ok e → w ≡ Ok e) [ true ↦ λ k. k | false ↦ λ k. cc ] h

found_there : (o : Option Item) (e : Item) → found o ≡ Ok e → o ≡ Some e
found_there None e h = cc
found_there (Some d) e h = cc

through_folder : (o : Option Item) (e : Item) (x : Result Item Refused) → o ≡ Some e → is_folder e ≡ true → through o x ≡ x
through_folder o e x is folder = ap (λ (p : Option Item). through p x) is ∙ ap (λ (b : Bool). if b then x else Err NotFolder) folder

walk_on : (t : Tree) (done p : Names) (n : List ℕ) (e : Item) → walk_from t done p ≡ Ok e → is_folder e ≡ true
    → walk_from t done (p ++ n ∷ []) ≡ found (item_at t (done ++ (p ++ n ∷ [])))
walk_on t done [] n e h folder = through_folder (item_at t done) e (found (item_at t (done ++ n ∷ []))) (found_there (item_at t done) e h) folder
walk_on t done (m ∷ p) n e h folder =
    onward_same (item_at t done) (walk_from t (done ++ m ∷ []) p) (walk_from t (done ++ m ∷ []) (p ++ n ∷ [])) e h
    ∙ walk_on t (done ++ m ∷ []) p n e (onward_ok (item_at t done) (walk_from t (done ++ m ∷ []) p) e h) folder
    ∙ ap (λ (q : Names). found (item_at t q)) (append_assoc done (m ∷ []) (p ++ n ∷ []))

-- ---- the entries of a folder

-- the rows of the tree on a disk stand in order
pub on_in_order : (m : VolumeSeen) (bytes : ℕ → List ℕ) → InOrder (tree_on m bytes)
unfolding tree_of IsStrictlySortedBy
on_in_order m bytes = in_order_put_all [] (placed_rows (items_of (placings_of (entries_on m bytes))) (placings_of (entries_on m bytes))) tt

rows_found : (t : Tree) → InOrder t → All (λ row. lookup (is_at (path_cmp row.0)) t ≡ Some row.1) t
rows_found t h i d below =
    let row : Names × Item = get_or t i d in
    lookup-from_Contains (eq_by_cmp_equiv path_total) row.0 row.1 t (IsDistinct-from_sorted path_cmp (keys_of t) h) (i, below, get_or_default t i row d below)

not_true : (b : Bool) → not b ≡ true → b ≡ false
not_true true h = cc
not_true false h = refl

same_paths : (p q : Names) → same_path p q ≡ true → p ≡ q
same_paths p q h = (pointwise_decides (pointwise_decides unsigned_Decides) p q).0 h

child_path : (p q : Names) → is_child p q ≡ true → q ≡ p ++ last_of q ∷ []
child_path p q h =
    let parts = both_true (not (is_root q)) (same_path (parent_of q) p) h in
    last_apart q (not_true (is_root q) parts.0) ∙ ap (λ (x : Names). x ++ last_of q ∷ []) (same_paths (parent_of q) p parts.1)

module _ (t : Tree) (in_order : InOrder t) (p : Names) (folder : Item) (stands : walk t p ≡ Ok folder) (is : is_folder folder ≡ true) where
  abbrev inside : Tree
  inside = children t p

  -- the walk to an entry comes to it
  entry_walk : (i : ℕ) (d : Names × Item) → i < length inside → walk t (p ++ last_of (get_or inside i d).0 ∷ []) ≡ Ok (get_or inside i d).1
  entry_walk i d low =
      let row : Names × Item = get_or inside i d in
      let path : row.0 ≡ p ++ last_of row.0 ∷ [] = child_path p row.0 (filter_passes (λ (x : Names × Item). is_child p x.0) t i d low) in
      let there : item_at t row.0 ≡ Some row.1 = All-filter (λ (x : Names × Item). is_child p x.0) (λ x. lookup (is_at (path_cmp x.0)) t ≡ Some x.1) t (rows_found t in_order) i d low in
      walk_on t [] p (last_of row.0) folder stands is ∙ ap found (ap (item_at t) (sym path) ∙ there)

  pub record IsEntry (row : ListRow) (i : ℕ) : Type 0 where
    pub item : Item
    pub kind_is : row.kind ≡ listed item
    pub walks : walk t (p ++ row.name ∷ []) ≡ Ok item
    pub next : drop i (entries_of t p) ≡ (row.name, item) ∷ drop (i + 1) (entries_of t p)

  pub entry_at : (i : ℕ) (row : ListRow) → i < length (rows_of t p) → row ≡ get_or (rows_of t p) i row → IsEntry row i
  entry_at i row low here =
      let d : Names × Item = ([], folder) in
      let rows_many : length (rows_of t p) ≡ length inside = length-map inside (λ (y : Names × Item). record { name = last_of y.0; kind = listed y.1 }) in
      let entries_many : length (entries_of t p) ≡ length inside = length-map inside (λ (y : Names × Item). (last_of y.0, y.1)) in
      let short : i < length inside = omega (arith, low, rows_many) in
      let x : Names × Item = get_or inside i d in
      let row_is : row ≡ record { name = last_of x.0; kind = listed x.1 } = here ∙ get_or-map (λ (y : Names × Item). record { name = last_of y.0; kind = listed y.1 }) inside i d row short in
      let name : row.name ≡ last_of x.0 = ap (λ (r : ListRow). r.name) row_is in
      let many : i < length (entries_of t p) = omega (arith, short, entries_many) in
      record {
        item = x.1;
        kind_is = ap (λ (r : ListRow). r.kind) row_is;
        walks = ap (λ (n : List ℕ). walk t (p ++ n ∷ [])) name ∙ entry_walk i d short;
        next = drop-cons (entries_of t p) i ([], folder) many
            ∙ ap (λ (e : List ℕ × Item). e ∷ drop (suc i) (entries_of t p))
            (get_or-map (λ (y : Names × Item). (last_of y.0, y.1)) inside i d ([], folder) short ∙ ap (λ (n : List ℕ). (n, x.1)) (sym name))
            ∙ ap (λ (j : ℕ). (row.name, x.1) ∷ drop j (entries_of t p)) (sym (add-one i));
      }

-- ---- what a find answers

abbrev okay : Item → Result Item Refused
okay e = Ok e

finds_one : (way : Result Item Refused) (e d : Item) → way ≡ Ok e → way ≡ Ok d → d ≡ e
finds_one way e d here there = let both_ok : okay d ≡ okay e = sym there ∙ here in cc

pub finds_refused : (way : Result Item Refused) (why : LineFault) (e : Item) (r : Refused) → FindsRow way (Err why) → way ≡ Ok e → why ≡ fault.Refused r → ⊥
finds_refused way (fault.Refused x) e r finds here is = cc
finds_refused way (fault.Fault side) e r finds here is = finds
finds_refused way fault.Memory e r finds here is = cc

pub finds_no_fault : (way : Result Item Refused) (why : LineFault) (side : RefusedSide) → FindsRow way (Err why) → why ≡ fault.Fault side → ⊥
finds_no_fault way (fault.Refused x) side finds is = cc
finds_no_fault way (fault.Fault other) side finds is = finds
finds_no_fault way fault.Memory side finds is = cc

pub folder_line : (way : Result Item Refused) (row : ItemRow) (e : Item) (name : List ℕ) (line : ReplyRow) → FindsRow way (Ok row) → way ≡ Ok e
    → line ≡ body_row row.body (called.Entry name) → line ≡ named_row (name, e)
folder_line way row e name line finds here is =
    is ∙ ap (λ (b : ItemBody). body_row b (called.Entry name)) (finds.2 ∙ ap body_of (finds_one way e finds.0 here finds.1)) ∙ row_of_body e (called.Entry name)

-- ---- a line more of the entries

pub push_more : (rows after total : List ReplyRow) (line : ReplyRow) (entry : List ℕ × Item) (left rest : List (List ℕ × Item))
    → after ≡ rows ++ line ∷ [] → line ≡ named_row entry → left ≡ entry ∷ rest → rows ++ map named_row left ≡ total → after ++ map named_row rest ≡ total
push_more rows after total line entry left rest pushed is next so_far =
    ap (λ (x : List ReplyRow). x ++ map named_row rest) pushed ∙ append_assoc rows (line ∷ []) (map named_row rest)
    ∙ ap (λ (x : ReplyRow). rows ++ x ∷ map named_row rest) is ∙ sym (ap (λ (x : List (List ℕ × Item)). rows ++ map named_row x) next) ∙ so_far

pub row_here : (i : ℕ) (row : ListRow) (entries rows : List ListRow) → i < length entries → row ≡ get_or entries i row → entries ≡ rows → (i < length rows) × (row ≡ get_or rows i row)
row_here i row entries rows low here same = (subst (λ (x : List ListRow). i < length x) same low, here ∙ ap (λ (x : List ListRow). get_or x i row) same)

-- ---- a listing

pub listed_folder : (t : Tree) (p : Names) (e : Item) (l : Listing) → walk t p ≡ Ok e → Some l ≡ listing t p → (is_folder e ≡ true) × (l.rows ≡ rows_of t p)
listed_folder t p (Folder a) l here is =
    let same : Some l ≡ Some (record { attrs = a; rows = rows_of t p }) = is ∙ ap (λ (o : Option Item). listing_of o (rows_of t p)) (walk_stands t p (Folder a) here) in
    (refl, ap (λ (x : Option Listing). option_map_or (λ (y : Listing). y.rows) x l.rows) same)
listed_folder t p (File a s b) l here is = let same : Some l ≡ None = is ∙ ap (λ (o : Option Item). listing_of o (rows_of t p)) (walk_stands t p (File a s b) here) in cc
listed_folder t p (Link a s b) l here is = let same : Some l ≡ None = is ∙ ap (λ (o : Option Item). listing_of o (rows_of t p)) (walk_stands t p (Link a s b) here) in cc

abbrev entry_lines : Tree → Names → Item → List ReplyRow
entry_lines t p e = if is_folder e then map named_row (entries_of t p) else []

none_listed : {P : Type 0} (l : Listing) → None ≡ Some l → P
none_listed l e = cc

pub listed_leaf : (t : Tree) (p : Names) (e : Item) → walk t p ≡ Ok e → None ≡ listing t p → entry_lines t p e ≡ []
listed_leaf t p (Folder a) here is = none_listed (record { attrs = a; rows = rows_of t p }) (is ∙ ap (λ (o : Option Item). listing_of o (rows_of t p)) (walk_stands t p (Folder a) here))
listed_leaf t p (File a s b) here is = refl
listed_leaf t p (Link a s b) here is = refl

pub folder_lines : (t : Tree) (p : Names) (e : Item) → is_folder e ≡ true → map named_row (entries_of t p) ≡ entry_lines t p e
folder_lines t p e is = sym (ap (λ (b : Bool). if b then map named_row (entries_of t p) else []) is)

-- the tree does not tell looks
pub unlooked_tree : (v w : VolumeSeen) (looks : ℕ) (bytes : ℕ → List ℕ) → w ≡ record v { looks = looks } → tree_on w bytes ≡ tree_on v bytes
unlooked_tree v w looks bytes is = ap (λ (x : VolumeSeen). tree_on x bytes) is

-- what a find answers, by the item
pub missing : (way : Result Item Refused) (why : LineFault) → FindsRow way (Err why) → Finds way (Err why)
missing way (fault.Refused r) h = h
missing way (fault.Fault side) h = h
missing way fault.Memory h = tt

-- all the lines of an item
pub shown_all : (t : Tree) (p : Names) (row : ItemRow) (e : Item) (first second third rows : List ReplyRow) (line : ReplyRow)
    → row.body ≡ body_of e → first ≡ [] → second ≡ first ++ line ∷ [] → line ≡ body_row row.body (called.Path p) → third ≡ second ++ extra_rows (body_attrs row.body)
    → rows ≡ third ++ entry_lines t p e → rows ≡ shown_rows e p (entries_of t p)
shown_all t p row e first second third rows line body_is none one is extras all =
    let line_is : line ≡ item_row e (called.Path p) = is ∙ ap (λ (b : ItemBody). body_row b (called.Path p)) body_is ∙ row_of_body e (called.Path p) in
    let second_is : second ≡ item_row e (called.Path p) ∷ [] = one ∙ ap (λ (x : List ReplyRow). x ++ line ∷ []) none ∙ ap (λ (x : ReplyRow). x ∷ []) line_is in
    let extras_is : extra_rows (body_attrs row.body) ≡ extra_rows (attrs_of e) = ap extra_rows (ap body_attrs body_is ∙ attrs_of_body e) in
    let third_is : third ≡ item_row e (called.Path p) ∷ extra_rows (attrs_of e) = extras ∙ ap (λ (x : List ReplyRow). x ++ extra_rows (body_attrs row.body)) second_is ∙ ap (λ (x : List ReplyRow). item_row e (called.Path p) ∷ x) extras_is in
    all ∙ ap (λ (x : List ReplyRow). x ++ entry_lines t p e) third_is

-- ---- the bytes of a file

pub filled : (into items : List ℕ) (count : ℕ) → length into ≡ length items → count ≡ length items → take count (into ++ drop (length into) items) ≡ into
filled into items count same many =
    ap (λ (x : List ℕ). take count (into ++ x)) (drop_all (length into) items (omega (arith, same))) ∙ ap (take count) (append-nil into) ∙ take_all count into (omega (arith, same, many))

pub file_bytes : (o : Option Item) (e : Item) (into out : List ℕ) (n size : ℕ) → o ≡ Some e → length (bytes_of e) ≡ size → n ≡ size → IfSome o (λ x. into ≡ take n (drop 0 (bytes_of x))) → out ≡ into
    → IfSome o (λ x. out ≡ bytes_of x)
file_bytes o e into out n size is long many read same =
    let here : into ≡ take n (bytes_of e) = subst (λ (x : Option Item). IfSome x (λ y. into ≡ take n (drop 0 (bytes_of y)))) is read in
    subst (λ (x : Option Item). IfSome x (λ y. out ≡ bytes_of y)) (sym is) (same ∙ here ∙ take_all n (bytes_of e) (omega (arith, long, many)))

-- the record of a file tells how many bytes it has
pub file_size : (b : ItemBody) (e : Item) (a : Attrs) (stamp size : ℕ) → b ≡ body_of e → b ≡ body.Leaf (leaf.File a stamp size) → (is_file e ≡ true) × (length (bytes_of e) ≡ size)
file_size b (Folder a2) a stamp size here is = let same : body.Folder a2 ≡ body.Leaf (leaf.File a stamp size) = sym here ∙ is in cc
file_size b (File a2 s bytes) a stamp size here is = let same : body.Leaf (leaf.File a2 s (length bytes)) ≡ body.Leaf (leaf.File a stamp size) = sym here ∙ is in (refl, cc)
file_size b (Link a2 s t) a stamp size here is = let same : body.Leaf (leaf.Link a2 s t) ≡ body.Leaf (leaf.File a stamp size) = sym here ∙ is in cc

-- ---- what `cat` shows

pub body_folder : (b : ItemBody) (e : Item) (a : Attrs) → b ≡ body_of e → b ≡ body.Folder a → is_folder e ≡ true
body_folder b (Folder a2) a here is = refl
body_folder b (File a2 s bytes) a here is = let same : body.Leaf (leaf.File a2 s (length bytes)) ≡ body.Folder a = sym here ∙ is in cc
body_folder b (Link a2 s t) a here is = let same : body.Leaf (leaf.Link a2 s t) ≡ body.Folder a = sym here ∙ is in cc

file_content : (e : Item) (bytes : List ℕ) → is_file e ≡ true → bytes ≡ bytes_of e → (is_folder e ≡ false) × (content_row e ≡ row.Contents bytes ∷ [])
file_content (Folder a) bytes file is = cc
file_content (File a s b) bytes file is = (refl, ap (λ (x : List ℕ). row.Contents x ∷ []) (sym is))
file_content (Link a s t) bytes file is = cc

link_content : (b : ItemBody) (e : Item) (a : Attrs) (stamp : ℕ) (target : List ℕ) → b ≡ body_of e → b ≡ body.Leaf (leaf.Link a stamp target) → (is_folder e ≡ false) × (content_row e ≡ row.Target target ∷ [])
link_content b (Folder a2) a stamp target here is = let same : body.Folder a2 ≡ body.Leaf (leaf.Link a stamp target) = sym here ∙ is in cc
link_content b (File a2 s bytes) a stamp target here is = let same : body.Leaf (leaf.File a2 s (length bytes)) ≡ body.Leaf (leaf.Link a stamp target) = sym here ∙ is in cc
link_content b (Link a2 s t) a stamp target here is = let same : body.Leaf (leaf.Link a2 s t) ≡ body.Leaf (leaf.Link a stamp target) = sym here ∙ is in
    let is_target : t ≡ target = cc in (refl, ap (λ (x : List ℕ). row.Target x ∷ []) is_target)

one_answers : (t : Tree) (p : Names) (e : Item) (line : ReplyRow) (result : Result (List ReplyRow) LineFault) → walk t p ≡ Ok e → is_folder e ≡ false → content_row e ≡ line ∷ [] → IsRow line result
    → AnswersReading (content_tests t p) (content_rows t p) result
one_answers t p e line (Ok found) here leaf_is shown h = tells t p e found here leaf_is (h ∙ sym shown)
one_answers t p e line (Err (fault.Refused why)) here leaf_is shown h = absurd h
one_answers t p e line (Err (fault.Fault side)) here leaf_is shown h = absurd h
one_answers t p e line (Err fault.Memory) here leaf_is shown h = tt

reading_missing : (t : Tree) (p : Names) (why : LineFault) → FindsRow (walk t p) (Err why) → AnswersReading (content_tests t p) (content_rows t p) (Err why)
reading_missing t p (fault.Refused why) h = contents_missing t p (fault.Refused why) (content_rows t p) h
reading_missing t p (fault.Fault side) h = tt
reading_missing t p fault.Memory h = tt

pub shows_missing : (t : Tree) (p : Names) (why : LineFault) → FindsRow (walk t p) (Err why) → AnswersReading (content_tests t p) (content_rows t p) (Err why)
shows_missing t p why h = reading_missing t p why h

pub shows_file : (t : Tree) (p : Names) (found : ItemRow) (a : Attrs) (stamp size : ℕ) (bytes : List ℕ) (result : Result (List ReplyRow) LineFault) → FindsRow (walk t p) (Ok found)
    → found.body ≡ body.Leaf (leaf.File a stamp size) → IfSome (item_at t p) (λ e. bytes ≡ bytes_of e) → IsRow (row.Contents bytes) result → AnswersReading (content_tests t p) (content_rows t p) result
shows_file t p found a stamp size bytes result finds is read h =
    let e = finds.0 in
    let sized = file_size found.body e a stamp size finds.2 is in
    let bytes_are : bytes ≡ bytes_of e = subst (λ (o : Option Item). IfSome o (λ x. bytes ≡ bytes_of x)) (walk_stands t p e finds.1) read in
    let content = file_content e bytes sized.0 bytes_are in
    one_answers t p e (row.Contents bytes) result finds.1 content.0 content.1 h

pub shows_link : (t : Tree) (p : Names) (found : ItemRow) (a : Attrs) (stamp : ℕ) (target : List ℕ) (result : Result (List ReplyRow) LineFault) → FindsRow (walk t p) (Ok found)
    → found.body ≡ body.Leaf (leaf.Link a stamp target) → IsRow (row.Target target) result → AnswersReading (content_tests t p) (content_rows t p) result
shows_link t p found a stamp target result finds is h =
    let content = link_content found.body finds.0 a stamp target finds.2 is in
    one_answers t p finds.0 (row.Target target) result finds.1 content.0 content.1 h

pub shows_folder : (t : Tree) (p : Names) (found : ItemRow) (a : Attrs) → FindsRow (walk t p) (Ok found) → found.body ≡ body.Folder a → first_refused (content_tests t p) ≡ Some IsFolder
shows_folder t p found a finds is = content_folder t p finds.0 finds.1 (body_folder found.body finds.0 a finds.2 is)

-- a file is there
pub file_there : (t : Tree) (p : Names) (found : ItemRow) (a : Attrs) (stamp size : ℕ) → FindsRow (walk t p) (Ok found) → found.body ≡ body.Leaf (leaf.File a stamp size)
    → (e : Item) × (item_at t p ≡ Some e) × (is_file e ≡ true) × (length (bytes_of e) ≡ size)
file_there t p found a stamp size finds is =
    let sized = file_size found.body finds.0 a stamp size finds.2 is in
    (finds.0, walk_stands t p finds.0 finds.1, sized.0, sized.1)

-- ---- the entries of what may be no folder

pub pushed_none : (t : Tree) (p : Names) (e : Item) (rows : List ReplyRow) (o : Option Listing) → walk t p ≡ Ok e → o ≡ listing t p → o ≡ None → rows ≡ rows ++ entry_lines t p e
pushed_none t p e rows o here is none =
    sym (ap (λ (x : List ReplyRow). rows ++ x) (listed_leaf t p e here (sym none ∙ is)) ∙ append-nil rows)

abbrev PushesOk : Tree → Names → List ListRow → List ReplyRow → List ReplyRow → Result (Unit {0}) LineFault → Type 0
PushesOk t p entries rows new result = (folder : Item) → walk t p ≡ Ok folder → is_folder folder ≡ true → entries ≡ rows_of t p → OnOk result (new ≡ rows ++ map named_row (entries_of t p))

onok_as : (result : Result (Unit {0}) LineFault) (new a b : List ReplyRow) → a ≡ b → OnOk result (new ≡ a) → OnOk result (new ≡ b)
onok_as result new a b same h = subst (λ (x : List ReplyRow). OnOk result (new ≡ x)) same h

pub pushed_some : (t other : Tree) (p : Names) (e : Item) (l : Listing) (o : Option Listing) (entries : List ListRow) (rows new : List ReplyRow) (result : Result (Unit {0}) LineFault)
    → other ≡ t → walk t p ≡ Ok e → o ≡ listing t p → o ≡ Some l → entries ≡ l.rows → PushesOk other p entries rows new result → OnOk result (new ≡ rows ++ entry_lines t p e)
pushed_some t other p e l o entries rows new result same here is some rows_are pushes =
    let f = listed_folder t p e l here (sym some ∙ is) in
    let on : PushesOk t p entries rows new result = subst (λ (u : Tree). PushesOk u p entries rows new result) same pushes in
    onok_as result new (rows ++ map named_row (entries_of t p)) (rows ++ entry_lines t p e) (ap (λ (x : List ReplyRow). rows ++ x) (folder_lines t p e f.0)) (on e here f.0 (rows_are ∙ f.1))

abbrev NeverRefused : Tree → Names → List ListRow → Result (Unit {0}) LineFault → Type 0
NeverRefused t p entries result = (folder : Item) → walk t p ≡ Ok folder → is_folder folder ≡ true → entries ≡ rows_of t p → (why : Refused) → result ≡ Err (fault.Refused why) → ⊥

pub pushed_unrefused : (t other : Tree) (p : Names) (e : Item) (l : Listing) (o : Option Listing) (entries : List ListRow) (why : Refused) (result : Result (Unit {0}) LineFault)
    → other ≡ t → walk t p ≡ Ok e → o ≡ listing t p → o ≡ Some l → entries ≡ l.rows → NeverRefused other p entries result → result ≡ Err (fault.Refused why) → ⊥
pushed_unrefused t other p e l o entries why result same here is some rows_are never refused =
    let f = listed_folder t p e l here (sym some ∙ is) in
    let on : NeverRefused t p entries result = subst (λ (u : Tree). NeverRefused u p entries result) same never in
    on e here f.0 (rows_are ∙ f.1) why refused

-- ---- `ls`

pub listing_missing : (t : Tree) (p : Names) (why : LineFault) → FindsRow (walk t p) (Err why) → AnswersQuery (item_tests t p) (list_rows t p) (Err why)
listing_missing t p (fault.Refused why) h = list_missing t p (fault.Refused why) (list_rows t p) h
listing_missing t p (fault.Fault side) h = h
listing_missing t p fault.Memory h = tt

pub listing_failed : (t : Tree) (p : Names) (e : Item) (why : LineFault) → walk t p ≡ Ok e → ((r : Refused) → why ≡ fault.Refused r → ⊥) → ((side : RefusedSide) → why ≡ fault.Fault side → ⊥)
    → AnswersQuery (item_tests t p) (list_rows t p) (Err why)
listing_failed t p e (fault.Refused r) here no_refusal no_fault = absurd (no_refusal r refl)
listing_failed t p e (fault.Fault side) here no_refusal no_fault = no_fault side refl
listing_failed t p e fault.Memory here no_refusal no_fault = tt

pub listing_done : (t : Tree) (p : Names) (found : ItemRow) (e : Item) (first second third rows : List ReplyRow) (line : ReplyRow) → walk t p ≡ Ok e → found.body ≡ body_of e
    → first ≡ [] → second ≡ first ++ line ∷ [] → line ≡ body_row found.body (called.Path p) → third ≡ second ++ extra_rows (body_attrs found.body)
    → rows ≡ third ++ entry_lines t p e → (first_refused (item_tests t p) ≡ None) × (rows ≡ list_rows t p)
listing_done t p found e first second third rows line here body_is none one is extras all =
    lists t p e (entries_of t p) rows here refl (shown_all t p found e first second third rows line body_is none one is extras all)
