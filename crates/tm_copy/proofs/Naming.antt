-- Names in folders: of nodes, and of trees.
use Rattle.std.proofs.Common.{suc, ◌≡◌, ℕ, ◌-◌, Bool, true, false, cond, not, ◌&&◌, Option, Some, None, is_some, List, [], ◌∷◌, ◌++◌, length, map, take, get_or, refl, sym, ap, ◌∙◌, arith, subst, ⊎_elim, ◌⊎◌, inl, inr, length-append}
use Rattle.std.specs.declared.cmp.Ordering.{Ordering}
use Rattle.std.specs.declared.cmp.Ordering.TheVariants.{Less, Equal, Greater}
use Rattle.std.specs.Ordering.{nat_cmp, ordering_then, ordering_reverse, is_eq}
use Rattle.std.specs.BTreeMap.{is_at}
use Rattle.std.specs.Cmp.{eq_by_cmp_equiv}
use Rattle.std.specs.Cmp.Lexicographic.{slice_cmp, nat_list_cmp_total}
use Rattle.std.specs.List.{All, AllByRecursion}
use Rattle.std.specs.List.Sorted.{IsStrictlySortedBy}
use Rattle.std.specs.Map.{keys_of}
use Rattle.std.proofs.Math.Seq.{take-append_seam, get_or-append_seam}
use Rattle.std.proofs.lemmas.Bool.Decides.{nat_tests}
use Rattle.std.proofs.lemmas.List.{get_or_default}
use Rattle.std.proofs.lemmas.List.Elements.{All-head, All-tail, All-map, All-filter, filter_passes}
use Rattle.std.proofs.lemmas.Map.Keys.{IsDistinct-from_sorted}
use Rattle.std.proofs.lemmas.Map.Views.{lookup-from_Contains}
use Rattle.tm_base.specs.Paths.{Names, path_cmp, name_cmp, same_name, same_path, is_root, parent_of}
use Rattle.tm_base.proofs.PathLemmas.{same_bytes, same_path_decides, path_cmp-append}
use Rattle.tm_tree.specs.declared.item.Item.{Item}
use Rattle.tm_tree.specs.declared.item.Item.TheVariants.{Folder, File, Link}
use Rattle.tm_tree.specs.declared.listing.ListRow.{ListRow}
use Rattle.tm_tree.specs.declared.listing.Listing.{Listing}
use Rattle.tm_tree.specs.declared.node.Child.{Child}
use Rattle.tm_tree.specs.Listings.{listed, list_rows, listing_of}
use Rattle.tm_tree.specs.Trees.{Tree, item_at, last_of, is_child, children, is_some_folder}
use Rattle.tm_tree.proofs.CopyProofs.{at_is}
use Rattle.tm_tree.proofs.Order.{InOrder, path_total, in_order_filter}
use Rattle.tm_graph.specs.Nodes.{NamesRise}
use Rattle.tm_graph.specs.Walks.{child_named}
use Rattle.tm_graph.proofs.PlaceAt.{name_is}
use Rattle.tm_copy.specs.Listed.{StandsAs, RowsStandIn, ListsFolder}

-- ---- entries by name

-- the name is one of these
abbrev pub In : List ℕ → List (List ℕ) → Type 0
In x [] = ⊥
In x (name ∷ names) = (name ≡ x) ⊎ In x names

abbrev pub names_of : List Child → List (List ℕ)
names_of es = map (λ c. c.name) es

itself : (x : List ℕ) → same_name x x ≡ true
itself x = (same_bytes x x).1 refl

-- an entry under each of the names
pub named_some : (es : List Child) (x : List ℕ) → In x (names_of es) → is_some (child_named es x) ≡ true
named_some [] x h = absurd h
named_some (c ∷ es) x (inl e) = ap (λ b. is_some (cond b (Some c.node) (child_named es x))) (subst (λ y. same_name c.name y ≡ true) e (itself c.name))
named_some (c ∷ es) x (inr h) = elim (same_name c.name x) as (λ b. is_some (cond b (Some c.node) (child_named es x)) ≡ true) [ true ↦ refl | false ↦ named_some es x h ]

-- and under no other
pub named_in : (es : List Child) (x : List ℕ) (m : ℕ) → child_named es x ≡ Some m → In x (names_of es)
named_in [] x m e = absurd (cc e)
named_in (c ∷ es) x m e =
    let rest = named_in es x m in
    elim (same_name c.name x) as (λ b. same_name c.name x ≡ b → cond b (Some c.node) (child_named es x) ≡ Some m → (c.name ≡ x) ⊎ In x (names_of es)) [
      | true ↦ λ same e. inl ((same_bytes c.name x).0 same)
      | false ↦ λ other e. inr (rest e)
    ] refl e

-- a name after the first isn't the first
in_all : (P : List ℕ → Type 0) (names : List (List ℕ)) (x : List ℕ) → AllByRecursion P names → In x names → P x
in_all P [] x h i = absurd i
in_all P (n ∷ names) x h (inl e) = subst P e h.0
in_all P (n ∷ names) x h (inr i) = in_all P names x h.1 i

not_less : (o : Ordering) → o ≡ Less → o ≡ Equal → ⊥
not_less o e f = cc

pub later_name : (c : Child) (es : List Child) (x : List ℕ) → NamesRise (c ∷ es) → In x (names_of es) → same_name c.name x ≡ false
unfolding IsStrictlySortedBy
later_name c es x rise i = by_test (same_name c.name x) refl
  where
    less : slice_cmp nat_cmp c.name x ≡ Less
    less = in_all (λ y. name_cmp c.name y ≡ Less) (names_of es) x rise.0 i

    by_test : (b : Bool) → same_name c.name x ≡ b → same_name c.name x ≡ false
    by_test false e = e
    by_test true e = let same : c.name ≡ x = (same_bytes c.name x).0 e in
        let tied : is_at (slice_cmp nat_cmp c.name) x ≡ true = sym (name_is c.name x) ∙ ((same_bytes x c.name).1 (sym same)) in
        cc (tied, ap is_eq less)

-- the first name stands nowhere after it
none_later : (c : Child) (es : List Child) → NamesRise (c ∷ es) → child_named es c.name ≡ None
none_later c es rise = by_option (child_named es c.name) refl
  where
    by_option : (o : Option ℕ) → child_named es c.name ≡ o → child_named es c.name ≡ None
    by_option None e = e
    by_option (Some m) e = absurd (cc (itself c.name, later_name c es c.name rise (named_in es c.name m e)))

pub finds_first : (c : Child) (es : List Child) (x : List ℕ) → c.name ≡ x → child_named (c ∷ es) x ≡ Some c.node
finds_first c es x e = ap (λ b. cond b (Some c.node) (child_named es x)) ((same_bytes c.name x).1 e)

pub finds_later : (c : Child) (es : List Child) (x : List ℕ) → same_name c.name x ≡ false → child_named (c ∷ es) x ≡ child_named es x
finds_later c es x e = ap (λ b. cond b (Some c.node) (child_named es x)) e

less_or_same : (c : Child) (es : List Child) (x : List ℕ) → NamesRise (c ∷ es) → In x (names_of (c ∷ es)) → (c.name ≡ x) ⊎ (name_cmp c.name x ≡ Less)
unfolding IsStrictlySortedBy
less_or_same c es x rise (inl e) = inl e
less_or_same c es x rise (inr i) = inr (in_all (λ y. name_cmp c.name y ≡ Less) (names_of es) x rise.0 i)

-- entries by rising name are told by the node under each name
first_name : (e : Child) (es : List Child) (f : Child) (fs : List Child) → NamesRise (e ∷ es) → NamesRise (f ∷ fs) → ((x : List ℕ) → child_named (e ∷ es) x ≡ child_named (f ∷ fs) x) → e.name ≡ f.name
first_name e es f fs r s is =
    let there : In f.name (names_of (e ∷ es)) = named_in (e ∷ es) f.name f.node (is f.name ∙ finds_first f fs f.name refl) in
    let back : In e.name (names_of (f ∷ fs)) = named_in (f ∷ fs) e.name e.node (sym (is e.name) ∙ finds_first e es e.name refl) in
    ⊎_elim (λ same. same) (λ less. ⊎_elim (λ same. sym same) (λ more. absurd (both less more)) (less_or_same f fs e.name s back)) (less_or_same e es f.name r there)
  where
    both : name_cmp e.name f.name ≡ Less → name_cmp f.name e.name ≡ Less → ⊥
    both less more = let turned : name_cmp e.name f.name ≡ Greater = nat_list_cmp_total.antisymm e.name f.name ∙ ap ordering_reverse more in cc (less, turned)

pub entries_equal : (es fs : List Child) → NamesRise es → NamesRise fs → ((x : List ℕ) → child_named es x ≡ child_named fs x) → es ≡ fs
unfolding IsStrictlySortedBy
entries_equal [] [] r s is = refl
entries_equal [] (f ∷ fs) r s is = absurd (cc (is f.name, finds_first f fs f.name refl))
entries_equal (e ∷ es) [] r s is = absurd (cc (is e.name, finds_first e es e.name refl))
entries_equal (e ∷ es) (f ∷ fs) r s is =
    let same : e.name ≡ f.name = first_name e es f fs r s is in
    let found : Some e.node ≡ Some f.node = sym (finds_first e es e.name refl) ∙ is e.name ∙ finds_first f fs e.name (sym same) in
    let node : e.node ≡ f.node = cc found in
    let rest : es ≡ fs = entries_equal es fs r.1 s.1 (λ x. by_test x same (same_name e.name x) refl) in
    λ i. record { name = same i; node = node i } ∷ rest i
  where
    by_test : (x : List ℕ) → e.name ≡ f.name → (b : Bool) → same_name e.name x ≡ b → child_named es x ≡ child_named fs x
    by_test x same true hit =
        let here : e.name ≡ x = (same_bytes e.name x).0 hit in
        subst (λ y. child_named es y ≡ child_named fs y) here (none_later e es r ∙ sym (subst (λ y. child_named fs y ≡ None) (sym same) (none_later f fs s)))
    by_test x same false off = sym (finds_later e es x off) ∙ is x ∙ finds_later f fs x (subst (λ y. same_name y x ≡ false) same off)

-- ---- paths of entries

pub last_is : (p : Names) (x : List ℕ) → last_of (p ++ x ∷ []) ≡ x
last_is p x = let long : length (p ++ x ∷ []) - 1 ≡ length p = omega (arith, length-append p (x ∷ [])) in ap (λ n. get_or (p ++ x ∷ []) n []) long ∙ get_or-append_seam p x [] []

pub parent_is : (p : Names) (x : List ℕ) → parent_of (p ++ x ∷ []) ≡ p
parent_is p x = let long : length (p ++ x ∷ []) - 1 ≡ length p = omega (arith, length-append p (x ∷ [])) in ap (λ n. take n (p ++ x ∷ [])) long ∙ take-append_seam p (x ∷ [])

pub no_root : (p : Names) (x : List ℕ) → is_root (p ++ x ∷ []) ≡ false
no_root p x = grind (arith, nat_tests, length-append p (x ∷ []))

pub child_path : (p : Names) (x : List ℕ) → is_child p (p ++ x ∷ []) ≡ true
child_path p x = rw (no_root p x) ((same_path_decides (parent_of (p ++ x ∷ [])) p).1 (parent_is p x))

split_last : (q : Names) → is_root q ≡ false → q ≡ parent_of q ++ last_of q ∷ []
split_last [] h = cc
split_last (x ∷ []) h = refl
split_last (x ∷ y ∷ q) h =
    let less : length (x ∷ y ∷ q) - 1 ≡ suc (length (y ∷ q) - 1) = omega arith in
    let whole : is_root (y ∷ q) ≡ false = grind (arith, nat_tests) in
    ap (λ (t : Names). x ∷ t) (split_last (y ∷ q) whole)
    ∙ (λ i. take (sym less i) (x ∷ y ∷ q) ++ get_or (x ∷ y ∷ q) (sym less i) [] ∷ [])

pub child_is : (p q : Names) → is_child p q ≡ true → q ≡ p ++ last_of q ∷ []
child_is p q h = by_root (is_root q) refl h
  where
    by_root : (b : Bool) → is_root q ≡ b → (not b && same_path (parent_of q) p) ≡ true → q ≡ p ++ last_of q ∷ []
    by_root true e h = cc
    by_root false e h = split_last q e ∙ ap (λ (r : Names). r ++ last_of q ∷ []) ((same_path_decides (parent_of q) p).0 h)

-- ---- the rows of a listing

abbrev row_of : Names × Item → ListRow
row_of row = record { name = last_of row.0; kind = listed row.1 }

abbrev row_names : Tree → List (List ℕ)
row_names rows = map (λ (r : ListRow). r.name) (map row_of rows)

abbrev pub listed_names : Tree → Names → List (List ℕ)
listed_names t p = map (λ r. r.name) (list_rows t p)

-- each item of the folder has a row
pub row_for : (t : Tree) (p : Names) (x : List ℕ) → is_some (item_at t (p ++ x ∷ [])) ≡ true → In x (listed_names t p)
row_for [] p x h = absurd (cc h)
row_for (row ∷ t) p x h =
    let rest = row_for t p x in
    elim (is_at (path_cmp (p ++ x ∷ [])) row.0) as (λ b. is_at (path_cmp (p ++ x ∷ [])) row.0 ≡ b → is_some (cond b (Some row.1) (item_at t (p ++ x ∷ []))) ≡ true → In x (listed_names (row ∷ t) p)) [
      | true ↦ λ hit h. here ((at_is (p ++ x ∷ []) row.0).0 hit)
      | false ↦ λ off h. elim (is_child p row.0) as (λ c. In x (row_names (cond c (row ∷ children t p) (children t p)))) [ true ↦ inr (rest h) | false ↦ rest h ]
    ] refl h
  where
    here : p ++ x ∷ [] ≡ row.0 → In x (listed_names (row ∷ t) p)
    here e =
        let child : is_child p row.0 ≡ true = subst (λ (q : Names). is_child p q ≡ true) e (child_path p x) in
        let called : last_of row.0 ≡ x = ap last_of (sym e) ∙ last_is p x in
        subst (λ c. In x (row_names (cond c (row ∷ children t p) (children t p)))) (sym child) (inl called)

-- the names of rows rise
less_names : (p : Names) (x y : List ℕ) → path_cmp (p ++ x ∷ []) (p ++ y ∷ []) ≡ Less → name_cmp x y ≡ Less
less_names p x y h = by_order (name_cmp x y) (sym (path_cmp-append p (x ∷ []) (y ∷ [])) ∙ h)
  where
    by_order : (o : Ordering) → ordering_then o Equal ≡ Less → o ≡ Less
    by_order Less e = refl
    by_order Equal e = e
    by_order Greater e = e

names_after : (p : Names) (x : List ℕ) (rows : Tree) → All (λ row. is_child p row.0 ≡ true) rows → AllByRecursion (λ q. path_cmp (p ++ x ∷ []) q ≡ Less) (keys_of rows) → AllByRecursion (λ y. name_cmp x y ≡ Less) (row_names rows)
names_after p x [] h g = tt
names_after p x (row ∷ rows) h g = (
  less_names p x (last_of row.0) (subst (λ (q : Names). path_cmp (p ++ x ∷ []) q ≡ Less) (child_is p row.0 (All-head (λ row. is_child p row.0 ≡ true) row rows h)) g.0),
  names_after p x rows (All-tail (λ row. is_child p row.0 ≡ true) row rows h) g.1,
)

rows_rise : (p : Names) (rows : Tree) → All (λ row. is_child p row.0 ≡ true) rows → InOrder rows → IsStrictlySortedBy name_cmp (row_names rows)
unfolding IsStrictlySortedBy
rows_rise p [] h g = tt
rows_rise p (row ∷ rows) h g = (
  names_after p (last_of row.0) rows (All-tail (λ row. is_child p row.0 ≡ true) row rows h) (subst (λ (q : Names). AllByRecursion (λ r. path_cmp q r ≡ Less) (keys_of rows)) (child_is p row.0 (All-head (λ row. is_child p row.0 ≡ true) row rows h)) g.0),
  rows_rise p rows (All-tail (λ row. is_child p row.0 ≡ true) row rows h) g.1,
)

pub listed_rise : (t : Tree) (p : Names) → InOrder t → IsStrictlySortedBy name_cmp (listed_names t p)
listed_rise t p h = rows_rise p (children t p) (filter_passes (λ (row : Names × Item). is_child p row.0) t) (in_order_filter (λ row. is_child p row.0) t h)

-- ---- what the rows tell

pub found_rows : (t : Tree) → InOrder t → All (λ row. item_at t row.0 ≡ Some row.1) t
found_rows t h i d below =
    let row : Names × Item = get_or t i d in
    lookup-from_Contains (eq_by_cmp_equiv path_total) row.0 row.1 t (IsDistinct-from_sorted path_cmp (keys_of t) h) (i, below, get_or_default t i row d below)

stands_as : (t : Tree) (q : Names) (e : Item) → item_at t q ≡ Some e → StandsAs t q (listed e)
stands_as t q (Folder a) h = ap is_some_folder h
stands_as t q (File a s x) h = (x, h, refl)
stands_as t q (Link a s x) h = h

pub rows_stand_in : RowsStandIn
rows_stand_in t p tree =
    All-map (λ row. StandsAs t (p ++ row.name ∷ []) row.kind) row_of (children t p) (λ i d below.
    let row : Names × Item = get_or (children t p) i d in
    let child : is_child p row.0 ≡ true = filter_passes (λ (row : Names × Item). is_child p row.0) t i d below in
    let found : item_at t row.0 ≡ Some row.1 = All-filter (λ (row : Names × Item). is_child p row.0) (λ row. item_at t row.0 ≡ Some row.1) t (found_rows t tree.in_order) i d below in
    subst (λ (q : Names). StandsAs t q (listed row.1)) (child_is p row.0 child) (stands_as t row.0 row.1 found))

pub lists_folder : ListsFolder
lists_folder t p l h = by_item (item_at t p) refl h
  where
    by_item : (o : Option Item) → item_at t p ≡ o → listing_of o (list_rows t p) ≡ Some l → (o ≡ Some (Folder l.attrs)) × (l.rows ≡ list_rows t p)
    by_item None e h = absurd (cc h)
    by_item (Some (Folder a)) e h = let is : ◌≡◌ {A = Listing} (record { attrs = a; rows = list_rows t p }) l = cc h in (ap (λ (x : Listing). Some (Folder x.attrs)) is, ap (λ (x : Listing). x.rows) (sym is))
    by_item (Some (File a s x)) e h = absurd (cc h)
    by_item (Some (Link a s x)) e h = absurd (cc h)

-- a file or link has no rows
pub no_rows : (t : Tree) (p : Names) → ((x : List ℕ) → item_at t (p ++ x ∷ []) ≡ None) → listed_names t p ≡ []
no_rows [] p h = refl
no_rows (row ∷ t) p h = by_child (is_child p row.0) refl (no_rows t p (λ x. (after x).1))
  where
    none_after : (b : Bool) (o : Option Item) → cond b (Some row.1) o ≡ None → (b ≡ false) × (o ≡ None)
    none_after true o e = absurd (cc e)
    none_after false o e = (refl, e)

    after : (x : List ℕ) → (is_at (path_cmp (p ++ x ∷ [])) row.0 ≡ false) × (item_at t (p ++ x ∷ []) ≡ None)
    after x = none_after (is_at (path_cmp (p ++ x ∷ [])) row.0) (item_at t (p ++ x ∷ [])) (h x)

    by_child : (b : Bool) → is_child p row.0 ≡ b → listed_names t p ≡ [] → row_names (cond b (row ∷ children t p) (children t p)) ≡ []
    by_child true e rest = let here : p ++ last_of row.0 ∷ [] ≡ row.0 = sym (child_is p row.0 e) in absurd (cc ((after (last_of row.0)).0, (at_is (p ++ last_of row.0 ∷ []) row.0).1 here))
    by_child false e rest = rest
