-- The folders of a tree in the order of a walk.
use Rattle.std.proofs.Common.{◌≡◌, ℕ, Bool, true, false, cond, ◌||◌, if◌then◌else◌, Option, Some, None, List, [], ◌∷◌, ◌++◌, length, map, filter, drop, refl, sym, ap, ◌∙◌, subst, append_assoc, append-nil}
use Rattle.std.specs.declared.cmp.Ordering.TheVariants.{Less, Equal, Greater}
use Rattle.std.specs.Ordering.{ordering_then}
use Rattle.std.specs.BTreeMap.{is_at}
use Rattle.std.specs.List.{All, flat_map, list_any, filter_map}
use Rattle.std.specs.List.Sorted.{IsStrictlySortedBy}
use Rattle.std.proofs.lemmas.List.Elements.{All-head, All-tail, filter-append}
use Rattle.tm_base.specs.Paths.{Names, path_cmp, name_cmp, is_prefix}
use Rattle.tm_base.proofs.PathLemmas.{prefix_is, is_prefix_of_append, path_cmp-append, ancestor_less}
use Rattle.tm_tree.specs.declared.attrs.Attrs.{Attrs}
use Rattle.tm_tree.specs.declared.item.Item.{Item}
use Rattle.tm_tree.specs.declared.item.Item.TheVariants.{Folder, File, Link}
use Rattle.tm_tree.specs.Items.{is_folder}
use Rattle.tm_tree.specs.Listings.{listed, list_rows}
use Rattle.tm_tree.specs.Trees.{Tree, IsTree, item_at, last_of, is_child, children, beneath, is_some_folder}
use Rattle.tm_tree.proofs.AtPaths.{trees_equal}
use Rattle.tm_tree.proofs.CopyProofs.{at_is}
use Rattle.tm_tree.proofs.Order.{InOrder, AllPaths, in_order_filter}
use Rattle.tm_tree.proofs.TreesKept.{nothing_beneath}
use Rattle.tm_graph.proofs.PlaceAt.{or_else, at-append}
use Rattle.tm_copy.proofs.Choices.{nothing_in}
use Rattle.tm_copy.proofs.Naming.{child_path}
use Rattle.tm_copy.proofs.Shared.{item_at-beneath, prefix_self}
use Rattle.tm_backup.specs.Growing.{folders_from}
use Rattle.tm_backup.specs.Laws.{FoldersInOrder}
use Rattle.tm_backup.specs.EntryPlans.{Head, is_folder_kind, row_head, folder_names}
use Rattle.tm_backup.specs.Walk.{folders}
use Rattle.tm_backup.proofs.Rows.{row_of, IsEntry, are_entries}

-- ---- rows in order, one list after another

below_append : (P : Names → Type 0) (xs ys : Tree) → AllPaths P xs → AllPaths P ys → AllPaths P (xs ++ ys)
below_append P [] ys h g = g
below_append P (x ∷ xs) ys h g = (h.0, below_append P xs ys h.1 g)

in_order_append : (xs ys : Tree) → InOrder xs → InOrder ys → AllPaths (λ p. AllPaths (λ q. path_cmp p q ≡ Less) ys) xs → InOrder (xs ++ ys)
unfolding IsStrictlySortedBy
in_order_append [] ys h g between = g
in_order_append (x ∷ xs) ys h g between = (below_append (λ q. path_cmp x.0 q ≡ Less) xs ys h.0 between.0, in_order_append xs ys h.1 g between.1)

pub all_of : (P : Names → Type 0) (f : Names × Item → Bool) (t : Tree) → ((row : Names × Item) → f row ≡ true → P row.0) → AllPaths P (filter f t)
all_of P f [] h = tt
all_of P f (row ∷ t) h = elim (f row) as (λ b. f row ≡ b → AllPaths P (cond b (row ∷ filter f t) (filter f t))) [ true ↦ λ e. (h row e, all_of P f t h) | false ↦ λ e. all_of P f t h ] refl

-- ---- what is beneath each of the entries

module _ (t : Tree) where
  abbrev blocks : Tree → Tree
  blocks rows = flat_map (λ c. beneath t c.0) rows

at_blocks : (t rows : Tree) (q : Names) → item_at (blocks t rows) q ≡ cond (list_any (λ (c : Names × Item). is_prefix c.0 q) rows) (item_at t q) None
at_blocks t [] q = refl
at_blocks t (c ∷ rows) q =
    at-append (beneath t c.0) (blocks t rows) q
    ∙ (λ i. or_else (item_at-beneath t c.0 q i) (at_blocks t rows q i))
    ∙ by_prefix (is_prefix c.0 q) (list_any (λ (c : Names × Item). is_prefix c.0 q) rows) (item_at t q)
  where
    or_same : (o : Option Item) (b : Bool) → or_else o (cond b o None) ≡ o
    or_same None true = refl
    or_same None false = refl
    or_same (Some e) b = refl

    by_prefix : (a b : Bool) (o : Option Item) → or_else (cond a o None) (cond b o None) ≡ cond (a || b) o None
    by_prefix true b o = or_same o b
    by_prefix false b o = refl

-- ---- the entries of a folder

module _ (p : Names) where
  -- an entry of that name
  abbrev IsChildRow : Names × Item → Type 0
  IsChildRow c = c.0 ≡ p ++ last_of c.0 ∷ []

  -- paths beneath one name are below those beneath a later one
  less_beneath : (x y : List ℕ) (r s : Names) → name_cmp x y ≡ Less → path_cmp (p ++ x ∷ r) (p ++ y ∷ s) ≡ Less
  less_beneath x y r s h = path_cmp-append p (x ∷ r) (y ∷ s) ∙ ap (λ o. ordering_then o (path_cmp r s)) h

  names_less : (x y : List ℕ) → path_cmp (p ++ x ∷ []) (p ++ y ∷ []) ≡ Less → name_cmp x y ≡ Less
  names_less x y h = by_order (name_cmp x y) (sym (path_cmp-append p (x ∷ []) (y ∷ [])) ∙ h)
    where
      by_order : (o : _) → ordering_then o Equal ≡ Less → o ≡ Less
      by_order Less e = refl
      by_order Equal e = e
      by_order Greater e = e

  beneath_path : (x : List ℕ) (q : Names) → is_prefix (p ++ x ∷ []) q ≡ true → (r : Names) × (q ≡ p ++ x ∷ r)
  beneath_path x q on = let rest = drop (length (p ++ x ∷ [])) q in (rest, prefix_is (p ++ x ∷ []) q on ∙ append_assoc p (x ∷ []) rest)

  module _ (t : Tree) where
    -- all beneath later entries is above
    above_all : (x : List ℕ) (r : Names) (rows : Tree) → All IsChildRow rows → AllPaths (λ q. path_cmp (p ++ x ∷ []) q ≡ Less) rows → AllPaths (λ q. path_cmp (p ++ x ∷ r) q ≡ Less) (blocks t rows)
    above_all x r [] each h = tt
    above_all x r (c ∷ rows) each h =
        let named = All-head IsChildRow c rows each in
        let less : name_cmp x (last_of c.0) ≡ Less = names_less x (last_of c.0) (subst (λ (q : Names). path_cmp (p ++ x ∷ []) q ≡ Less) named h.0) in
        below_append (λ q. path_cmp (p ++ x ∷ r) q ≡ Less) (beneath t c.0) (blocks t rows)
        (all_of (λ q. path_cmp (p ++ x ∷ r) q ≡ Less) (λ row. is_prefix c.0 row.0) t (λ row on.
        let b = beneath_path (last_of c.0) row.0 (subst (λ (q : Names). is_prefix q row.0 ≡ true) named on) in
        subst (λ (q : Names). path_cmp (p ++ x ∷ r) q ≡ Less) (sym b.1) (less_beneath x (last_of c.0) r b.0 less)))
        (above_all x r rows (All-tail IsChildRow c rows each) h.1)

    blocks_in_order : (rows : Tree) → InOrder t → All IsChildRow rows → InOrder rows → InOrder (blocks t rows)
    unfolding IsStrictlySortedBy
    blocks_in_order [] order each h = tt
    blocks_in_order (c ∷ rows) order each h =
        let named = All-head IsChildRow c rows each in
        let rest = All-tail IsChildRow c rows each in
        in_order_append (beneath t c.0) (blocks t rows) (in_order_filter (λ row. is_prefix c.0 row.0) t order) (blocks_in_order rows order rest h.1)
        (all_of (λ a. AllPaths (λ q. path_cmp a q ≡ Less) (blocks t rows)) (λ row. is_prefix c.0 row.0) t (λ row on.
        let b = beneath_path (last_of c.0) row.0 (subst (λ (q : Names). is_prefix q row.0 ≡ true) named on) in
        subst (λ (a : Names). AllPaths (λ q. path_cmp a q ≡ Less) (blocks t rows)) (sym b.1)
        (above_all (last_of c.0) b.0 rows rest (subst (λ (a : Names). AllPaths (λ q. path_cmp a q ≡ Less) rows) named h.0))))

    -- the folder's own path is below all of them
    own_below : (rows : Tree) → All IsChildRow rows → AllPaths (λ q. path_cmp p q ≡ Less) (blocks t rows)
    own_below [] each = tt
    own_below (c ∷ rows) each =
        let named = All-head IsChildRow c rows each in
        below_append (λ q. path_cmp p q ≡ Less) (beneath t c.0) (blocks t rows)
        (all_of (λ q. path_cmp p q ≡ Less) (λ row. is_prefix c.0 row.0) t (λ row on.
        let b = beneath_path (last_of c.0) row.0 (subst (λ (q : Names). is_prefix q row.0 ≡ true) named on) in
        subst (λ (q : Names). path_cmp p q ≡ Less) (sym b.1) (ancestor_less p (last_of c.0) b.0)))
        (own_below rows (All-tail IsChildRow c rows each))

    -- an entry that leads to q is one of them
    child_above : (u : Tree) (x : List ℕ) (e : Item) (q : Names) → item_at u (p ++ x ∷ []) ≡ Some e → is_prefix (p ++ x ∷ []) q ≡ true → list_any (λ (c : Names × Item). is_prefix c.0 q) (children u p) ≡ true
    child_above [] x e q is on = absurd (cc is)
    child_above (row ∷ u) x e q is on = by_at (is_at (path_cmp (p ++ x ∷ [])) row.0) refl is (λ f. child_above u x e q f on)
      where
        later : list_any (λ (c : Names × Item). is_prefix c.0 q) (children u p) ≡ true → list_any (λ (c : Names × Item). is_prefix c.0 q) (children (row ∷ u) p) ≡ true
        later h = elim (is_child p row.0) as (λ b. list_any (λ (c : Names × Item). is_prefix c.0 q) (cond b (row ∷ children u p) (children u p)) ≡ true) [
          | true ↦ elim (is_prefix row.0 q) as (λ b. (b || list_any (λ (c : Names × Item). is_prefix c.0 q) (children u p)) ≡ true) [ true ↦ refl | false ↦ h ]
          | false ↦ h
        ]

        here : p ++ x ∷ [] ≡ row.0 → list_any (λ (c : Names × Item). is_prefix c.0 q) (children (row ∷ u) p) ≡ true
        here same =
            let child : is_child p row.0 ≡ true = subst (λ (a : Names). is_child p a ≡ true) same (child_path p x) in
            let over : is_prefix row.0 q ≡ true = subst (λ (a : Names). is_prefix a q ≡ true) same on in
            ap (λ b. list_any (λ (c : Names × Item). is_prefix c.0 q) (cond b (row ∷ children u p) (children u p))) child
            ∙ ap (λ b. b || list_any (λ (c : Names × Item). is_prefix c.0 q) (children u p)) over

        by_at : (b : Bool) → is_at (path_cmp (p ++ x ∷ [])) row.0 ≡ b → cond b (Some row.1) (item_at u (p ++ x ∷ [])) ≡ Some e
            → (item_at u (p ++ x ∷ []) ≡ Some e → list_any (λ (c : Names × Item). is_prefix c.0 q) (children u p) ≡ true) → list_any (λ (c : Names × Item). is_prefix c.0 q) (children (row ∷ u) p) ≡ true
        by_at true at is rest = here ((at_is (p ++ x ∷ []) row.0).0 at)
        by_at false off is rest = later (rest is)

    -- what leads to q lies beneath p
    any_beneath : (rows : Tree) (q : Names) → All IsChildRow rows → list_any (λ (c : Names × Item). is_prefix c.0 q) rows ≡ true → (x : List ℕ) × (r : Names) × (q ≡ p ++ x ∷ r)
    any_beneath [] q each h = absurd (cc h)
    any_beneath (c ∷ rows) q each h = by_prefix (is_prefix c.0 q) refl h (any_beneath rows q (All-tail IsChildRow c rows each))
      where
        by_prefix : (b : Bool) → is_prefix c.0 q ≡ b → (b || list_any (λ (c : Names × Item). is_prefix c.0 q) rows) ≡ true → (list_any (λ (c : Names × Item). is_prefix c.0 q) rows ≡ true → (x : List ℕ) × (r : Names) × (q ≡ p ++ x ∷ r))
            → (x : List ℕ) × (r : Names) × (q ≡ p ++ x ∷ r)
        by_prefix true on h rest =
            let b = beneath_path (last_of c.0) q (subst (λ (a : Names). is_prefix a q ≡ true) (All-head IsChildRow c rows each) on) in
            (last_of c.0, b.0, b.1)
        by_prefix false off h rest = rest h

-- ---- all beneath a path

named_children : (t : Tree) (p : Names) → IsTree t → All (IsChildRow p) (children t p)
named_children t p tree i d below = (are_entries t p tree i d below).under

module _ (t : Tree) (p : Names) (e : Item) (tree : IsTree t) (is : item_at t p ≡ Some e) where
  abbrev over : Names → Bool
  over q = list_any (λ (c : Names × Item). is_prefix c.0 q) (children t p)

  -- beneath p and not at it
  beneath_is : (x : List ℕ) (r : Names) → cond (over (p ++ x ∷ r)) (item_at t (p ++ x ∷ r)) None ≡ item_at t (p ++ x ∷ r)
  beneath_is x r = by_item (item_at t (p ++ x ∷ [])) refl
    where
      on : is_prefix (p ++ x ∷ []) (p ++ x ∷ r) ≡ true
      on = is_prefix_of_append (p ++ x ∷ []) (p ++ x ∷ r) r (sym (append_assoc p (x ∷ []) r))

      none_both : (b : Bool) (o : Option Item) → o ≡ None → cond b o None ≡ o
      none_both true o h = refl
      none_both false o h = sym h

      by_item : (o : Option Item) → item_at t (p ++ x ∷ []) ≡ o → cond (over (p ++ x ∷ r)) (item_at t (p ++ x ∷ r)) None ≡ item_at t (p ++ x ∷ r)
      by_item None none = none_both (over (p ++ x ∷ r)) (item_at t (p ++ x ∷ r)) (nothing_beneath t (p ++ x ∷ []) (p ++ x ∷ r) tree none on)
      by_item (Some d) there = ap (λ b. cond b (item_at t (p ++ x ∷ r)) None) (child_above p t t x d (p ++ x ∷ r) there on)

  at_each : (q : Names) → item_at (beneath t p) q ≡ cond (is_at (path_cmp q) p) (Some e) (item_at (blocks t (children t p)) q)
  at_each q = item_at-beneath t p q ∙ by_at (is_at (path_cmp q) p) refl ∙ ap (λ o. cond (is_at (path_cmp q) p) (Some e) o) (sym (at_blocks t (children t p) q))
    where
      by_rest : (rest : Names) → is_at (path_cmp q) p ≡ false → q ≡ p ++ rest → item_at t q ≡ cond (over q) (item_at t q) None
      by_rest [] off same = absurd (let yes = (at_is q p).1 (same ∙ append-nil p) in cc (yes, off))
      by_rest (x ∷ r) off same = subst (λ (a : Names). item_at t a ≡ cond (over a) (item_at t a) None) (sym same) (sym (beneath_is x r))

      none_above : is_prefix p q ≡ false → (b : Bool) → over q ≡ b → None ≡ cond b (item_at t q) None
      none_above out true any =
          let b = any_beneath p t (children t p) q (named_children t p tree) any in
          let yes : is_prefix p q ≡ true = is_prefix_of_append p q (b.0 ∷ b.1) b.2 in
          absurd (cc (yes, out))
      none_above out false any = refl

      by_prefix : is_at (path_cmp q) p ≡ false → (b : Bool) → is_prefix p q ≡ b → cond b (item_at t q) None ≡ cond (over q) (item_at t q) None
      by_prefix off true on = by_rest (drop (length p) q) off (prefix_is p q on)
      by_prefix off false out = none_above out (over q) refl

      by_at : (b : Bool) → is_at (path_cmp q) p ≡ b → cond (is_prefix p q) (item_at t q) None ≡ cond b (Some e) (cond (over q) (item_at t q) None)
      by_at true at =
          let same : q ≡ p = (at_is q p).0 at in
          let on : is_prefix p q ≡ true = subst (λ (a : Names). is_prefix p a ≡ true) (sym same) (prefix_self p) in
          ap (λ b. cond b (item_at t q) None) on ∙ ap (item_at t) same ∙ is
      by_at false off = by_prefix off (is_prefix p q) refl

  whole_order : InOrder ((p, e) ∷ blocks t (children t p))
  unfolding IsStrictlySortedBy
  whole_order = (
    own_below p t (children t p) (named_children t p tree),
    blocks_in_order p t (children t p) tree.in_order (named_children t p tree) (in_order_filter (λ (row : Names × Item). is_child p row.0) t tree.in_order),
  )

  -- what is at p and beneath it is the item there, and then what is at and beneath each entry
  pub decompose : beneath t p ≡ (p, e) ∷ blocks t (children t p)
  decompose = trees_equal (beneath t p) ((p, e) ∷ blocks t (children t p)) (in_order_filter (λ row. is_prefix p row.0) t tree.in_order) whole_order at_each

-- ---- the folders among them

keys_append : (xs ys : Tree) → map (λ (row : Names × Item). row.0) (xs ++ ys) ≡ map (λ (row : Names × Item). row.0) xs ++ map (λ (row : Names × Item). row.0) ys
keys_append [] ys = refl
keys_append (x ∷ xs) ys = ap (λ (ps : List Names). x.0 ∷ ps) (keys_append xs ys)

folders_append : (xs ys : Tree) → folders (xs ++ ys) ≡ folders xs ++ folders ys
folders_append xs ys = ap (map (λ (row : Names × Item). row.0)) (filter-append (λ (row : Names × Item). is_folder row.1) xs ys) ∙ keys_append (filter (λ row. is_folder row.1) xs) (filter (λ row. is_folder row.1) ys)

folders_blocks : (t rows : Tree) → folders (blocks t rows) ≡ flat_map (λ (c : Names × Item). folders_from t c.0) rows
folders_blocks t [] = refl
folders_blocks t (c ∷ rows) = folders_append (beneath t c.0) (blocks t rows) ∙ ap (λ (ps : List Names). folders_from t c.0 ++ ps) (folders_blocks t rows)

-- in a file or link there are none
no_children : (t : Tree) (p : Names) (e : Item) → IsTree t → item_at t p ≡ Some e → is_folder e ≡ false → children t p ≡ []
no_children t p e tree is leaf = by_rows (children t p) (are_entries t p tree)
  where
    by_rows : (rows : Tree) → All (IsEntry t p) rows → rows ≡ []
    by_rows [] each = refl
    by_rows (c ∷ rows) each =
        let entry = All-head (IsEntry t p) c rows each in
        let none = nothing_in t p e (last_of c.0) tree is leaf in
        absurd (let some = ap (item_at t) (sym entry.under) ∙ entry.found in cc (none, some))

leaf_folders : (t : Tree) (p : Names) (e : Item) → IsTree t → item_at t p ≡ Some e → is_folder e ≡ false → folders_from t p ≡ []
leaf_folders t p e tree is leaf =
    ap folders (decompose t p e tree is ∙ ap (λ (rows : Tree). (p, e) ∷ blocks t rows) (no_children t p e tree is leaf))
    ∙ ap (λ (b : Bool). map (λ (row : Names × Item). row.0) (cond b ((p, e) ∷ []) [])) leaf

kind_folder : (e : Item) → is_folder_kind (listed e) ≡ is_folder e
kind_folder (Folder a) = refl
kind_folder (File a s x) = refl
kind_folder (Link a s x) = refl

by_names : (t : Tree) (p : Names) (rows : Tree) → IsTree t → All (IsEntry t p) rows
    → flat_map (λ (c : Names × Item). folders_from t c.0) rows ≡ flat_map (λ name. folders_from t (p ++ name ∷ [])) (folder_names (map row_head (map row_of rows)))
by_names t p [] tree each = refl
by_names t p (c ∷ rows) tree each =
    let entry = All-head (IsEntry t p) c rows each in
    by_folder (is_folder c.1) refl entry (by_names t p rows tree (All-tail (IsEntry t p) c rows each))
  where
    first : (b : Bool) → is_folder c.1 ≡ b → folder_names (map row_head (map row_of (c ∷ rows))) ≡ (if b then last_of c.0 ∷ folder_names (map row_head (map row_of rows)) else folder_names (map row_head (map row_of rows)))
    first true is = ap (λ (b : Bool). filter_map (λ (h : Head). if h.1 then Some h.0 else None) ((last_of c.0, b) ∷ map row_head (map row_of rows))) (kind_folder c.1 ∙ is)
    first false is = ap (λ (b : Bool). filter_map (λ (h : Head). if h.1 then Some h.0 else None) ((last_of c.0, b) ∷ map row_head (map row_of rows))) (kind_folder c.1 ∙ is)

    by_folder : (b : Bool) → is_folder c.1 ≡ b → IsEntry t p c → flat_map (λ (c : Names × Item). folders_from t c.0) rows ≡ flat_map (λ name. folders_from t (p ++ name ∷ [])) (folder_names (map row_head (map row_of rows)))
        → folders_from t c.0 ++ flat_map (λ (c : Names × Item). folders_from t c.0) rows ≡ flat_map (λ name. folders_from t (p ++ name ∷ [])) (folder_names (map row_head (map row_of (c ∷ rows))))
    by_folder true is entry rest = (λ i. folders_from t (entry.under i) ++ rest i) ∙ ap (flat_map (λ name. folders_from t (p ++ name ∷ []))) (sym (first true is))
    by_folder false is entry rest = ap (λ (ps : List Names). ps ++ flat_map (λ (c : Names × Item). folders_from t c.0) rows) (leaf_folders t c.0 c.1 tree entry.found is) ∙ rest ∙ ap (flat_map (λ name. folders_from t (p ++ name ∷ []))) (sym (first false is))

pub folders_in_order : FoldersInOrder
folders_in_order t p tree folder = by_item (item_at t p) refl folder
  where
    from : (a : Attrs) → item_at t p ≡ Some (Folder a) → folders_from t p ≡ p ∷ flat_map (λ name. folders_from t (p ++ name ∷ [])) (folder_names (map row_head (list_rows t p)))
    from a is =
        ap folders (decompose t p (Folder a) tree is)
        ∙ ap (λ (ps : List Names). p ∷ ps) (folders_blocks t (children t p) ∙ by_names t p (children t p) tree (are_entries t p tree))

    by_item : (o : Option Item) → item_at t p ≡ o → is_some_folder o ≡ true → folders_from t p ≡ p ∷ flat_map (λ name. folders_from t (p ++ name ∷ [])) (folder_names (map row_head (list_rows t p)))
    by_item None is f = absurd (cc f)
    by_item (Some (Folder a)) is f = from a is
    by_item (Some (File a s x)) is f = absurd (cc f)
    by_item (Some (Link a s x)) is f = absurd (cc f)

-- from the root all are
pub folders_all : (t : Tree) → folders_from t [] ≡ folders t
folders_all t = ap folders (all t)
  where
    all : (t : Tree) → beneath t [] ≡ t
    all [] = refl
    all (row ∷ t) = ap (λ (u : Tree). row ∷ u) (all t)
