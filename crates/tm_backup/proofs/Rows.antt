-- Rows of listings, and the items that they are of.
use Rattle.std.proofs.Common.{zero, suc, ◌≡◌, ℕ, ◌+◌, ◌<◌, Bool, true, false, cond, not, ◌&&◌, ◌||◌, if◌then◌else◌, Option, Some, None, IfSome, List, [], ◌∷◌, ◌++◌, length, map, filter, take, drop, get_or, refl, sym, ap, ◌∙◌, subst, arith, append-nil, ⊎_elim, ◌⊎◌, inl, inr}
use Rattle.std.specs.BTreeMap.{is_at}
use Rattle.std.specs.List.{All}
use Rattle.std.proofs.lemmas.List.{take_more, get_or-map, get_or_default, length-map, map-append}
use Rattle.std.proofs.lemmas.List.Elements.{All-filter, All-head, All-tail, filter_passes, filter-append}
use Rattle.tm_base.specs.Paths.{Names, path_cmp, is_prefix, is_root, parent_of}
use Rattle.tm_base.proofs.PathLemmas.{prefix_is, is_prefix_of_append}
use Rattle.tm_tree.specs.declared.attrs.Attrs.{Attrs}
use Rattle.tm_tree.specs.declared.item.Item.{Item}
use Rattle.tm_tree.specs.declared.item.Item.TheVariants.{Folder, File, Link}
use Rattle.tm_tree.specs.declared.listing.ListRow.{ListRow}
use Rattle.tm_tree.specs.Listings.{listed, list_rows}
use Rattle.tm_tree.specs.Trees.{Tree, IsTree, item_at, last_of, is_child, children, is_some_folder, folder_at}
use Rattle.tm_tree.specs.Views.{hides, hidden_paths, is_hidden, view}
use Rattle.tm_tree.proofs.CopyProofs.{at_is, is_prefix_trans}
use Rattle.tm_tree.proofs.TreesKept.{parent_below, empty_is}
use Rattle.tm_tree.proofs.ViewsKept.{item_at-view}
use Rattle.tm_copy.proofs.Naming.{found_rows, child_is, parent_is, last_is, no_root}
use Rattle.tm_backup.specs.Shown.{is_out, shown_rows}

-- the row of an item that stands at a path
abbrev pub row_of : Names × Item → ListRow
row_of row = record { name = last_of row.0; kind = listed row.1 }

-- an entry of the folder at p
pub record IsEntry (t : Tree) (p : Names) (row : Names × Item) : Type 0 where
  pub found : item_at t row.0 ≡ Some row.1
  pub under : row.0 ≡ p ++ last_of row.0 ∷ []

pub are_entries : (t : Tree) (p : Names) → IsTree t → All (IsEntry t p) (children t p)
are_entries t p tree i d below = record {
  found = All-filter (λ (row : Names × Item). is_child p row.0) (λ row. item_at t row.0 ≡ Some row.1) t (found_rows t tree.in_order) i d below;
  under = let row : Names × Item = get_or (children t p) i d in child_is p row.0 (filter_passes (λ (row : Names × Item). is_child p row.0) t i d below);
}

-- the row at a place of a listing, and the item that it is of
pub record Here (t : Tree) (p : Names) (i : ℕ) (row : ListRow) : Type 0 where
  pub item : Item
  pub stands : item_at t (p ++ row.name ∷ []) ≡ Some item
  pub kind : listed item ≡ row.kind
  pub inside : i < length (children t p)
  pub child : get_or (children t p) i (p ++ row.name ∷ [], item) ≡ (p ++ row.name ∷ [], item)

pub row_here : (t : Tree) (p : Names) (i : ℕ) (row : ListRow) → IsTree t → i < length (list_rows t p) → row ≡ get_or (list_rows t p) i row → Here t p i row
row_here t p i row tree below is = by_entry (get_or (children t p) i d) refl entry
  where
    inside : i < length (children t p)
    inside = omega (arith, length-map (children t p) row_of, below)

    d : Names × Item
    d = (p ++ row.name ∷ [], Folder (record { mode = 0; uid = 0; gid = 0; modified = 0; extra = [] }))

    entry : IsEntry t p (get_or (children t p) i d)
    entry = are_entries t p tree i d inside

    by_entry : (child : Names × Item) → get_or (children t p) i d ≡ child → IsEntry t p child → Here t p i row
    by_entry child at entry =
        let same : row ≡ row_of child = is ∙ get_or-map row_of (children t p) i d row inside ∙ ap row_of at in
        let name : row.name ≡ last_of child.0 = ap (λ (r : ListRow). r.name) same in
        let path : child.0 ≡ p ++ row.name ∷ [] = entry.under ∙ ap (λ n. p ++ n ∷ []) (sym name) in
        let whole : ◌≡◌ {A = Names × Item} child (p ++ row.name ∷ [], child.1) = λ j. (path j, child.1) in
        record {
          item = child.1;
          stands = ap (item_at t) (sym path) ∙ entry.found;
          kind = ap (λ (r : ListRow). r.kind) (sym same);
          inside = inside;
          child = get_or_default (children t p) i (p ++ row.name ∷ [], child.1) d inside ∙ at ∙ whole;
        }

-- ---- rows that are shown

abbrev pub kept_rows : List Names → Tree → List ListRow
kept_rows fixed rows = map row_of (filter (λ row. not (is_out fixed row.0 row.1)) rows)

one_row : (fixed : List Names) (row : Names × Item) → kept_rows fixed (row ∷ []) ≡ (if is_out fixed row.0 row.1 then [] else row_of row ∷ [])
one_row fixed row = elim (is_out fixed row.0 row.1) as (λ b. map row_of (cond (not b) (row ∷ []) []) ≡ (if b then [] else row_of row ∷ [])) [ true ↦ refl | false ↦ refl ]

-- one row more, which is shown where its item isn't left out
pub shown_more : (fixed : List Names) (t : Tree) (p : Names) (i : ℕ) (row : ListRow) (out : Bool) → IsTree t → i < length (list_rows t p) → row ≡ get_or (list_rows t p) i row
    → IfSome (item_at t (p ++ row.name ∷ [])) (λ e. out ≡ is_out fixed (p ++ row.name ∷ []) e)
    → kept_rows fixed (take (i + 1) (children t p)) ≡ kept_rows fixed (take i (children t p)) ++ (if out then [] else row ∷ [])
shown_more fixed t p i row out tree below is tells =
    let h = row_here t p i row tree below is in
    let child : Names × Item = (p ++ row.name ∷ [], h.item) in
    let told : out ≡ is_out fixed (p ++ row.name ∷ []) h.item = subst (λ o. IfSome o (λ e. out ≡ is_out fixed (p ++ row.name ∷ []) e)) h.stands tells in
    let name : last_of (p ++ row.name ∷ []) ≡ row.name = last_is p row.name in
    let same : ◌≡◌ {A = ListRow} (row_of child) row = λ j. record { name = name j; kind = h.kind j } in
    ap (kept_rows fixed) (take_more (children t p) i child h.inside ∙ ap (λ (c : Names × Item). take i (children t p) ++ c ∷ []) h.child)
    ∙ ap (map row_of) (filter-append (λ row. not (is_out fixed row.0 row.1)) (take i (children t p)) (child ∷ []))
    ∙ map-append row_of (filter (λ row. not (is_out fixed row.0 row.1)) (take i (children t p))) (filter (λ row. not (is_out fixed row.0 row.1)) (child ∷ []))
    ∙ ap (λ (rows : List ListRow). kept_rows fixed (take i (children t p)) ++ rows) (one_row fixed child ∙ (λ j. if sym told j then [] else same j ∷ []))

-- ---- what is hidden

-- a path that leads to an entry leads to its folder, or is the entry's
above_entry : (over p : Names) (x : List ℕ) → is_prefix over (p ++ x ∷ []) ≡ true → (is_prefix over p ≡ true) ⊎ (over ≡ p ++ x ∷ [])
above_entry over p x on = by_rest (drop (length over) (p ++ x ∷ [])) (length (drop (length over) (p ++ x ∷ []))) refl (prefix_is over (p ++ x ∷ []) on)
  where
    by_rest : (rest : Names) (n : ℕ) → length rest ≡ n → p ++ x ∷ [] ≡ over ++ rest → (is_prefix over p ≡ true) ⊎ (over ≡ p ++ x ∷ [])
    by_rest rest zero l is = inr (sym (append-nil over) ∙ ap (λ r. over ++ r) (sym (empty_is rest l)) ∙ sym is)
    by_rest rest (suc n) l is =
        let folder : p ≡ over ++ parent_of rest = sym (parent_is p x) ∙ ap parent_of is ∙ parent_below over rest n l in
        inl (is_prefix_of_append over p (parent_of rest) folder)

-- something hidden leads to a hidden path
record Hiding (P : Names × Item → Type 0) (fixed : List Names) (q : Names) : Type 0 where
  row : Names × Item
  has : P row
  hides_it : hides fixed row.0 row.1 ≡ true
  over : is_prefix row.0 q ≡ true

hidden_by : (P : Names × Item → Type 0) (fixed : List Names) (t : Tree) (q : Names) → All P t → is_hidden (hidden_paths fixed t) q ≡ true → Hiding P fixed q
hidden_by P fixed [] q each h = absurd (cc h)
hidden_by P fixed (row ∷ t) q each h = by_hides (hides fixed row.0 row.1) refl (hidden_by P fixed t q (All-tail P row t each)) h
  where
    by_over : hides fixed row.0 row.1 ≡ true → (b : Bool) → is_prefix row.0 q ≡ b → (is_hidden (hidden_paths fixed t) q ≡ true → Hiding P fixed q) → (b || is_hidden (hidden_paths fixed t) q) ≡ true → Hiding P fixed q
    by_over hide true on rest h = record { row = row; has = All-head P row t each; hides_it = hide; over = on }
    by_over hide false off rest h = rest h

    by_hides : (b : Bool) → hides fixed row.0 row.1 ≡ b → (is_hidden (hidden_paths fixed t) q ≡ true → Hiding P fixed q)
        → is_hidden (map (λ (r : Names × Item). r.0) (cond b (row ∷ filter (λ r. hides fixed r.0 r.1) t) (filter (λ r. hides fixed r.0 r.1) t))) q ≡ true → Hiding P fixed q
    by_hides true hide rest h = by_over hide (is_prefix row.0 q) refl rest h
    by_hides false shown rest h = rest h

-- what is hidden itself is
hidden_here : (fixed : List Names) (t : Tree) (q : Names) (e : Item) → item_at t q ≡ Some e → hides fixed q e ≡ true → is_hidden (hidden_paths fixed t) q ≡ true
hidden_here fixed [] q e is hide = absurd (cc is)
hidden_here fixed (row ∷ t) q e is hide = by_at (is_at (path_cmp q) row.0) refl is (λ later. hidden_here fixed t q e later hide)
  where
    later : is_hidden (hidden_paths fixed t) q ≡ true → is_hidden (hidden_paths fixed (row ∷ t)) q ≡ true
    later h = elim (hides fixed row.0 row.1) as (λ b. is_hidden (map (λ (r : Names × Item). r.0) (cond b (row ∷ filter (λ r. hides fixed r.0 r.1) t) (filter (λ r. hides fixed r.0 r.1) t))) q ≡ true) [
      | true ↦ elim (is_prefix row.0 q) as (λ c. (c || is_hidden (hidden_paths fixed t) q) ≡ true) [ true ↦ refl | false ↦ h ]
      | false ↦ h
    ]

    here : q ≡ row.0 → row.1 ≡ e → is_hidden (hidden_paths fixed (row ∷ t)) q ≡ true
    here path item =
        let hide_row : hides fixed row.0 row.1 ≡ true = (λ j. hides fixed (sym path j) (item j)) ∙ hide in
        let on : is_prefix row.0 q ≡ true = is_prefix_of_append row.0 q [] (path ∙ sym (append-nil row.0)) in
        ap (λ b. is_hidden (map (λ (r : Names × Item). r.0) (cond b (row ∷ filter (λ r. hides fixed r.0 r.1) t) (filter (λ r. hides fixed r.0 r.1) t))) q) hide_row
        ∙ ap (λ b. b || is_hidden (hidden_paths fixed t) q) on

    by_at : (b : Bool) → is_at (path_cmp q) row.0 ≡ b → cond b (Some row.1) (item_at t q) ≡ Some e → (item_at t q ≡ Some e → is_hidden (hidden_paths fixed t) q ≡ true) → is_hidden (hidden_paths fixed (row ∷ t)) q ≡ true
    by_at true at is rest = let item : row.1 ≡ e = cc is in here ((at_is q row.0).0 at) item
    by_at false off is rest = later (rest is)

-- what is beneath something hidden is hidden
hidden_below : (hidden : List Names) (p q : Names) → is_prefix p q ≡ true → is_hidden hidden p ≡ true → is_hidden hidden q ≡ true
hidden_below [] p q under h = h
hidden_below (over ∷ hidden) p q under h = by_over (is_prefix over p) refl h (hidden_below hidden p q under)
  where
    by_over : (b : Bool) → is_prefix over p ≡ b → (b || is_hidden hidden p) ≡ true → (is_hidden hidden p ≡ true → is_hidden hidden q ≡ true) → (is_prefix over q || is_hidden hidden q) ≡ true
    by_over true on h rest = ap (λ b. b || is_hidden hidden q) (is_prefix_trans over p q on under)
    by_over false off h rest = elim (is_prefix over q) as (λ c. (c || is_hidden hidden q) ≡ true) [ true ↦ refl | false ↦ rest h ]

same_bool : (a b : Bool) → (a ≡ true → b ≡ true) → (b ≡ true → a ≡ true) → a ≡ b
same_bool true b f g = sym (f refl)
same_bool false true f g = g refl
same_bool false false f g = refl

-- of a folder that is shown an entry is hidden where it is left out
module _ (fixed : List Names) (t : Tree) (p : Names) (x : List ℕ) (e : Item) (tree : IsTree t) (shown : is_hidden (hidden_paths fixed t) p ≡ false) (is : item_at t (p ++ x ∷ []) ≡ Some e) where
  abbrev q : Names
  q = p ++ x ∷ []

  abbrev By : Type 0
  By = Hiding (λ row. item_at t row.0 ≡ Some row.1) fixed q

  hidden_above : (h : By) → is_prefix h.row.0 p ≡ true → is_hidden (hidden_paths fixed t) p ≡ true
  hidden_above h over = hidden_below (hidden_paths fixed t) h.row.0 p over (hidden_here fixed t h.row.0 h.row.1 h.has h.hides_it)

  by_same : (h : By) → h.row.0 ≡ q → is_out fixed q e ≡ true
  by_same h same =
      let both : Some h.row.1 ≡ Some e = sym h.has ∙ ap (item_at t) same ∙ is in
      let item : h.row.1 ≡ e = cc both in
      let hide : (not (is_root q) && is_out fixed q e) ≡ true = (λ j. hides fixed (sym same j) (sym item j)) ∙ h.hides_it in
      ap (λ b. not b && is_out fixed q e) (sym (no_root p x)) ∙ hide

  out_by : By → is_out fixed q e ≡ true
  out_by h = ⊎_elim
      (λ (over : is_prefix h.row.0 p ≡ true). absurd (let yes = hidden_above h over in cc (yes, shown)))
      (λ (same : h.row.0 ≡ q). by_same h same)
      (above_entry h.row.0 p x h.over)

  entry_hidden : is_hidden (hidden_paths fixed t) q ≡ is_out fixed q e
  entry_hidden =
      same_bool (is_hidden (hidden_paths fixed t) q) (is_out fixed q e)
      (λ h. out_by (hidden_by (λ row. item_at t row.0 ≡ Some row.1) fixed t q (found_rows t tree.in_order) h))
      (λ out. hidden_here fixed t q e is (ap (λ b. not b && is_out fixed q e) (no_root p x) ∙ out))

-- ---- the view's entries

filter_swap : {X : Type 0} (f g : X → Bool) (xs : List X) → filter f (filter g xs) ≡ filter g (filter f xs)
filter_swap f g [] = refl
filter_swap f g (x ∷ xs) = by_both (f x) (g x) refl refl (filter_swap f g xs)
  where
    by_both : (a b : Bool) → f x ≡ a → g x ≡ b → filter f (filter g xs) ≡ filter g (filter f xs) → filter f (cond (g x) (x ∷ filter g xs) (filter g xs)) ≡ filter g (cond (f x) (x ∷ filter f xs) (filter f xs))
    by_both a b e h rest =
        ap (λ c. filter f (cond c (x ∷ filter g xs) (filter g xs))) h
        ∙ elim b as (λ c. g x ≡ c → filter f (cond c (x ∷ filter g xs) (filter g xs)) ≡ filter g (cond (f x) (x ∷ filter f xs) (filter f xs))) [
          | true ↦ λ h. ap (λ c. cond c (x ∷ filter f (filter g xs)) (filter f (filter g xs))) e
              ∙ elim a as (λ c. cond c (x ∷ filter f (filter g xs)) (filter f (filter g xs)) ≡ filter g (cond c (x ∷ filter f xs) (filter f xs))) [
                | true ↦ ap (λ ys. x ∷ ys) rest ∙ sym (ap (λ c. cond c (x ∷ filter g (filter f xs)) (filter g (filter f xs))) h)
                | false ↦ rest
              ]
              ∙ ap (λ c. filter g (cond c (x ∷ filter f xs) (filter f xs))) (sym e)
          | false ↦ λ h. rest
              ∙ elim a as (λ c. filter g (filter f xs) ≡ filter g (cond c (x ∷ filter f xs) (filter f xs))) [
                | true ↦ sym (ap (λ c. cond c (x ∷ filter g (filter f xs)) (filter g (filter f xs))) h)
                | false ↦ refl
              ]
              ∙ ap (λ c. filter g (cond c (x ∷ filter f xs) (filter f xs))) (sym e)
        ] h

filter_same : {X : Type 0} (f g : X → Bool) (xs : List X) → All (λ x. f x ≡ g x) xs → filter f xs ≡ filter g xs
filter_same f g [] each = refl
filter_same f g (x ∷ xs) each =
    let rest = filter_same f g xs (All-tail (λ x. f x ≡ g x) x xs each) in
    let first = All-head (λ x. f x ≡ g x) x xs each in
    λ j. cond (first j) (x ∷ rest j) (rest j)

-- the entries that the view has in a folder that is shown are those that aren't left out
pub view_children : (fixed : List Names) (t : Tree) (p : Names) → IsTree t → is_hidden (hidden_paths fixed t) p ≡ false → children (view fixed t) p ≡ filter (λ row. not (is_out fixed row.0 row.1)) (children t p)
view_children fixed t p tree shown =
    filter_swap (λ (row : Names × Item). is_child p row.0) (λ (row : Names × Item). not (is_hidden (hidden_paths fixed t) row.0)) t
    ∙ filter_same (λ (row : Names × Item). not (is_hidden (hidden_paths fixed t) row.0)) (λ row. not (is_out fixed row.0 row.1)) (children t p) (λ i d below.
    let row : Names × Item = get_or (children t p) i d in
    let entry = are_entries t p tree i d below in
    ap not (ap (is_hidden (hidden_paths fixed t)) entry.under ∙ entry_hidden fixed t p (last_of row.0) row.1 tree shown (ap (item_at t) (sym entry.under) ∙ entry.found) ∙ ap (λ (q : Names). is_out fixed q row.1) (sym entry.under)))

pub view_rows : (fixed : List Names) (t : Tree) (p : Names) → IsTree t → is_hidden (hidden_paths fixed t) p ≡ false → list_rows (view fixed t) p ≡ shown_rows fixed t p
view_rows fixed t p tree shown = ap (map row_of) (view_children fixed t p tree shown)

-- a folder of the view is one of the tree, and shown
pub record InView (fixed : List Names) (t : Tree) (p : Names) : Type 0 where
  pub attrs : Attrs
  pub shown : is_hidden (hidden_paths fixed t) p ≡ false
  pub in_tree : item_at t p ≡ Some (Folder attrs)
  pub in_view : item_at (view fixed t) p ≡ Some (Folder attrs)

pub folder_shown : (fixed : List Names) (t : Tree) (p : Names) → folder_at (view fixed t) p ≡ true → InView fixed t p
folder_shown fixed t p folder = by_hidden (is_hidden (hidden_paths fixed t) p) refl (sym (ap is_some_folder (item_at-view fixed t p)) ∙ folder)
  where
    by_item : is_hidden (hidden_paths fixed t) p ≡ false → (o : Option Item) → item_at t p ≡ o → is_some_folder o ≡ true → InView fixed t p
    by_item shown None is f = absurd (cc f)
    by_item shown (Some (Folder a)) is f = record { attrs = a; shown = shown; in_tree = is; in_view = item_at-view fixed t p ∙ ap (λ b. cond (not b) (item_at t p) None) shown ∙ is }
    by_item shown (Some (File a s x)) is f = absurd (cc f)
    by_item shown (Some (Link a s x)) is f = absurd (cc f)

    by_hidden : (b : Bool) → is_hidden (hidden_paths fixed t) p ≡ b → is_some_folder (cond (not b) (item_at t p) None) ≡ true → InView fixed t p
    by_hidden true h f = absurd (cc f)
    by_hidden false h f = by_item h (item_at t p) refl f
