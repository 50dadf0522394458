-- A folder's entries in the index are its children in the tree.
use Rattle.std.proofs.Common.{◌≡◌, ℕ, ◌-◌, Bool, true, false, not, ◌&&◌, cond, List, [], ◌∷◌, ◌++◌, length, take, refl, sym, ap, ◌∙◌, subst, Option, Some, None, is_some, arith, length-append, inl, inr}
use Rattle.std.proofs.Math.Seq.{take-append_seam}
use Rattle.std.proofs.lemmas.Bool.Decides.{nat_tests}
use Rattle.std.proofs.lemmas.Map.Entries.{lookup-filter-keys}
use Rattle.std.specs.declared.cmp.Ordering.{Ordering}
use Rattle.std.specs.declared.cmp.Ordering.TheVariants.{Less, Equal}
use Rattle.std.specs.Ordering.{ordering_then, is_eq}
use Rattle.std.specs.Bool.{Decides}
use Rattle.std.specs.Cmp.{Equal-is, tied_itself}
use Rattle.std.specs.Cmp.Lexicographic.{nat_list_cmp_total}
use Rattle.std.specs.FinMap.{nat_cmp-IsAntisymmetric, slice_cmp-IsAntisymmetric}
use Rattle.std.specs.List.{AllByRecursion}
use Rattle.std.specs.List.Sorted.{IsStrictlySortedBy}
use Rattle.std.specs.Map.{keys_of, lookup}
use Rattle.std.specs.BTreeMap.{is_at}
use Rattle.tm_base.proofs.Facts.{false_true}
use Rattle.tm_base.specs.Paths.{Names, name_cmp, path_cmp, same_path, is_root, parent_of}
use Rattle.tm_base.proofs.PathLemmas.{path_cmp-append, same_path_decides}
use Rattle.tm_tree.specs.declared.item.Item.{Item}
use Rattle.tm_tree.specs.Trees.{Tree, item_at, is_child, children}
use Rattle.tm_tree.proofs.AtPaths.{trees_equal}
use Rattle.tm_tree.proofs.CopyProofs.{at_is}
use Rattle.tm_tree.proofs.Order.{InOrder, AllPaths, in_order_filter}
use Rattle.tm_items.specs.Placings.{Items, IsChild, Walks}
use Rattle.tm_items.specs.Listing.{rows_in, ListsChildren}
use Rattle.tm_items.specs.Places.{at_name}
use Rattle.tm_items.proofs.Walking.{walks_on, one_number, one_each, one_path}
use Rattle.tm_items.proofs.Reading.{Among, chosen, some_of, last_step}

-- ---- names

name_decides : (a b : List ℕ) → Decides (is_at (name_cmp a) b) (a ≡ b)
name_decides a b = (
  λ h. slice_cmp-IsAntisymmetric nat_cmp-IsAntisymmetric a b ((Equal-is (name_cmp a b)).0 h),
  λ e. subst (λ (x : List ℕ). is_eq (name_cmp a x) ≡ true) e (ap is_eq (tied_itself nat_list_cmp_total a)),
)

less_off : (a b : List ℕ) → name_cmp b a ≡ Less → is_at (name_cmp a) b ≡ false
less_off a b low =
    elim (is_at (name_cmp a) b) as (λ x. is_at (name_cmp a) b ≡ x → x ≡ false) [
      | true ↦ λ here.
          let same : a ≡ b = (name_decides a b).0 here in
          let tied : is_eq (name_cmp b a) ≡ true = (name_decides b a).1 (sym same) in
          false_true (ap is_eq (sym low) ∙ tied)
      | false ↦ λ _. refl
    ] refl

abbrev Entries : Type 0
Entries = List (List ℕ × ℕ)

below_each : (P : List ℕ → Type 0) (es : Entries) (name : List ℕ) (n : ℕ) → AllByRecursion P (keys_of es) → Among es name n → P name
below_each P [] name n h a = absurd a
below_each P (e ∷ es) name n h (inl hit) = subst P hit.0 h.0
below_each P (e ∷ es) name n h (inr a) = below_each P es name n h.1 a

-- what is among entries in order is what they have at its name
pub found_at : (es : Entries) (name : List ℕ) (n : ℕ) → IsStrictlySortedBy name_cmp (keys_of es) → Among es name n → lookup (is_at (name_cmp name)) es ≡ Some n
unfolding IsStrictlySortedBy
found_at [] name n h a = absurd a
found_at (e ∷ es) name n h (inl hit) = rw ((name_decides name e.0).1 (sym hit.0)) (ap Some hit.1)
found_at (e ∷ es) name n h (inr a) = rw (less_off name e.0 (below_each (λ q. name_cmp e.0 q ≡ Less) es name n h.0 a)) (found_at es name n h.1 a)

-- ---- the rows of entries

then_less : (o : Ordering) → o ≡ Less → ordering_then o Equal ≡ Less
then_less o e = rw e refl

module _ (items : Items) (p : Names) (k : ℕ) where
  -- each entry is one of the folder k
  abbrev Kids : Entries → Type 0
  Kids es = (name : List ℕ) (n : ℕ) → Among es name n → IsChild items k name n

  first : (e : List ℕ × ℕ) (es : Entries) → Kids (e ∷ es) → IsChild items k e.0 e.1
  first e es kids = kids e.0 e.1 (inl (refl, refl))

  abbrev path : List ℕ → Names
  path name = p ++ name ∷ []

  rows_are : (e : List ℕ × ℕ) (es : Entries) (c : IsChild items k e.0 e.1) → rows_in items p (e ∷ es) ≡ (path e.0, c.placed.item) ∷ rows_in items p es
  rows_are e es c = rw c.is refl

  rises : (a b : List ℕ) → name_cmp a b ≡ Less → path_cmp (path a) (path b) ≡ Less
  rises a b h = path_cmp-append p (a ∷ []) (b ∷ []) ∙ then_less (name_cmp a b) h

  above_rows : (a : List ℕ) (es : Entries) → Kids es → AllByRecursion (λ q. name_cmp a q ≡ Less) (keys_of es) → AllPaths (λ r. path_cmp (path a) r ≡ Less) (rows_in items p es)
  above_rows a [] kids h = tt
  above_rows a (e ∷ es) kids h =
      subst (λ (t : Tree). AllPaths (λ r. path_cmp (path a) r ≡ Less) t) (sym (rows_are e es (first e es kids)))
      (rises a e.0 h.0, above_rows a es (λ q n a. kids q n (inr a)) h.1)

  in_order_rows : (es : Entries) → Kids es → IsStrictlySortedBy name_cmp (keys_of es) → InOrder (rows_in items p es)
  unfolding IsStrictlySortedBy
  in_order_rows [] kids h = tt
  in_order_rows (e ∷ es) kids h =
      let later : Kids es = λ q n a. kids q n (inr a) in
      subst (λ (t : Tree). InOrder t) (sym (rows_are e es (first e es kids))) (above_rows e.0 es later h.0, in_order_rows es later h.1)

  -- what stands in the rows at r
  record Row (r : Names) (x : Item) : Type 0 where
    number : ℕ
    called : List ℕ
    is : path called ≡ r
    child : IsChild items k called number
    item : child.placed.item ≡ x

  row_at : (es : Entries) → Kids es → (r : Names) (x : Item) → item_at (rows_in items p es) r ≡ Some x → Row r x
  row_at [] kids r x h = nothing h
    where
      nothing : {P : Type 0} {e : Item} → None ≡ Some e → P
      nothing h = cc
  row_at (e ∷ es) kids r x h =
      let c = first e es kids in
      elim (chosen (is_at (path_cmp r) (path e.0)) c.placed.item x (item_at (rows_in items p es) r) (ap (λ (t : Tree). item_at t r) (sym (rows_are e es c)) ∙ h)) [
        | inl hit ↦ record { number = e.1; called = e.0; is = sym ((at_is r (path e.0)).0 hit.0); child = c; item = hit.1 }
        | inr past ↦ row_at es (λ q n a. kids q n (inr a)) r x past.1
      ]

  still_some : (b : Bool) (e : Item) (o : Option Item) → (b ≡ false → is_some o ≡ true) → is_some (cond b (Some e) o) ≡ true
  still_some true e o h = refl
  still_some false e o h = h refl

  -- the rows have what the entries have
  has_row : (es : Entries) → Kids es → (name : List ℕ) (n : ℕ) → lookup (is_at (name_cmp name)) es ≡ Some n → is_some (item_at (rows_in items p es) (path name)) ≡ true
  has_row [] kids name n h = cc
  has_row (e ∷ es) kids name n h =
      let c = first e es kids in
      ap (λ (t : Tree). is_some (item_at t (path name))) (rows_are e es c)
      ∙ still_some (is_at (path_cmp (path name)) (path e.0)) c.placed.item (item_at (rows_in items p es) (path name)) (λ off.
      elim (chosen (is_at (name_cmp name) e.0) e.1 n (lookup (is_at (name_cmp name)) es) h) [
        | inl hit ↦ false_true (sym off ∙ (at_is (path name) (path e.0)).1 (ap path ((name_decides name e.0).0 hit.0)))
        | inr past ↦ has_row es (λ q n a. kids q n (inr a)) name n past.1
      ])

-- ---- the children of a folder

parent_of_path : (p : Names) (name : List ℕ) → parent_of (p ++ name ∷ []) ≡ p
parent_of_path p name =
    let long : length (p ++ name ∷ []) - 1 ≡ length p = omega (arith, length-append p (name ∷ [])) in
    ap (λ (n : ℕ). take n (p ++ name ∷ [])) long ∙ take-append_seam p (name ∷ [])

child_path : (p : Names) (name : List ℕ) → is_child p (p ++ name ∷ []) ≡ true
child_path p name =
    let below : is_root (p ++ name ∷ []) ≡ false = grind (arith, nat_tests, length-append p (name ∷ [])) in
    rw below ((same_path_decides (parent_of (p ++ name ∷ [])) p).1 (parent_of_path p name))

child_of : (p r : Names) → is_child p r ≡ true → (is_root r ≡ false) × (parent_of r ≡ p)
child_of p r h =
    elim (is_root r) as (λ b. is_root r ≡ b → (not b && same_path (parent_of r) p) ≡ true → (is_root r ≡ false) × (parent_of r ≡ p)) [
      | true ↦ λ _ h. false_true h
      | false ↦ λ below h. (below, (same_path_decides (parent_of r) p).0 h)
    ] refl h

children_at : (t : Tree) (p r : Names) → item_at (children t p) r ≡ cond (is_child p r) (item_at t r) None
children_at t p r = lookup-filter-keys (is_at (path_cmp r)) (is_child p) (is_child p r) (λ q hit. ap (is_child p) (sym ((at_is r q).0 hit))) t

kept : (b : Bool) (o : Option Item) → is_some (cond b o None) ≡ true → (b ≡ true) × (is_some o ≡ true)
kept true o h = (refl, h)
kept false o h = false_true h

same_answers : (o r : Option Item) → ((e : Item) → o ≡ Some e → r ≡ Some e) → (is_some r ≡ true → is_some o ≡ true) → o ≡ r
same_answers None None h g = refl
same_answers None (Some e) h g = false_true (g refl)
same_answers (Some e) r h g = sym (h e refl)

pub lists_children : ListsChildren
lists_children items t numbers es k p are index entries walks =
    let kids : Kids items p k es = λ name n a. index.told (at_name k name) n (sym (entries.are name) ∙ found_at es name n entries.in_order a) in
    trees_equal (rows_in items p es) (children t p) (in_order_rows items p k es kids entries.in_order) (in_order_filter (λ row. is_child p row.0) t are.reads.in_order)
    (λ r. same_answers (item_at (rows_in items p es) r) (item_at (children t p) r) (λ e is. to_child r e (row_at items p k es kids r e is)) (λ there. to_row r kids there))
  where
    to_child : (r : Names) (e : Item) → Row items p k r e → item_at (children t p) r ≡ Some e
    to_child r e row =
        let w = walks_on items 1 k row.number p (row.called ∷ []) walks (row.number, row.child, refl) in
        let at = are.reads.there (p ++ row.called ∷ []) e (record { number = row.number; walks = w; placed = row.child.placed; is = row.child.is; item = row.item }) in
        subst (λ (q : Names). item_at (children t p) q ≡ Some e) row.is (children_at t p (p ++ row.called ∷ []) ∙ ap (λ b. cond b (item_at t (p ++ row.called ∷ [])) None) (child_path p row.called) ∙ at)

    to_row : (r : Names) → Kids items p k es → is_some (item_at (children t p) r) ≡ true → is_some (item_at (rows_in items p es) r) ≡ true
    to_row r kids there =
        let both = kept (is_child p r) (item_at t r) (ap is_some (sym (children_at t p r)) ∙ there) in
        let child = child_of p r both.0 in
        let e = some_of (item_at t r) both.1 in
        let s = are.reads.only r e.0 e.1 in
        let l = last_step items 1 s.number r child.0 s.walks in
        let same : l.folder ≡ k = one_number items (one_each items are.sound) 1 l.folder k p (subst (λ (q : Names). Walks items 1 q l.folder) child.1 l.walks) walks in
        let c : IsChild items k l.called s.number = subst (λ (a : ℕ). IsChild items a l.called s.number) same l.child in
        let path_is : p ++ l.called ∷ [] ≡ r = one_path items s.number (p ++ l.called ∷ []) r (walks_on items 1 k s.number p (l.called ∷ []) walks (s.number, c, refl)) s.walks in
        let found : lookup (is_at (name_cmp l.called)) es ≡ Some s.number = entries.are l.called ∙ index.known k s.number l.called c in
        subst (λ (q : Names). is_some (item_at (rows_in items p es) q) ≡ true) path_is (has_row items p k es kids l.called s.number found)
