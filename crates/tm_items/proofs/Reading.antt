-- The tree that sound placings read as: it is a tree, there is only one, and it is the one that is computed.
use Rattle.std.proofs.Common.{◌≡◌, ℕ, suc, ◌-◌, Bool, true, false, cond, List, [], ◌∷◌, length, take, refl, sym, ap, ◌∙◌, subst, Option, Some, None, is_some, arith, ◌⊎◌, inl, inr}
use Rattle.std.proofs.lemmas.Bool.Decides.{nat_tests}
use Rattle.std.specs.declared.cmp.Ordering.TheVariants.{Less}
use Rattle.std.specs.Ordering.{nat_cmp, is_eq, ordering_reverse}
use Rattle.std.specs.Cmp.{Equal-is, tied_itself, nat_cmp_total}
use Rattle.std.specs.Bool.{Decides}
use Rattle.std.specs.FinMap.{nat_cmp-IsAntisymmetric}
use Rattle.std.specs.List.{AllByRecursion}
use Rattle.std.specs.List.Sorted.{IsStrictlySortedBy}
use Rattle.std.specs.Map.{keys_of}
use Rattle.std.specs.BTreeMap.{is_at}
use Rattle.tm_tree.specs.declared.item.Item.{Item}
use Rattle.tm_tree.specs.Items.{is_folder}
use Rattle.tm_base.specs.Paths.{Names, path_cmp, parent_of, is_root}
use Rattle.tm_tree.specs.Trees.{Tree, item_at, put, put_all}
use Rattle.tm_tree.specs.Trees.{is_some_folder, IsTree}
use Rattle.tm_tree.proofs.Order.{InOrder}
use Rattle.tm_tree.proofs.AtPaths.{trees_equal, item_at-put, in_order_put_all}
use Rattle.tm_tree.proofs.CopyProofs.{at_is}
use Rattle.tm_items.specs.Placings.{Placed, Items, IsChild, Walks, LeadsTo, ReadsAs}
use Rattle.tm_items.specs.Rules.{IsSound, is_folder_placed}
use Rattle.tm_items.specs.Computed.{Placings, items_of, path_to, placed_rows, tree_of}
use Rattle.tm_items.proofs.Walking.{one_number, one_each, one_path, reached}

-- ---- one tree at most

agree : (o r : Option Item) → ((e : Item) → o ≡ Some e → r ≡ Some e) → ((e : Item) → r ≡ Some e → o ≡ Some e) → o ≡ r
agree None None h g = refl
agree None (Some e) h g = g e refl
agree (Some e) r h g = sym (h e refl)

pub one_tree : (items : Items) (t u : Tree) → ReadsAs items t → ReadsAs items u → t ≡ u
one_tree items t u r s =
    trees_equal t u r.in_order s.in_order (λ p. agree (item_at t p) (item_at u p) (λ e is. s.there p e (r.only p e is)) (λ e is. r.there p e (s.only p e is)))

pub in_order_from : (rows : Tree) → InOrder (put_all [] rows)
unfolding IsStrictlySortedBy
in_order_from rows = in_order_put_all [] rows tt

-- ---- a tree

pub some_of : {X : Type 0} → (o : Option X) → is_some o ≡ true → (x : X) × (o ≡ Some x)
some_of None h = cc
some_of (Some x) h = (x, refl)

parent_on : (name : List ℕ) (q : Names) → is_root q ≡ false → parent_of (name ∷ q) ≡ name ∷ parent_of q
parent_on name q h =
    let more : length (name ∷ q) - 1 ≡ suc (length q - 1) = grind (arith, nat_tests) in
    ap (λ (n : ℕ). take n (name ∷ q)) more

-- the last step of a walk
pub record LastStep (items : Items) (a : ℕ) (p : Names) (n : ℕ) : Type 0 where
  pub folder : ℕ
  pub called : List ℕ
  pub walks : Walks items a (parent_of p) folder
  pub child : IsChild items folder called n

pub last_step : (items : Items) (a n : ℕ) (p : Names) → is_root p ≡ false → Walks items a p n → LastStep items a p n
last_step items a n [] h w = cc
last_step items a n (name ∷ []) h w = record { folder = a; called = name; walks = refl; child = subst (λ (x : ℕ). IsChild items a name x) w.2 w.1 }
last_step items a n (name ∷ next ∷ rest) h w =
    let l = last_step items w.0 n (next ∷ rest) (more next rest) w.2 in
    let walks : Walks items a (name ∷ parent_of (next ∷ rest)) l.folder = (w.0, w.1, l.walks) in
    record { folder = l.folder; called = l.called; walks = subst (λ (q : Names). Walks items a q l.folder) (sym (parent_on name (next ∷ rest) (more next rest))) walks; child = l.child }
  where
    more : (x : List ℕ) (q : Names) → is_root (x ∷ q) ≡ false
    more x q = grind (arith, nat_tests)

folder_of : (o : Option Placed) → is_folder_placed o ≡ true → (x : Placed) × (o ≡ Some x) × (is_folder x.item ≡ true)
folder_of None h = cc
folder_of (Some x) h = (x, refl, h)

pub is_tree : (items : Items) (t : Tree) → IsSound items → ReadsAs items t → IsTree t
is_tree items t sound reads = record {
  in_order = reads.in_order;
  rooted =
      let root = (sound 1).root refl in
      ap is_some_folder (reads.there [] root.placed.item (record { number = 1; walks = refl; placed = root.placed; is = root.is; item = refl })) ∙ root.root.folder;
  placed = λ p out there.
      let e = some_of (item_at t p) there in
      let s = reads.only p e.0 e.1 in
      let l = last_step items 1 s.number p out s.walks in
      let f = folder_of (items l.child.placed.parent) ((sound s.number).placed l.child.placed l.child.is l.child.not_root).in_folder in
      ap is_some_folder (reads.there (parent_of p) f.0.item (record { number = l.folder; walks = l.walks; placed = f.0; is = ap items (sym l.child.parent) ∙ f.1; item = refl })) ∙ f.2;
}

-- ---- what is among rows

abbrev pub Among : {K X : Type 0} → List (K × X) → K → X → Type 0
Among [] k x = ⊥
Among (row ∷ rows) k x = ((row.0 ≡ k) × (row.1 ≡ x)) ⊎ Among rows k x

pub chosen : {X : Type 0} → (b : Bool) (x y : X) (o : Option X) → cond b (Some x) o ≡ Some y → ((b ≡ true) × (x ≡ y)) ⊎ ((b ≡ false) × (o ≡ Some y))
chosen true x y o h = inl (refl, cc)
chosen false x y o h = inr (refl, h)

put_all_only : (rows acc : Tree) (p : Names) (e : Item) → item_at (put_all acc rows) p ≡ Some e → Among rows p e ⊎ (item_at acc p ≡ Some e)
put_all_only [] acc p e h = inr h
put_all_only (row ∷ rows) acc p e h =
    elim (put_all_only rows (put acc row.0 row.1) p e h) [
      | inl among ↦ inl (inr among)
      | inr is ↦ elim (chosen (is_at (path_cmp p) row.0) row.1 e (item_at acc p) (sym (item_at-put acc row.0 row.1 p) ∙ is)) [
        | inl hit ↦ inl (inl (sym ((at_is p row.0).0 hit.0), hit.1))
        | inr past ↦ inr past.1
      ]
    ]

still_some : (b : Bool) (e : Item) (o : Option Item) → is_some o ≡ true → is_some (cond b (Some e) o) ≡ true
still_some true e o h = refl
still_some false e o h = h

put_all_keeps : (rows acc : Tree) (p : Names) → is_some (item_at acc p) ≡ true → is_some (item_at (put_all acc rows) p) ≡ true
put_all_keeps [] acc p h = h
put_all_keeps (row ∷ rows) acc p h = put_all_keeps rows (put acc row.0 row.1) p (rw (item_at-put acc row.0 row.1 p) (still_some (is_at (path_cmp p) row.0) row.1 (item_at acc p) h))

put_all_has : (rows acc : Tree) (p : Names) (e : Item) → Among rows p e → is_some (item_at (put_all acc rows) p) ≡ true
put_all_has [] acc p e h = absurd h
put_all_has (row ∷ rows) acc p e (inl hit) =
    put_all_keeps rows (put acc row.0 row.1) p (rw (item_at-put acc row.0 row.1 p, (at_is p row.0).1 (sym hit.0)) refl)
put_all_has (row ∷ rows) acc p e (inr among) = put_all_has rows (put acc row.0 row.1) p e among

-- ---- placings and their look-up

pub number_decides : (n m : ℕ) → Decides (is_at (nat_cmp n) m) (n ≡ m)
number_decides n m = (λ h. nat_cmp-IsAntisymmetric n m ((Equal-is (nat_cmp n m)).0 h), λ e. subst (λ (x : ℕ). is_eq (nat_cmp n x) ≡ true) e (ap is_eq (tied_itself nat_cmp_total n)))

pub among_from : (placings : Placings) (n : ℕ) (x : Placed) → items_of placings n ≡ Some x → Among placings n x
among_from [] n x h = cc
among_from (row ∷ rest) n x h =
    elim (chosen (is_at (nat_cmp n) row.0) row.1 x (items_of rest n) h) [
      | inl hit ↦ inl (sym ((number_decides n row.0).0 hit.0), hit.1)
      | inr past ↦ inr (among_from rest n x past.1)
    ]

pub above : (P : ℕ → Type 0) (placings : Placings) (n : ℕ) (x : Placed) → AllByRecursion P (keys_of placings) → Among placings n x → P n
above P [] n x h a = absurd a
above P (row ∷ rest) n x h (inl hit) = subst P hit.0 h.0
above P (row ∷ rest) n x h (inr a) = above P rest n x h.1 a

not_at : (n m : ℕ) → nat_cmp m n ≡ Less → is_at (nat_cmp n) m ≡ false
not_at n m h = ap is_eq (nat_cmp_total.antisymm n m ∙ ap ordering_reverse h)

pub found_among : (placings : Placings) (n : ℕ) (x : Placed) → IsStrictlySortedBy nat_cmp (keys_of placings) → Among placings n x → items_of placings n ≡ Some x
unfolding IsStrictlySortedBy
found_among [] n x h a = absurd a
found_among (row ∷ rest) n x h (inl hit) = rw ((number_decides n row.0).1 (sym hit.0)) (ap Some hit.1)
found_among (row ∷ rest) n x h (inr a) = rw (not_at n row.0 (above (λ m. nat_cmp row.0 m ≡ Less) rest n x h.0 a)) (found_among rest n x h.1 a)

-- ---- the rows of placings

pub record HasPath (items : Items) (placings : Placings) (p : Names) (e : Item) : Type 0 where
  pub number : ℕ
  pub placed : Placed
  pub among : Among placings number placed
  pub path : path_to 64 items number ≡ p
  pub item : placed.item ≡ e

row_from : (items : Items) (placings : Placings) (p : Names) (e : Item) → Among (placed_rows items placings) p e → HasPath items placings p e
row_from items [] p e h = absurd h
row_from items (row ∷ rest) p e (inl hit) = record { number = row.0; placed = row.1; among = inl (refl, refl); path = hit.0; item = hit.1 }
row_from items (row ∷ rest) p e (inr a) =
    let r = row_from items rest p e a in
    record { number = r.number; placed = r.placed; among = inr r.among; path = r.path; item = r.item }

row_of : (items : Items) (placings : Placings) (n : ℕ) (x : Placed) → Among placings n x → Among (placed_rows items placings) (path_to 64 items n) x.item
row_of items [] n x h = absurd h
row_of items (row ∷ rest) n x (inl hit) = inl (ap (path_to 64 items) hit.0, ap (λ (y : Placed). y.item) hit.1)
row_of items (row ∷ rest) n x (inr a) = inr (row_of items rest n x a)

of_rows : (rows : Tree) (p : Names) (e : Item) → item_at (put_all [] rows) p ≡ Some e → Among rows p e
of_rows rows p e is = elim (put_all_only rows [] p e is) [ inl a ↦ a | inr none ↦ absurd (nothing none) ]
  where
    nothing : {e : Item} → None ≡ Some e → ⊥
    nothing h = cc

stands : (placings : Placings) → IsStrictlySortedBy nat_cmp (keys_of placings) → IsSound (items_of placings) → (p : Names) (e : Item) → Among (placed_rows (items_of placings) placings) p e → LeadsTo (items_of placings) p e
stands placings sorted sound p e a =
    let items = items_of placings in
    let r = row_from items placings p e a in
    let is = found_among placings r.number r.placed sorted r.among in
    record { number = r.number; walks = subst (λ (q : Names). Walks items 1 q r.number) r.path (reached items sound r.number r.placed is); placed = r.placed; is = is; item = r.item }

path_to_is : (placings : Placings) → IsSound (items_of placings) → (n : ℕ) (x : Placed) (p : Names) → items_of placings n ≡ Some x → Walks (items_of placings) 1 p n → path_to 64 (items_of placings) n ≡ p
path_to_is placings sound n x p is w = one_path (items_of placings) n (path_to 64 (items_of placings) n) p (reached (items_of placings) sound n x is) w

pub same_entry_at : (items : Items) → IsSound items → (p : Names) (e f : Item) → LeadsTo items p e → LeadsTo items p f → e ≡ f
same_entry_at items sound p e f s r =
    let same : s.number ≡ r.number = one_number items (one_each items sound) 1 s.number r.number p s.walks r.walks in
    let is : Some s.placed ≡ Some r.placed = sym s.is ∙ ap items same ∙ r.is in
    let items_same : s.placed ≡ r.placed = cc is in
    sym s.item ∙ ap (λ (x : Placed). x.item) items_same ∙ r.item

-- the placings of a volume read as the tree that is computed from them
pub tree_reads : (placings : Placings) → IsStrictlySortedBy nat_cmp (keys_of placings) → IsSound (items_of placings) → ReadsAs (items_of placings) (tree_of placings)
unfolding tree_of IsStrictlySortedBy
tree_reads placings sorted sound =
    let items = items_of placings in
    let only : (p : Names) (e : Item) → item_at (put_all [] (placed_rows items placings)) p ≡ Some e → LeadsTo items p e = λ p e is. stands placings sorted sound p e (of_rows (placed_rows items placings) p e is) in
    record {
      in_order = in_order_put_all [] (placed_rows items placings) tt;
      there = λ p e s.
          let path = path_to_is placings sound s.number s.placed p s.is s.walks in
          let row : Among (placed_rows items placings) p s.placed.item = subst (λ (q : Names). Among (placed_rows items placings) q s.placed.item) path (row_of items placings s.number s.placed (among_from placings s.number s.placed s.is)) in
          let f = some_of (item_at (put_all [] (placed_rows items placings)) p) (put_all_has (placed_rows items placings) [] p s.placed.item row) in
          f.1 ∙ ap Some (same_entry_at items sound p f.0 e (only p f.0 f.1) s);
      only = only;
    }
