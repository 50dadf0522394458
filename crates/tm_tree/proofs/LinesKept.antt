-- Accepted changes keep a tree a tree.
use Rattle.std.proofs.Common.{◌≡◌, ℕ, ◌+◌, ◌<◌, Bool, true, false, cond, not, ◌||◌, nat_lt, List, [], ◌∷◌, ◌++◌, length, if◌then◌else◌, refl, sym, ap, ◌∙◌, subst, Option, Some, None, is_some, unwrap_or, arith}
use Rattle.std.proofs.lemmas.Bool.Decides.{nat_tests}
use Rattle.std.specs.BTreeMap.{is_at}
use Rattle.std.specs.Option.{option_map_or}
use Rattle.std.specs.List.Sorted.{IsStrictlySortedBy}
use Rattle.tm_base.specs.Paths.{Names, path_cmp, is_root, parent_of}
use Rattle.tm_base.specs.declared.refused.Refused.TheVariants.{IsFolder}
use Rattle.tm_base.proofs.PathLemmas.{same_path_decides}
use Rattle.tm_tree.specs.declared.attrs.Attrs.{Attrs}
use Rattle.tm_tree.specs.declared.change.Change.{Change}
use Rattle.tm_tree.specs.declared.change.Change.TheVariants.{Mkdir, Write, Append, Fill, Rm, Rmdir, Mv, Ln, Chmod, Chown, Setx, Rmx, Fix, Unfix}
use Rattle.tm_tree.specs.declared.item.Item.{Item}
use Rattle.tm_tree.specs.declared.item.Item.TheVariants.{Folder, File, Link}
use Rattle.tm_tree.specs.Changes.{own_tests, tests, after, place_tests, file_tests, item_tests, rmdir_tests, mv_tests, length_at, written, write_at, place_at, remove_at, move_to, attrs_changed, fill_bytes}
use Rattle.tm_tree.specs.Contents.{Contents}
use Rattle.tm_tree.specs.Extras.{with_extra, without_extra}
use Rattle.tm_tree.specs.Items.{is_folder, dated, stamped, with_attrs, attrs_of, bytes_of, new_folder, new_link}
use Rattle.tm_tree.specs.Refusing.{Tests, first_refused, needs_moment}
use Rattle.tm_tree.specs.Trees.{Tree, item_at, put, without, change_at, touch, is_child, children, moved, is_some_folder, folder_at, IsTree}
use Rattle.tm_tree.specs.Walks.{way, is_blocked, is_at_folder}
use Rattle.tm_tree.proofs.CopyProofs.{at_is}
use Rattle.tm_tree.proofs.Edits.{keys-change, folder_at-change, stands-change, item_at-without, in_order_without}
use Rattle.tm_tree.proofs.MovesKept.{moved_kept}
use Rattle.tm_tree.proofs.Passes.{own_pass, none_before}
use Rattle.tm_tree.proofs.TreesKept.{clash, put_folder, put_leaf}
use Rattle.tm_tree.proofs.WalkProofs.{way_folder, folder_way}

-- ---- items changed, and folders dated

pub change_kept : (f : Item → Item) → ((e : Item) → is_folder (f e) ≡ is_folder e) → (t : Tree) (p : Names) → IsTree t → IsTree (change_at f t p)
change_kept f same t p h = record {
  in_order = subst (λ (ks : List Names). IsStrictlySortedBy path_cmp ks) (sym (keys-change f t p)) h.in_order;
  rooted = folder_at-change f same t p [] ∙ h.rooted;
  placed = λ q out there. folder_at-change f same t p (parent_of q) ∙ h.placed q out (sym (stands-change f t p q) ∙ there);
}

dated_folder : (moment : ℕ) (e : Item) → is_folder (dated e moment) ≡ is_folder e
dated_folder moment (Folder a) = refl
dated_folder moment (File a s b) = refl
dated_folder moment (Link a s b) = refl

pub touch_kept : (t : Tree) (p : Names) (moment : ℕ) → IsTree t → IsTree (touch t p moment)
touch_kept t p moment h = change_kept (λ e. dated e moment) (dated_folder moment) t p h

attrs_folder : (stamp : ℕ) (f : Attrs → Attrs) (e : Item) → is_folder (stamped stamp (with_attrs (f (attrs_of e)) e)) ≡ is_folder e
attrs_folder stamp f (Folder a) = refl
attrs_folder stamp f (File a s b) = refl
attrs_folder stamp f (Link a s b) = refl

attrs_kept : (t : Tree) (p : Names) (stamp : ℕ) (f : Attrs → Attrs) → IsTree t → IsTree (attrs_changed t p stamp f)
attrs_kept t p stamp f h = change_kept (λ e. stamped stamp (with_attrs (f (attrs_of e)) e)) (attrs_folder stamp f) t p h

-- ---- what tests that pass say

abbrev NoneHolds : Tests → Type 0
NoneHolds [] = Unit {0}
NoneHolds (test ∷ ts) = (test.0 ≡ false) × NoneHolds ts

none_holds : (ts : Tests) → first_refused ts ≡ None → NoneHolds ts
none_holds [] h = tt
none_holds ((true, why) ∷ ts) h = absurd (cc)
none_holds ((false, why) ∷ ts) h = (refl, none_holds ts h)

unless_not : (b : Bool) → not b ≡ false → b ≡ true
unless_not true h = refl
unless_not false h = cc

second : (a b : Bool) → (a || b) ≡ false → b ≡ false
second true b h = cc
second false b h = h

none_stands : (o : Option Item) → is_some o ≡ false → o ≡ None
none_stands None h = refl
none_stands (Some e) h = cc

-- an entry of a folder counts
child_counts : (t : Tree) (p q : Names) → is_child p q ≡ true → is_some (item_at t q) ≡ true → 0 < length (children t p)
child_counts [] p q is stands = absurd (clash stands)
child_counts (row ∷ t) p q is stands =
    elim (is_child p row.0) as (λ b. is_child p row.0 ≡ b → 0 < length (cond b (row ∷ children t p) (children t p))) [
      | true ↦ λ _. omega arith
      | false ↦ λ other. elim (is_at (path_cmp q) row.0) as (λ c. is_at (path_cmp q) row.0 ≡ c → is_some (cond c (Some row.1) (item_at t q)) ≡ true → 0 < length (children t p)) [
        | true ↦ λ here _. absurd (clash (sym other ∙ ap (is_child p) (sym ((at_is q row.0).0 here)) ∙ is))
        | false ↦ λ _ later. child_counts t p q is later
      ] refl stands
    ] refl

-- ---- entries made

module _ (t : Tree) (h : IsTree t) (moment : ℕ) where
  folder_made : (p : Names) → first_refused (place_tests t p) ≡ None → IsTree (place_at t p moment (new_folder moment))
  folder_made p pass =
      let none : NoneHolds (place_tests t p) = none_holds (place_tests t p) pass in
      let into = none.1.1.0 in
      touch_kept (put t p (new_folder moment)) (parent_of p) moment
      (put_folder t p (new_folder moment) h refl (way_folder t (parent_of p) (unless_not (is_at_folder (way t (parent_of p))) into)))

  leaf_made : (p : Names) (e : Item) → first_refused (place_tests t p) ≡ None → IsTree (place_at t p moment e)
  leaf_made p e pass =
      let none : NoneHolds (place_tests t p) = none_holds (place_tests t p) pass in
      let into = none.1.1.0 in
      touch_kept (put t p e) (parent_of p) moment
      (put_leaf t p e h (ap is_some_folder (none_stands (item_at t p) none.1.0)) (way_folder t (parent_of p) (unless_not (is_at_folder (way t (parent_of p))) into)))

  file_made : (p : Names) (size stamp : ℕ) (bytes : List ℕ) → first_refused (file_tests t p size) ≡ None → IsTree (write_at t p moment stamp bytes)
  file_made p size stamp bytes pass =
      let none : NoneHolds (file_tests t p size) = none_holds (file_tests t p size) pass in
      let into = none.1.1.0 in
      let e = written (item_at t p) moment stamp bytes in
      let tree : IsTree (put t p e) =
      put_leaf t p e h (sym (folder_way t p h) ∙ none.1.1.1.0) (way_folder t (parent_of p) (unless_not (is_at_folder (way t (parent_of p))) into)) in
      elim (is_some (item_at t p)) as (λ b. IsTree (if b then put t p e else touch (put t p e) (parent_of p) moment)) [
        | true ↦ tree
        | false ↦ touch_kept (put t p e) (parent_of p) moment tree
      ]

  -- ---- entries removed

  gone : (p q : Names) → is_some (cond (is_at (path_cmp p) q) None (item_at t q)) ≡ true → is_some (item_at t q) ≡ true
  gone p q = elim (is_at (path_cmp p) q) as (λ b. is_some (cond b None (item_at t q)) ≡ true → is_some (item_at t q) ≡ true) [ true ↦ λ k. absurd (clash k) | false ↦ λ k. k ]

  folder_stays : (p q : Names) → (p ≡ q → ⊥) → is_some_folder (item_at t q) ≡ true → is_some_folder (cond (is_at (path_cmp p) q) None (item_at t q)) ≡ true
  folder_stays p q other is =
      elim (is_at (path_cmp p) q) as (λ b. is_at (path_cmp p) q ≡ b → is_some_folder (cond b None (item_at t q)) ≡ true) [
        | true ↦ λ here. absurd (other ((at_is p q).0 here))
        | false ↦ λ _. is
      ] refl

  -- what is not the root and holds nothing may be removed
  without_kept : (p : Names) → (p ≡ [] → ⊥) → ((q : Names) → is_root q ≡ false → is_some (item_at t q) ≡ true → p ≡ parent_of q → ⊥) → IsTree (without t p)
  without_kept p out empty = record {
    in_order = in_order_without t p h.in_order;
    rooted = ap is_some_folder (item_at-without t p [] h.in_order) ∙ folder_stays p [] out h.rooted;
    placed = λ q below there.
        let stood : is_some (item_at t q) ≡ true = gone p q (sym (ap is_some (item_at-without t p q h.in_order)) ∙ there) in
        ap is_some_folder (item_at-without t p (parent_of q) h.in_order) ∙ folder_stays p (parent_of q) (empty q below stood) (h.placed q below stood);
  }

  leaf_gone : (p : Names) → first_refused (item_tests t p ++ (is_at_folder (way t p), IsFolder) ∷ []) ≡ None → IsTree (remove_at t p moment)
  leaf_gone p pass =
      let ts = item_tests t p ++ (is_at_folder (way t p), IsFolder) ∷ [] in
      let none : NoneHolds ts = none_holds ts pass in
      let leaf : folder_at t p ≡ false = sym (folder_way t p h) ∙ none.1.1.0 in
      touch_kept (without t p) (parent_of p) moment
      (without_kept p (λ root. clash (sym leaf ∙ ap (folder_at t) root ∙ h.rooted))
      (λ q below stood here. clash (sym leaf ∙ ap (folder_at t) here ∙ h.placed q below stood)))

  folder_gone : (p : Names) → first_refused (rmdir_tests t p) ≡ None → IsTree (remove_at t p moment)
  folder_gone p pass =
      let none : NoneHolds (rmdir_tests t p) = none_holds (rmdir_tests t p) pass in
      touch_kept (without t p) (parent_of p) moment
      (without_kept p (λ root. clash (sym none.1.1.1.0 ∙ ap is_root root)) (λ q out stood here.
      let held : 0 < length (children t p) = child_counts t p q (rw out ((same_path_decides (parent_of q) p).1 (sym here))) stood in
      let empty : nat_lt 0 (length (children t p)) ≡ false = none.1.1.0 in
      grind (arith, nat_tests)))

  -- ---- moves

  move_made : (a b : Names) → first_refused (mv_tests t a b) ≡ None → IsTree (move_to t a b moment)
  move_made a b pass =
      let none : NoneHolds (mv_tests t a b) = none_holds (mv_tests t a b) pass in
      let into = second (is_blocked (way t a)) (not (is_at_folder (way t (parent_of b)))) none.1.1.0 in
      let folder = way_folder t (parent_of b) (unless_not (is_at_folder (way t (parent_of b))) into) in
      touch_kept (touch (moved t a b) (parent_of a) moment) (parent_of b) moment
      (touch_kept (moved t a b) (parent_of a) moment (moved_kept t a b h (none_stands (item_at t b) none.1.0) folder none.1.1.1.0))

-- ---- every line

lines : (v : Contents) (c : Change) (m : Option ℕ) → IsTree v.tree → first_refused (own_tests v c m) ≡ None → IsTree (after v c m).tree
lines v (Mkdir p) m h pass = folder_made v.tree h (unwrap_or m 0) p (none_before (place_tests v.tree p) (needs_moment m) pass)
lines v (Write p bytes) m h pass =
    file_made v.tree h (unwrap_or m 0) p (length bytes) v.next bytes (none_before (file_tests v.tree p (length bytes)) (needs_moment m) pass)
lines v (Append p bytes) m h pass =
    let size = length_at v.tree p + length bytes in
    file_made v.tree h (unwrap_or m 0) p size v.next (option_map_or bytes_of (item_at v.tree p) [] ++ bytes) (none_before (file_tests v.tree p size) (needs_moment m) pass)
lines v (Fill p count seed) m h pass =
    file_made v.tree h (unwrap_or m 0) p count v.next (fill_bytes count seed) (none_before (file_tests v.tree p count) (needs_moment m) pass)
lines v (Rm p) m h pass =
    leaf_gone v.tree h (unwrap_or m 0) p (none_before (item_tests v.tree p ++ (is_at_folder (way v.tree p), IsFolder) ∷ []) (needs_moment m) pass)
lines v (Rmdir p) m h pass = folder_gone v.tree h (unwrap_or m 0) p (none_before (rmdir_tests v.tree p) (needs_moment m) pass)
lines v (Mv a b) m h pass = move_made v.tree h (unwrap_or m 0) a b (none_before (mv_tests v.tree a b) (needs_moment m) pass)
lines v (Ln p target) m h pass =
    leaf_made v.tree h (unwrap_or m 0) p (new_link (unwrap_or m 0) v.next target) (none_before (place_tests v.tree p) (needs_moment m) pass)
lines v (Chmod p mode) m h pass = attrs_kept v.tree p v.next (λ a. record a { mode = mode }) h
lines v (Chown p uid gid) m h pass = attrs_kept v.tree p v.next (λ a. record a { uid = uid; gid = gid }) h
lines v (Setx p name value) m h pass = attrs_kept v.tree p v.next (λ a. record a { extra = with_extra name value a.extra }) h
lines v (Rmx p name) m h pass = attrs_kept v.tree p v.next (λ a. record a { extra = without_extra name a.extra }) h
lines v (Fix p) m h pass = h
lines v (Unfix p) m h pass = h

pub tree_kept : (v : Contents) (c : Change) (m : Option ℕ) → IsTree v.tree → first_refused (tests v c m) ≡ None → IsTree (after v c m).tree
tree_kept v c m h pass = lines v c m h (own_pass v c m pass)
