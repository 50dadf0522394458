-- A change that nothing refuses keeps the fit.
use Rattle.std.proofs.Common.{◌≡◌, ◌⊎◌, ℕ, ◌+◌, ◌<◌, ◌≤◌, true, false, List, [], ◌∷◌, ◌++◌, length, if◌then◌else◌, refl, Option, Some, None, is_some, unwrap_or, arith, inr}
use Rattle.std.specs.Option.{option_map_or}
use Rattle.tm_base.specs.Paths.{Names, parent_of, same_name}
use Rattle.tm_tree.specs.declared.attrs.Attrs.{Attrs}
use Rattle.tm_tree.specs.declared.change.Change.{Change}
use Rattle.tm_tree.specs.declared.change.Change.TheVariants.{Mkdir, Write, Append, Fill, Rm, Rmdir, Mv, Ln, Chmod, Chown, Setx, Rmx, Fix, Unfix}
use Rattle.tm_tree.specs.declared.item.Item.{Item}
use Rattle.tm_tree.specs.declared.item.Item.TheVariants.{Folder, File, Link}
use Rattle.tm_tree.specs.Changes.{tests, own_tests, after, mv_tests, written, write_at, attrs_changed, fill_bytes, tree_after}
use Rattle.tm_tree.specs.Contents.{Contents}
use Rattle.tm_tree.specs.Copies.{bare}
use Rattle.tm_tree.specs.Extras.{with_extra, without_extra}
use Rattle.tm_tree.specs.Items.{stamp_of, stamped, with_attrs, attrs_of, bytes_of, new_folder, new_link, exclusion}
use Rattle.tm_tree.specs.Refusing.{Tests, first_refused, needs_moment}
use Rattle.tm_tree.specs.States.{VolumeState, StoreState, Snapshot}
use Rattle.tm_tree.specs.Touches.{numbers, attr_stamps, attr_touches, extra_touches, exclusion_touches, plain, scan}
use Rattle.tm_tree.specs.Trees.{Tree, IsTree, item_at, put, without, touch, moved, folder_at}
use Rattle.tm_tree.proofs.LinesKept.{tree_kept}
use Rattle.tm_tree.proofs.Passes.{own_pass, none_before}
use Rattle.tm_fit.specs.Fit.{VolumeFits, SnapshotFits, SnapshotsFit, StoreFits}
use Rattle.tm_fit.specs.Laws.{with_contents, ChangeFits}
use Rattle.tm_fit.proofs.Drawing.{Draws, drawn_below, drawn_differ, drawn_agree, same_items, put_items, changed_items, dated_items, without_items, moved_items}

no_some : {A : Type 0} (s : ℕ) → None ≡ Some s → A
no_some s h = absurd (cc)

just : (next s : ℕ) → Some next ≡ Some s → s ≡ next
just next s h = cc

attrs_new : (next : ℕ) (f : Attrs → Attrs) (e : Item) (s : ℕ) → stamp_of (stamped next (with_attrs (f (attrs_of e)) e)) ≡ Some s → (stamped next (with_attrs (f (attrs_of e)) e) ≡ e) ⊎ (s ≡ next)
attrs_new next f (Folder a) s is = no_some s is
attrs_new next f (File a t b) s is = inr (just next s is)
attrs_new next f (Link a t b) s is = inr (just next s is)

written_new : (next moment : ℕ) (bytes : List ℕ) (o : Option Item) (s : ℕ) → stamp_of (written o moment next bytes) ≡ Some s → s ≡ next
written_new next moment bytes None s is = just next s is
written_new next moment bytes (Some e) s is = just next s is

none_stands : (o : Option Item) → is_some o ≡ false → o ≡ None
none_stands None h = refl
none_stands (Some e) h = absurd (cc)

abbrev NoneHolds : Tests → Type 0
NoneHolds [] = Unit {0}
NoneHolds (test ∷ ts) = (test.0 ≡ false) × NoneHolds ts

none_holds : (ts : Tests) → first_refused ts ≡ None → NoneHolds ts
none_holds [] h = tt
none_holds ((true, why) ∷ ts) h = absurd (cc)
none_holds ((false, why) ∷ ts) h = (refl, none_holds ts h)

-- nothing stands at the new place of an item that is moved
free_at : (t : Tree) (a b : Names) → first_refused (mv_tests t a b) ≡ None → item_at t b ≡ None
free_at t a b h =
    let none : NoneHolds (mv_tests t a b) = none_holds (mv_tests t a b) h in
    none_stands (item_at t b) none.1.0

module _ (t : Tree) (next moment : ℕ) (tree : IsTree t) where
  written_at : (p : Names) (bytes : List ℕ) → Draws next (item_at t) (item_at (write_at t p moment next bytes))
  written_at p bytes =
      let e = written (item_at t p) moment next bytes in
      let put_in : Draws next (item_at t) (item_at (put t p e)) = put_items next t p e (written_new next moment bytes (item_at t p)) in
      elim (is_some (item_at t p)) as (λ b. Draws next (item_at t) (item_at (if b then put t p e else touch (put t p e) (parent_of p) moment))) [
        | true ↦ put_in
        | false ↦ dated_items next t (put t p e) (parent_of p) moment put_in
      ]

  attrs_at : (p : Names) (f : Attrs → Attrs) → Draws next (item_at t) (item_at (attrs_changed t p next f))
  attrs_at p f = changed_items next t p (λ e. stamped next (with_attrs (f (attrs_of e)) e)) (attrs_new next f)

  made_at : (p : Names) (e : Item) → ((s : ℕ) → stamp_of e ≡ Some s → s ≡ next) → Draws next (item_at t) (item_at (touch (put t p e) (parent_of p) moment))
  made_at p e new = dated_items next t (put t p e) (parent_of p) moment (put_items next t p e new)

  less_at : (p : Names) → Draws next (item_at t) (item_at (touch (without t p) (parent_of p) moment))
  less_at p = dated_items next t (without t p) (parent_of p) moment (without_items next t p tree)

  moved_to : (a b : Names) → item_at t b ≡ None → Draws next (item_at t) (item_at (touch (touch (moved t a b) (parent_of a) moment) (parent_of b) moment))
  moved_to a b free =
      dated_items next t (touch (moved t a b) (parent_of a) moment) (parent_of b) moment
      (dated_items next t (moved t a b) (parent_of a) moment (moved_items next t a b tree free))

-- every line
draws : (v : Contents) (c : Change) (m : Option ℕ) → IsTree v.tree → first_refused (own_tests v c m) ≡ None → Draws v.next (item_at v.tree) (item_at (tree_after v.tree v.next (unwrap_or m 0) c))
draws v (Mkdir p) m h pass = made_at v.tree v.next (unwrap_or m 0) h p (new_folder (unwrap_or m 0)) (λ s is. no_some s is)
draws v (Write p bytes) m h pass = written_at v.tree v.next (unwrap_or m 0) h p bytes
draws v (Append p bytes) m h pass = written_at v.tree v.next (unwrap_or m 0) h p (option_map_or bytes_of (item_at v.tree p) [] ++ bytes)
draws v (Fill p count seed) m h pass = written_at v.tree v.next (unwrap_or m 0) h p (fill_bytes count seed)
draws v (Rm p) m h pass = less_at v.tree v.next (unwrap_or m 0) h p
draws v (Rmdir p) m h pass = less_at v.tree v.next (unwrap_or m 0) h p
draws v (Mv a b) m h pass = moved_to v.tree v.next (unwrap_or m 0) h a b (free_at v.tree a b (none_before (mv_tests v.tree a b) (needs_moment m) pass))
draws v (Ln p target) m h pass = made_at v.tree v.next (unwrap_or m 0) h p (new_link (unwrap_or m 0) v.next target) (λ s is. just v.next s is)
draws v (Chmod p mode) m h pass = attrs_at v.tree v.next (unwrap_or m 0) h p (λ a. record a { mode = mode })
draws v (Chown p uid gid) m h pass = attrs_at v.tree v.next (unwrap_or m 0) h p (λ a. record a { uid = uid; gid = gid })
draws v (Setx p name value) m h pass = attrs_at v.tree v.next (unwrap_or m 0) h p (λ a. record a { extra = with_extra name value a.extra })
draws v (Rmx p name) m h pass = attrs_at v.tree v.next (unwrap_or m 0) h p (λ a. record a { extra = without_extra name a.extra })
draws v (Fix p) m h pass = same_items v.next v.tree
draws v (Unfix p) m h pass = same_items v.next v.tree

attr_number : (t : Tree) (p : Names) → 1 ≤ attr_stamps t p + length (attr_touches t p)
attr_number t p = elim (folder_at t p) as (λ b. 1 ≤ (if b then 0 else 1) + length (if b then plain p else plain (parent_of p))) [ true ↦ omega arith | false ↦ omega arith ]

extra_number : (t : Tree) (p : Names) (name : List ℕ) → 1 ≤ attr_stamps t p + length (extra_touches t p name)
extra_number t p name =
    elim (same_name name exclusion) as (λ c. 1 ≤ attr_stamps t p + length (if c then exclusion_touches t p else attr_touches t p)) [
      | true ↦ elim (folder_at t p) as (λ b. 1 ≤ (if b then 0 else 1) + length (if b then plain (parent_of p) ++ scan p else plain (parent_of p))) [ true ↦ omega arith | false ↦ omega arith ]
      | false ↦ attr_number t p
    ]

-- each change draws a number for its stamp, if it has one, and one for each touch: at least one
some_number : (t : Tree) (c : Change) → 1 ≤ numbers t c
some_number t (Mkdir p) = omega arith
some_number t (Write p bytes) = omega arith
some_number t (Append p bytes) = omega arith
some_number t (Fill p count seed) = omega arith
some_number t (Rm p) = omega arith
some_number t (Rmdir p) = omega arith
some_number t (Mv a b) = omega arith
some_number t (Ln p target) = omega arith
some_number t (Chmod p mode) = attr_number t p
some_number t (Chown p uid gid) = attr_number t p
some_number t (Setx p name value) = extra_number t p name
some_number t (Rmx p name) = extra_number t p name
some_number t (Fix p) = omega arith
some_number t (Unfix p) = omega arith

module _ (v : VolumeState) (c : Change) (m : Option ℕ) (pass : first_refused (tests v.contents c m) ≡ None) (fits : VolumeFits v) where
  abbrev new : VolumeState
  new = with_contents v (after v.contents c m)

  drawn : Draws v.contents.next (item_at v.contents.tree) (item_at new.contents.tree)
  drawn = draws v.contents c m fits.tree (own_pass v.contents c m pass)

  volume_fits : VolumeFits new
  volume_fits = record {
    tree = tree_kept v.contents c m fits.tree pass;
    below = drawn_below v.contents.next v.contents.tree new.contents.tree drawn (numbers v.contents.tree c) (some_number v.contents.tree c) fits.below;
    differ = drawn_differ v.contents.next v.contents.tree new.contents.tree drawn fits.below fits.differ;
    counted = let k : 1 ≤ v.contents.next = fits.counted in omega arith;
  }

  snapshot_fits : (s : Snapshot) → SnapshotFits v s → SnapshotFits new s
  snapshot_fits s h = record {
    agree = drawn_agree v.contents.next v.contents.tree new.contents.tree drawn (bare s.tree) h.below h.agree;
    below = λ p e n there is. let k : n < v.contents.next = h.below p e n there is in omega arith;
    cursor = let k : s.cursor < v.contents.next = h.cursor in omega arith;
    generation = h.generation;
  }

  snapshots_fit : (list : List Snapshot) → SnapshotsFit v list → SnapshotsFit new list
  snapshots_fit [] h = tt
  snapshots_fit (s ∷ list) h = (λ same. snapshot_fits s (h.0 same), snapshots_fit list h.1)

  store_fits : (store : Option StoreState) → StoreFits v store → StoreFits new store
  store_fits None h = tt
  store_fits (Some store) h = snapshots_fit store.snapshots h

pub change_fits : ChangeFits
change_fits v store c m pass fits = (volume_fits v c m pass fits.0, store_fits v c m pass fits.0 store fits.1)
