-- Listings of the view.
use Rattle.std.proofs.Common.{◌≡◌, ℕ, Bool, true, false, cond, ◌||◌, Option, Some, None, IfSome, Ok, Err, List, [], ◌∷◌, ◌++◌, refl, sym, ap, ◌∙◌, append_assoc, append-nil}
use Rattle.tm_base.specs.Paths.{Names}
use Rattle.tm_base.specs.declared.refused.Refused.TheVariants.{NotFolder}
use Rattle.tm_tree.specs.declared.attrs.Attrs.{Attrs}
use Rattle.tm_tree.specs.declared.item.Item.{Item}
use Rattle.tm_tree.specs.declared.item.Item.TheVariants.{Folder, File, Link}
use Rattle.tm_tree.specs.declared.listing.ListKind.{ListKind}
use Rattle.tm_tree.specs.declared.listing.ListKind.TheVariants as kind
use Rattle.tm_tree.specs.declared.record.ItemRow.{ItemRow}
use Rattle.tm_tree.specs.Contents.{is_fixed}
use Rattle.tm_tree.specs.Items.{is_folder, is_excluded}
use Rattle.tm_tree.specs.declared.listing.ListRow.{ListRow}
use Rattle.tm_tree.specs.declared.listing.Listing.{Listing}
use Rattle.tm_tree.specs.Listings.{listed, list_rows, listing_of, listing}
use Rattle.tm_tree.specs.Trees.{Tree, IsTree, item_at, folder_at}
use Rattle.tm_tree.specs.Views.{view}
use Rattle.tm_tree.specs.Walks.{through, found, walk_from, walk}
use Rattle.tm_volume.specs.Answers.{FindsRow}
use Rattle.tm_volume.specs.Room.{body_of}
use Rattle.tm_backup.specs.Shown.{has_exclusion, body_excluded, is_out, shown_rows}
use Rattle.tm_backup.proofs.Rows.{folder_shown, view_rows}

-- ---- one item

-- a walk that comes to an item comes to what stands at its path
walk_ok : (t : Tree) (done rest : Names) (e : Item) → walk_from t done rest ≡ Ok e → item_at t (done ++ rest) ≡ Some e
walk_ok t done [] e h = ap (item_at t) (append-nil done) ∙ by_item (item_at t done) h
  where
    by_item : (o : Option Item) → found o ≡ Ok e → o ≡ Some e
    by_item None g = cc
    by_item (Some d) g = cc
walk_ok t done (n ∷ rest) e h = ap (item_at t) (sym (append_assoc done (n ∷ []) rest)) ∙ walk_ok t (done ++ n ∷ []) rest e (by_item (item_at t done) h)
  where
    by_folder : (b : Bool) → cond b (walk_from t (done ++ n ∷ []) rest) (Err NotFolder) ≡ Ok e → walk_from t (done ++ n ∷ []) rest ≡ Ok e
    by_folder true g = g
    by_folder false g = cc

    by_item : (o : Option Item) → through o (walk_from t (done ++ n ∷ []) rest) ≡ Ok e → walk_from t (done ++ n ∷ []) rest ≡ Ok e
    by_item None g = cc
    by_item (Some d) g = by_folder (is_folder d) g

excluded_body : (e : Item) → body_excluded (body_of e) ≡ is_excluded e
excluded_body (Folder a) = refl
excluded_body (File a s x) = refl
excluded_body (Link a s t) = refl

-- the record that a walk finds tells whether the item is excluded
pub found_excluded : (t : Tree) (p : Names) (row : ItemRow) → FindsRow (walk t p) (Ok row) → IfSome (item_at t p) (λ e. body_excluded row.body ≡ is_excluded e)
found_excluded t p row finds = by_item (item_at t p) refl
  where
    by_item : (o : Option Item) → item_at t p ≡ o → IfSome o (λ e. body_excluded row.body ≡ is_excluded e)
    by_item None is = tt
    by_item (Some e) is =
        let comes : Some finds.0 ≡ Some e = sym (walk_ok t [] p finds.0 finds.1) ∙ is in
        let same : finds.0 ≡ e = cc comes in
        ap body_excluded finds.2 ∙ excluded_body finds.0 ∙ ap is_excluded same

-- an item that isn't fixed is left out where it is excluded
not_fixed : (excluded fixed : Bool) → fixed ≡ false → excluded ≡ (excluded || fixed)
not_fixed true fixed e = refl
not_fixed false fixed e = sym e

file_excluded : (e : Item) (attrs : Attrs) (stamp size : ℕ) → listed e ≡ kind.File attrs stamp size → has_exclusion attrs.extra ≡ is_excluded e
file_excluded (Folder a) attrs stamp size h = absurd (cc h)
file_excluded (File a s x) attrs stamp size h = let same : a ≡ attrs = cc h in ap (λ (b : Attrs). has_exclusion b.extra) (sym same)
file_excluded (Link a s t) attrs stamp size h = absurd (cc h)

link_excluded : (e : Item) (attrs : Attrs) (stamp : ℕ) (target : List ℕ) → listed e ≡ kind.Link attrs stamp target → has_exclusion attrs.extra ≡ is_excluded e
link_excluded (Folder a) attrs stamp target h = absurd (cc h)
link_excluded (File a s x) attrs stamp target h = absurd (cc h)
link_excluded (Link a s t) attrs stamp target h = let same : a ≡ attrs = cc h in ap (λ (b : Attrs). has_exclusion b.extra) (sym same)

-- what stands there is this item
abbrev Stood : Option Item → ListKind → Type 0
Stood o k = (e : Item) × (o ≡ Some e) × (listed e ≡ k)

pub file_out : (fixed : List Names) (p : Names) (o : Option Item) (attrs : Attrs) (stamp size : ℕ) (out : Bool) → Stood o (kind.File attrs stamp size) → is_fixed fixed p ≡ false → out ≡ has_exclusion attrs.extra
    → IfSome o (λ e. out ≡ is_out fixed p e)
file_out fixed p None attrs stamp size out s off is = tt
file_out fixed p (Some e) attrs stamp size out s off is =
    let same : s.0 ≡ e = cc s.1 in
    is ∙ file_excluded e attrs stamp size (ap listed (sym same) ∙ s.2) ∙ not_fixed (is_excluded e) (is_fixed fixed p) off

pub link_out : (fixed : List Names) (p : Names) (o : Option Item) (attrs : Attrs) (stamp : ℕ) (target : List ℕ) (out : Bool) → Stood o (kind.Link attrs stamp target) → is_fixed fixed p ≡ false → out ≡ has_exclusion attrs.extra
    → IfSome o (λ e. out ≡ is_out fixed p e)
link_out fixed p None attrs stamp target out s off is = tt
link_out fixed p (Some e) attrs stamp target out s off is =
    let same : s.0 ≡ e = cc s.1 in
    is ∙ link_excluded e attrs stamp target (ap listed (sym same) ∙ s.2) ∙ not_fixed (is_excluded e) (is_fixed fixed p) off

-- ---- a folder

-- where the view has a folder, the tree has one
pub listing_there : (fixed : List Names) (t : Tree) (p : Names) → folder_at (view fixed t) p ≡ true → listing t p ≡ None → ⊥
listing_there fixed t p folder none = let s = folder_shown fixed t p folder in cc (none, ap (λ o. listing_of o (list_rows t p)) s.in_tree)

-- the listing of the view
pub listing_shown : (fixed : List Names) (t : Tree) (p : Names) (l : Listing) (rows : List ListRow) → IsTree t → folder_at (view fixed t) p ≡ true → listing t p ≡ Some l → rows ≡ shown_rows fixed t p
    → listing (view fixed t) p ≡ Some (record { attrs = l.attrs; rows = rows })
listing_shown fixed t p l rows tree folder is rows_are =
    let s = folder_shown fixed t p folder in
    let listed : ◌≡◌ {A = Option Listing} (Some (record { attrs = s.attrs; rows = list_rows t p })) (Some l) = sym (ap (λ o. listing_of o (list_rows t p)) s.in_tree) ∙ is in
    let same : ◌≡◌ {A = Listing} (record { attrs = s.attrs; rows = list_rows t p }) l = cc listed in
    ap (λ o. listing_of o (list_rows (view fixed t) p)) s.in_view
    ∙ (λ j. Some (record { attrs = (same j).attrs; rows = (view_rows fixed t p tree s.shown ∙ sym rows_are) j }))
