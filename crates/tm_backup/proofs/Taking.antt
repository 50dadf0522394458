-- The tree as the walk takes it.
use Rattle.std.proofs.Common.{◌≡◌, Bool, true, false, cond, if◌then◌else◌, Option, Some, None, is_some, List, [], ◌∷◌, refl, sym, ap, ◌∙◌, subst}
use Rattle.std.specs.BTreeMap.{is_at}
use Rattle.std.specs.List.Sorted.{IsStrictlySortedBy}
use Rattle.std.specs.Map.{keys_of}
use Rattle.std.specs.Option.{option_map}
use Rattle.tm_base.specs.Paths.{Names, path_cmp, parent_of}
use Rattle.tm_tree.specs.declared.item.Item.{Item}
use Rattle.tm_tree.specs.declared.item.Item.TheVariants.{Folder, File, Link}
use Rattle.tm_tree.specs.declared.attrs.Attrs.{Attrs}
use Rattle.tm_tree.specs.Items.{is_folder}
use Rattle.tm_tree.specs.Trees.{Tree, IsTree, item_at, is_some_folder, folder_at}
use Rattle.tm_tree.specs.Copies.{LabelledTree, bare}
use Rattle.tm_tree.proofs.AtPaths.{trees_equal}
use Rattle.tm_tree.proofs.CopyProofs.{at_is}
use Rattle.tm_copy.specs.Stamps.{alike}
use Rattle.tm_backup.specs.Laws.{TakenTells, TakenIs}
use Rattle.tm_backup.specs.Taking.{taken, as_taken}

-- ---- what stands where

pub item_at-taken : (prev : LabelledTree) (t : Tree) (p : Names) → item_at (as_taken prev t) p ≡ option_map (taken (item_at (bare prev) p)) (item_at t p)
item_at-taken prev [] p = refl
item_at-taken prev (row ∷ t) p = by_at (is_at (path_cmp p) row.0) refl (item_at-taken prev t p)
  where
    by_at : (b : Bool) → is_at (path_cmp p) row.0 ≡ b → item_at (as_taken prev t) p ≡ option_map (taken (item_at (bare prev) p)) (item_at t p)
        → cond b (Some (taken (item_at (bare prev) row.0) row.1)) (item_at (as_taken prev t) p) ≡ option_map (taken (item_at (bare prev) p)) (cond b (Some row.1) (item_at t p))
    by_at true at rest = ap (λ (q : Names). Some (taken (item_at (bare prev) q) row.1)) (sym ((at_is p row.0).0 at))
    by_at false off rest = rest

-- items that are alike are both files or both links
alike_folder : (d e : Item) → alike d e ≡ true → is_folder d ≡ is_folder e
alike_folder (File a s x) (File b t y) h = refl
alike_folder (Link a s x) (Link b t y) h = refl
alike_folder (Folder a) e h = absurd (cc h)
alike_folder (File a s x) (Folder b) h = absurd (cc h)
alike_folder (File a s x) (Link b t y) h = absurd (cc h)
alike_folder (Link a s x) (Folder b) h = absurd (cc h)
alike_folder (Link a s x) (File b t y) h = absurd (cc h)

-- which item it is taken for
taken_alike : (d e : Item) → alike d e ≡ true → taken (Some d) e ≡ d
taken_alike d e h = ap (λ (b : Bool). if b then d else e) h

taken_other : (d e : Item) → alike d e ≡ false → taken (Some d) e ≡ e
taken_other d e h = ap (λ (b : Bool). if b then d else e) h

taken_folder : (o : Option Item) (e : Item) → is_folder (taken o e) ≡ is_folder e
taken_folder None e = refl
taken_folder (Some d) e = by_alike (alike d e) refl
  where
    by_alike : (b : Bool) → alike d e ≡ b → is_folder (taken (Some d) e) ≡ is_folder e
    by_alike true h = ap is_folder (taken_alike d e h) ∙ alike_folder d e h
    by_alike false h = ap is_folder (taken_other d e h)

pub folder_at-taken : (prev : LabelledTree) (t : Tree) (p : Names) → folder_at (as_taken prev t) p ≡ folder_at t p
folder_at-taken prev t p = ap is_some_folder (item_at-taken prev t p) ∙ by_item (item_at t p)
  where
    by_item : (o : Option Item) → is_some_folder (option_map (taken (item_at (bare prev) p)) o) ≡ is_some_folder o
    by_item None = refl
    by_item (Some e) = taken_folder (item_at (bare prev) p) e

some-taken : (prev : LabelledTree) (t : Tree) (p : Names) → is_some (item_at (as_taken prev t) p) ≡ is_some (item_at t p)
some-taken prev t p = ap is_some (item_at-taken prev t p) ∙ by_item (item_at t p)
  where
    by_item : (o : Option Item) → is_some (option_map (taken (item_at (bare prev) p)) o) ≡ is_some o
    by_item None = refl
    by_item (Some e) = refl

-- a folder is taken as it is
pub taken_at_folder : (prev : LabelledTree) (t : Tree) (p : Names) (a : Attrs) → item_at t p ≡ Some (Folder a) → item_at (as_taken prev t) p ≡ Some (Folder a)
taken_at_folder prev t p a is = item_at-taken prev t p ∙ ap (option_map (taken (item_at (bare prev) p))) is ∙ by_was (item_at (bare prev) p)
  where
    by_was : (o : Option Item) → Some (taken o (Folder a)) ≡ Some (Folder a)
    by_was None = refl
    by_was (Some (Folder b)) = refl
    by_was (Some (File b s x)) = refl
    by_was (Some (Link b s x)) = refl

-- ---- it is a tree

keys-taken : (prev : LabelledTree) (t : Tree) → keys_of (as_taken prev t) ≡ keys_of t
keys-taken prev [] = refl
keys-taken prev (row ∷ t) = ap (λ (ks : List Names). row.0 ∷ ks) (keys-taken prev t)

pub taken_tree : (prev : LabelledTree) (t : Tree) → IsTree t → IsTree (as_taken prev t)
taken_tree prev t tree = record {
  in_order = subst (λ (ks : List Names). IsStrictlySortedBy path_cmp ks) (sym (keys-taken prev t)) tree.in_order;
  rooted = folder_at-taken prev t [] ∙ tree.rooted;
  placed = λ p below there. folder_at-taken prev t (parent_of p) ∙ tree.placed p below (sym (some-taken prev t p) ∙ there);
}

-- ---- stamps tell

pub taken_tells : TakenTells
taken_tells prev t p d e was is same = by_item (item_at t p) (sym (item_at-taken prev t p ∙ ap (λ o. option_map (taken o) (item_at t p)) was) ∙ is)
  where
    by_alike : (x : Item) (b : Bool) → alike d x ≡ b → Some (taken (Some d) x) ≡ Some e → d ≡ e
    by_alike x true h is = let it : taken (Some d) x ≡ e = cc is in sym (taken_alike d x h) ∙ it
    by_alike x false h is =
        let it : taken (Some d) x ≡ e = cc is in
        let its : x ≡ e = sym (taken_other d x h) ∙ it in
        absurd (let no = ap (alike d) its in cc (h, same, no))

    by_item : (o : Option Item) → option_map (taken (Some d)) o ≡ Some e → d ≡ e
    by_item None is = absurd (cc is)
    by_item (Some x) is = by_alike x (alike d x) refl is

pub taken_is : TakenIs
taken_is prev t tree tells = trees_equal (as_taken prev t) t (taken_tree prev t tree).in_order tree.in_order (λ p. item_at-taken prev t p ∙ by_item p (item_at t p) refl)
  where
    by_alike : (p : Names) (d e : Item) → item_at (bare prev) p ≡ Some d → item_at t p ≡ Some e → (b : Bool) → alike d e ≡ b → taken (Some d) e ≡ e
    by_alike p d e was is true h = taken_alike d e h ∙ tells p d e was is h
    by_alike p d e was is false h = taken_other d e h

    by_was : (p : Names) (e : Item) → item_at t p ≡ Some e → (o : Option Item) → item_at (bare prev) p ≡ o → taken o e ≡ e
    by_was p e is None was = refl
    by_was p e is (Some d) was = by_alike p d e was is (alike d e) refl

    by_item : (p : Names) (o : Option Item) → item_at t p ≡ o → option_map (taken (item_at (bare prev) p)) o ≡ o
    by_item p None is = refl
    by_item p (Some e) is = ap Some (by_was p e is (item_at (bare prev) p) refl)
