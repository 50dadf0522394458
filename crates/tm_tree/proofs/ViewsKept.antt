-- The view of a tree is a tree.
use Rattle.std.proofs.Common.{◌≡◌, Bool, true, false, cond, not, ◌||◌, List, [], ◌∷◌, filter, map, refl, sym, ap, ◌∙◌, Option, None, is_some}
use Rattle.std.proofs.lemmas.Map.Entries.{lookup-filter-keys}
use Rattle.std.specs.BTreeMap.{is_at}
use Rattle.std.specs.Cmp.{first_so}
use Rattle.tm_base.specs.Paths.{Names, path_cmp, is_prefix, is_root, parent_of}
use Rattle.tm_tree.specs.declared.item.Item.{Item}
use Rattle.tm_tree.specs.Contents.{is_fixed}
use Rattle.tm_tree.specs.Items.{is_excluded}
use Rattle.tm_tree.specs.Trees.{Tree, item_at, is_some_folder, IsTree}
use Rattle.tm_tree.specs.Views.{hides, hidden_paths, is_hidden, view}
use Rattle.tm_tree.proofs.CopyProofs.{at_is, is_prefix_trans}
use Rattle.tm_tree.proofs.MovesKept.{above_root, parent_prefix}
use Rattle.tm_tree.proofs.Order.{in_order_filter}
use Rattle.tm_tree.proofs.TreesKept.{clash}

-- the view has what isn't hidden
pub item_at-view : (fixed : List Names) (t : Tree) (q : Names) → item_at (view fixed t) q ≡ cond (not (is_hidden (hidden_paths fixed t) q)) (item_at t q) None
item_at-view fixed t q =
    lookup-filter-keys (is_at (path_cmp q)) (λ r. not (is_hidden (hidden_paths fixed t) r)) (not (is_hidden (hidden_paths fixed t) q))
    (λ r here. ap (λ (x : Names). not (is_hidden (hidden_paths fixed t) x)) (sym ((at_is q r).0 here))) t

-- what is beneath something hidden is hidden
hidden_below : (hidden : List Names) (p q : Names) → is_prefix p q ≡ true → is_hidden hidden p ≡ true → is_hidden hidden q ≡ true
hidden_below [] p q under h = h
hidden_below (over ∷ hidden) p q under h =
    elim (is_prefix over p) as (λ b. is_prefix over p ≡ b → (b || is_hidden hidden p) ≡ true → (is_prefix over q || is_hidden hidden q) ≡ true) [
      | true ↦ λ on _. rw (is_prefix_trans over p q on under)
      | false ↦ λ _ rest. elim (is_prefix over q) as (λ c. (c || is_hidden hidden q) ≡ true) [ true ↦ refl | false ↦ hidden_below hidden p q under rest ]
    ] refl h

not_false : (b : Bool) → not b ≡ true → b ≡ false
not_false true h = cc
not_false false h = refl

-- the root is not hidden
root_shown : (fixed : List Names) (t : Tree) → is_hidden (hidden_paths fixed t) [] ≡ false
root_shown fixed [] = refl
root_shown fixed (row ∷ t) =
    elim (hides fixed row.0 row.1) as (λ b. hides fixed row.0 row.1 ≡ b → is_hidden (map (λ r. r.0) (cond b (row ∷ filter (λ r. hides fixed r.0 r.1) t) (filter (λ r. hides fixed r.0 r.1) t))) [] ≡ false) [
      | true ↦ λ is. rw (above_root row.0 (not_false _ (first_so (not (is_root row.0)) (is_excluded row.1 || is_fixed fixed row.0) is))) (root_shown fixed t)
      | false ↦ λ _. root_shown fixed t
    ] refl

shown_stands : (b : Bool) (o : Option Item) → is_some (cond (not b) o None) ≡ true → (b ≡ false) × (is_some o ≡ true)
shown_stands true o h = absurd (clash h)
shown_stands false o h = (refl, h)

pub view_kept : (fixed : List Names) (t : Tree) → IsTree t → IsTree (view fixed t)
view_kept fixed t h = record {
  in_order = in_order_filter (λ row. not (is_hidden (hidden_paths fixed t) row.0)) t h.in_order;
  rooted = ap is_some_folder (item_at-view fixed t []) ∙ (rw (root_shown fixed t) h.rooted);
  placed = λ q out there.
      let hidden = hidden_paths fixed t in
      let shown : (is_hidden hidden q ≡ false) × (is_some (item_at t q) ≡ true) = shown_stands (is_hidden hidden q) (item_at t q) (sym (ap is_some (item_at-view fixed t q)) ∙ there) in
      let above : is_hidden hidden (parent_of q) ≡ false =
      elim (is_hidden hidden (parent_of q)) as (λ b. is_hidden hidden (parent_of q) ≡ b → b ≡ false) [
        | true ↦ λ on. sym (hidden_below hidden (parent_of q) q (parent_prefix q) on) ∙ shown.0
        | false ↦ λ _. refl
      ] refl in
      ap is_some_folder (item_at-view fixed t (parent_of q)) ∙ (rw above (h.placed q out shown.1));
}
