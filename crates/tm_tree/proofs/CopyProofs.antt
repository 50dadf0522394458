-- The laws of the labelled copy.
use Rattle.std.proofs.Common.{◌≡◌, ℕ, true, false, cond, ◌&&◌, List, [], ◌∷◌, ◌++◌, length, drop, refl, sym, ap, ◌∙◌, subst, append_assoc, Option, suc, get_or, arith, Some}
use Rattle.std.specs.Bool.{Decides}
use Rattle.std.specs.Cmp.Lexicographic.{pointwise_decides}
use Rattle.std.specs.List.{All}
use Rattle.std.specs.List.Sorted.{IsStrictlySortedBy}
use Rattle.std.specs.Map.{lookup, keys_of}
use Rattle.std.specs.BTreeMap.{is_at}
use Rattle.tm_tree.specs.declared.item.Item.{Item}
use Rattle.tm_tree.specs.declared.item.Labelled.{Labelled}
use Rattle.tm_tree.specs.Items.{same_item}
use Rattle.tm_base.specs.Paths.{Names, path_cmp, same_path, is_prefix}
use Rattle.tm_tree.specs.Trees.{Tree, at, beneath}
use Rattle.tm_tree.specs.Copies.{LabelledTree, bare, same_tree, label_or, with_labels, copy, copied_label}
use Rattle.std.specs.Ordering.{is_eq}
use Rattle.std.specs.Cmp.{eq_by_cmp_equiv, Equal-is, tied_itself}
use Rattle.std.proofs.lemmas.Map.Entries.{lookup-filter-keys}
use Rattle.tm_tree.proofs.AtPaths.{path_exact}
use Rattle.std.proofs.lemmas.Map.Views.{lookup-from_Contains}
use Rattle.std.proofs.lemmas.Map.Keys.{IsDistinct-from_sorted}
use Rattle.std.proofs.lemmas.List.{get_or_default}
use Rattle.tm_tree.proofs.Order.{path_total, InOrder}
use Rattle.tm_base.proofs.PathLemmas.{same_path_decides, prefix_is, is_prefix_of_append}
use Rattle.tm_tree.proofs.SameItems.{both, onto, same_item_decides}

-- whatever the labels are
pub bare_labelled : (label_at : Names → ℕ) (t : Tree) → bare (with_labels label_at t) ≡ t
bare_labelled label_at [] = refl
bare_labelled label_at (row ∷ t) = ap (λ (u : Tree). row ∷ u) (bare_labelled label_at t)

same_row : (a b : Names × Item) → Decides (same_path a.0 b.0 && same_item a.1 b.1) (a ≡ b)
same_row a b = onto (λ (h : (a.0 ≡ b.0) × (a.1 ≡ b.1)). λ i. (h.0 i, h.1 i)) (λ e. (ap (λ (x : Names × Item). x.0) e, ap (λ (x : Names × Item). x.1) e)) (both (same_path_decides a.0 b.0) (same_item_decides a.1 b.1))

pub same_tree_decides : (t u : Tree) → Decides (same_tree t u) (t ≡ u)
same_tree_decides = pointwise_decides same_row

-- a query finds its own path alone
pub at_is : (p q : Names) → Decides (is_at (path_cmp p) q) (p ≡ q)
at_is p q = (λ h. path_exact p q ((Equal-is (path_cmp p q)).0 h), λ e. subst (λ (x : Names). is_eq (path_cmp p x) ≡ true) e (ap is_eq (tied_itself path_total p)))

-- ---- prefixes

pub is_prefix_trans : (p q r : Names) → is_prefix p q ≡ true → is_prefix q r ≡ true → is_prefix p r ≡ true
is_prefix_trans p q r h g =
    is_prefix_of_append p r (drop (length p) q ++ drop (length q) r)
    (prefix_is q r g ∙ ap (λ (x : Names). x ++ drop (length q) r) (prefix_is p q h) ∙ append_assoc p (drop (length p) q) (drop (length q) r))

-- what stands beneath q stands beneath each path above it
pub beneath_within : {X : Type 0} (t : List (Names × X)) (p q : Names) → is_prefix p q ≡ true → beneath (beneath t p) q ≡ beneath t q
beneath_within [] p q h = refl
beneath_within {X} (row ∷ t) p q h =
    let rest : beneath (beneath t p) q ≡ beneath t q = beneath_within t p q h in
    elim (is_prefix q row.0) as (λ c. is_prefix q row.0 ≡ c → beneath (cond (is_prefix p row.0) (row ∷ beneath t p) (beneath t p)) q ≡ cond c (row ∷ beneath t q) (beneath t q)) [
      | true ↦ λ e. rw (is_prefix_trans p q row.0 h e) (rw e (ap (λ (u : List (Names × X)). row ∷ u) rest))
      | false ↦ λ e. elim (is_prefix p row.0) as (λ b. beneath (cond b (row ∷ beneath t p) (beneath t p)) q ≡ beneath t q) [ true ↦ rw e rest | false ↦ rest ]
    ] refl

bare_beneath : (prev : LabelledTree) (p : Names) → bare (beneath prev p) ≡ beneath (bare prev) p
bare_beneath [] p = refl
bare_beneath (row ∷ t) p = elim (is_prefix p row.0) as (λ b. bare (cond b (row ∷ beneath t p) (beneath t p)) ≡ cond b ((row.0, row.1.item) ∷ beneath (bare t) p) (beneath (bare t) p)) [ true ↦ ap (λ (u : Tree). (row.0, row.1.item) ∷ u) (bare_beneath t p) | false ↦ bare_beneath t p ]

-- where all at and beneath p is as it was, each label there is as it was
pub copied_label-within : (k : ℕ) (prev : LabelledTree) (now : Tree) (p q : Names) → is_prefix p q ≡ true → same_tree (bare (beneath prev p)) (beneath now p) ≡ true → copied_label k prev now q ≡ label_or (lookup (is_at (path_cmp q)) prev) k
copied_label-within k prev now p q h same =
    let at_there = (same_tree_decides _ _).0 same in
    let at_q = bare_beneath prev q ∙ sym (beneath_within (bare prev) p q h) ∙ ap (λ (t : Tree). beneath t q) (sym (bare_beneath prev p) ∙ at_there) ∙ beneath_within now p q h in
    rw ((same_tree_decides _ _).1 at_q)

-- ---- a copy over an equal tree

label_kept : (l : Labelled) (o : Option Labelled) (k : ℕ) → o ≡ Some l → label_or o k ≡ l.label
label_kept l o k e = ap (λ (x : Option Labelled). label_or x k) e

row_kept : (k : ℕ) (prev : LabelledTree) (row : Names × Labelled) → lookup (is_at (path_cmp row.0)) prev ≡ Some row.1 → copied_label k prev (bare prev) row.0 ≡ row.1.label
row_kept k prev row e = rw ((same_tree_decides (bare (beneath prev row.0)) _).1 (bare_beneath prev row.0)) (label_kept row.1 _ k e)

-- each row of a tree in order is found at its path
pub rows_found : (es : LabelledTree) → IsStrictlySortedBy path_cmp (keys_of es) → All (λ row. lookup (is_at (path_cmp row.0)) es ≡ Some row.1) es
rows_found es h i d below =
    let row : Names × Labelled = get_or es i d in
    lookup-from_Contains (eq_by_cmp_equiv path_total) row.0 row.1 es (IsDistinct-from_sorted path_cmp (keys_of es) h) (i, below, get_or_default es i row d below)

relabelled : (f : Names → ℕ) (t : LabelledTree) → All (λ row. f row.0 ≡ row.1.label) t → with_labels f (bare t) ≡ t
relabelled f [] h = refl
relabelled f (row ∷ t) h = λ i. (row.0, record { label = h 0 row (omega arith) i; item = row.1.item }) ∷ relabelled f t (λ j d below. h (suc j) d (omega arith)) i

-- a copy over an equal tree is that tree
pub copy_over_same : (k : ℕ) (prev : LabelledTree) → IsStrictlySortedBy path_cmp (keys_of prev) → copy k prev (bare prev) ≡ prev
copy_over_same k prev h = relabelled (copied_label k prev (bare prev)) prev (λ i d below. row_kept k prev (get_or prev i d) (rows_found prev h i d below))

-- labels leave the order
keys_labelled : (f : Names → ℕ) (t : Tree) → keys_of (with_labels f t) ≡ keys_of t
keys_labelled f [] = refl
keys_labelled f (row ∷ t) = ap (λ (ks : List Names). row.0 ∷ ks) (keys_labelled f t)

pub in_order_labelled : (f : Names → ℕ) (t : Tree) → InOrder t → InOrder (with_labels f t)
in_order_labelled f t h = subst (λ ks. IsStrictlySortedBy path_cmp ks) (sym (keys_labelled f t)) h

-- ---- a copy, folder by folder: what a copy has beneath p is the copy of what is beneath p

labels_beneath : (f : Names → ℕ) (t : Tree) (p : Names) → beneath (with_labels f t) p ≡ with_labels f (beneath t p)
labels_beneath f [] p = refl
labels_beneath f (row ∷ t) p =
    let l : Names × Labelled = (row.0, record { label = f row.0; item = row.1 }) in
    elim (is_prefix p row.0) as (λ b. cond b (l ∷ beneath (with_labels f t) p) (beneath (with_labels f t) p) ≡ with_labels f (cond b (row ∷ beneath t p) (beneath t p))) [
      | true ↦ ap (λ (u : LabelledTree). l ∷ u) (labels_beneath f t p)
      | false ↦ labels_beneath f t p
    ]

-- equal labels on the rows beneath p
same_labels : (f g : Names → ℕ) (p : Names) → ((q : Names) → is_prefix p q ≡ true → f q ≡ g q) → (t : Tree) → with_labels f (beneath t p) ≡ with_labels g (beneath t p)
same_labels f g p is [] = refl
same_labels f g p is (row ∷ t) =
    elim (is_prefix p row.0) as (λ b. is_prefix p row.0 ≡ b → with_labels f (cond b (row ∷ beneath t p) (beneath t p)) ≡ with_labels g (cond b (row ∷ beneath t p) (beneath t p))) [
      | true ↦ λ e i. (row.0, record { label = is row.0 e i; item = row.1 }) ∷ same_labels f g p is t i
      | false ↦ λ e. same_labels f g p is t
    ] refl

label_beneath : (k : ℕ) (prev : LabelledTree) (now : Tree) (p q : Names) → is_prefix p q ≡ true → copied_label k prev now q ≡ copied_label k (beneath prev p) (beneath now p) q
label_beneath k prev now p q h =
    let olds : beneath (beneath prev p) q ≡ beneath prev q = beneath_within prev p q h in
    let news : beneath (beneath now p) q ≡ beneath now q = beneath_within now p q h in
    let label : at (beneath prev p) q ≡ at prev q = lookup-filter-keys (is_at (path_cmp q)) (is_prefix p) true (λ r e. subst (λ (x : Names). is_prefix p x ≡ true) ((at_is q r).0 e) h) prev in
    rw (olds, news, label)

pub beneath-copy : (k : ℕ) (prev : LabelledTree) (now : Tree) (p : Names) → beneath (copy k prev now) p ≡ copy k (beneath prev p) (beneath now p)
beneath-copy k prev now p =
    labels_beneath (copied_label k prev now) now p
    ∙ same_labels (copied_label k prev now) (copied_label k (beneath prev p) (beneath now p)) p (λ q h. label_beneath k prev now p q h) now
