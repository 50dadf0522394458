-- What is as it was, path by path.
use Rattle.std.proofs.Common.{◌≡◌, ℕ, Bool, true, false, cond, List, [], ◌∷◌, ◌++◌, drop, length, refl, sym, ap, ◌∙◌, subst, append_assoc, append-nil, Option, Some, None}
use Rattle.std.specs.Bool.{Decides}
use Rattle.std.specs.Option.{option_map}
use Rattle.std.specs.Map.{keys_of}
use Rattle.std.specs.BTreeMap.{is_at}
use Rattle.std.specs.List.Sorted.{IsStrictlySortedBy}
use Rattle.std.proofs.lemmas.Map.Entries.{lookup-filter-keys}
use Rattle.tm_base.specs.Paths.{Names, is_prefix, path_cmp}
use Rattle.tm_base.proofs.PathLemmas.{prefix_is, is_prefix_of_append}
use Rattle.tm_tree.specs.declared.item.Item.{Item}
use Rattle.tm_tree.specs.declared.item.Labelled.{Labelled}
use Rattle.tm_tree.specs.Trees.{Tree, at, item_at, beneath}
use Rattle.tm_tree.specs.Copies.{LabelledTree, bare, is_same_at}
use Rattle.tm_tree.proofs.Order.{InOrder, in_order_filter}
use Rattle.tm_tree.proofs.AtPaths.{trees_equal}
use Rattle.tm_tree.proofs.CopyProofs.{same_tree_decides, at_is, is_prefix_trans}
use Rattle.tm_copy.specs.Sharing.{SameByEntries}

-- both have the same at p and beneath it
abbrev pub SameBeneath : (Names → Option Item) → (Names → Option Item) → Names → Type 0
SameBeneath f g p = (q : Names) → is_prefix p q ≡ true → f q ≡ g q

pub under : (p rest : Names) → is_prefix p (p ++ rest) ≡ true
under p rest = is_prefix_of_append p (p ++ rest) rest refl

pub prefix_self : (p : Names) → is_prefix p p ≡ true
prefix_self p = is_prefix_of_append p p [] (sym (append-nil p))

-- from p down
beneath_parts : (f g : Names → Option Item) (p : Names) → SameBeneath f g p → (f p ≡ g p) × ((n : List ℕ) → SameBeneath f g (p ++ n ∷ []))
beneath_parts f g p h = (h p (prefix_self p), λ n q on. h q (is_prefix_trans p (p ++ n ∷ []) q (under p (n ∷ [])) on))

beneath_whole : (f g : Names → Option Item) (p : Names) → f p ≡ g p → ((n : List ℕ) → SameBeneath f g (p ++ n ∷ [])) → SameBeneath f g p
beneath_whole f g p here each q on = by_rest (drop (length p) q) (prefix_is p q on)
  where
    by_rest : (rest : Names) → q ≡ p ++ rest → f q ≡ g q
    by_rest [] e = subst (λ (x : Names). f x ≡ g x) (sym (e ∙ append-nil p)) here
    by_rest (n ∷ rest) e = each n q (is_prefix_of_append (p ++ n ∷ []) q rest (e ∙ sym (append_assoc p (n ∷ []) rest)))

pub item_at-beneath : (t : Tree) (p q : Names) → item_at (beneath t p) q ≡ cond (is_prefix p q) (item_at t q) None
item_at-beneath t p q = lookup-filter-keys (is_at (path_cmp q)) (is_prefix p) (is_prefix p q) (λ k e. ap (is_prefix p) (sym ((at_is q k).0 e))) t

-- ---- a tree without its labels

pub bare_beneath : (prev : LabelledTree) (p : Names) → bare (beneath prev p) ≡ beneath (bare prev) p
bare_beneath [] p = refl
bare_beneath (row ∷ t) p = elim (is_prefix p row.0) as (λ b. bare (cond b (row ∷ beneath t p) (beneath t p)) ≡ cond b ((row.0, row.1.item) ∷ beneath (bare t) p) (beneath (bare t) p)) [ true ↦ ap (λ (u : Tree). (row.0, row.1.item) ∷ u) (bare_beneath t p) | false ↦ bare_beneath t p ]

bare_keys : (t : LabelledTree) → keys_of (bare t) ≡ keys_of t
bare_keys [] = refl
bare_keys (row ∷ t) = ap (λ (l : List Names). row.0 ∷ l) (bare_keys t)

pub bare_order : (t : LabelledTree) → InOrder t → InOrder (bare t)
bare_order t h = subst (λ (ks : List Names). IsStrictlySortedBy path_cmp ks) (sym (bare_keys t)) h

pub item_at-bare : (t : LabelledTree) (q : Names) → item_at (bare t) q ≡ option_map (λ (l : Labelled). l.item) (at t q)
item_at-bare [] q = refl
item_at-bare (row ∷ t) q = elim (is_at (path_cmp q) row.0) as (λ b. cond b (Some row.1.item) (item_at (bare t) q) ≡ option_map (λ (l : Labelled). l.item) (cond b (Some row.1) (at t q))) [ true ↦ refl | false ↦ item_at-bare t q ]

-- ---- the test

pub same_decides : (prev : LabelledTree) (now : Tree) (p : Names) → InOrder prev → InOrder now → Decides (is_same_at prev now p) (SameBeneath (item_at (bare prev)) (item_at now) p)
same_decides prev now p h g = (
  λ e q on.
      let same : beneath (bare prev) p ≡ beneath now p = sym (bare_beneath prev p) ∙ (same_tree_decides _ _).0 e in
      sym (item_at-beneath (bare prev) p q ∙ ap (λ (b : Bool). cond b (item_at (bare prev) q) None) on) ∙ ap (λ (t : Tree). item_at t q) same ∙ item_at-beneath now p q ∙ ap (λ (b : Bool). cond b (item_at now q) None) on,
  λ same. (same_tree_decides _ _).1 (bare_beneath prev p ∙ trees_equal (beneath (bare prev) p) (beneath now p) (in_order_filter (λ row. is_prefix p row.0) (bare prev) (bare_order prev h)) (in_order_filter (λ row. is_prefix p row.0) now g)
      (λ q. item_at-beneath (bare prev) p q ∙ by_prefix q (is_prefix p q) refl same ∙ sym (item_at-beneath now p q))),
)
  where
    by_prefix : (q : Names) (b : Bool) → is_prefix p q ≡ b → SameBeneath (item_at (bare prev)) (item_at now) p → cond b (item_at (bare prev) q) None ≡ cond b (item_at now q) None
    by_prefix q true on same = same q on
    by_prefix q false off same = refl

-- beneath what is as it was, all is
pub same_beneath : (prev : LabelledTree) (now : Tree) (p rest : Names) → InOrder prev → InOrder now → is_same_at prev now p ≡ true → is_same_at prev now (p ++ rest) ≡ true
same_beneath prev now p rest h g e = (same_decides prev now (p ++ rest) h g).1 (λ q on. (same_decides prev now p h g).0 e q (is_prefix_trans p (p ++ rest) q (under p rest) on))

pub same_by_entries : SameByEntries
same_by_entries prev now p h g = (
  λ e. let parts = beneath_parts (item_at (bare prev)) (item_at now) p ((same_decides prev now p h g).0 e) in (parts.0, λ n. (same_decides prev now (p ++ n ∷ []) h g).1 (parts.1 n)),
  λ parts. (same_decides prev now p h g).1 (beneath_whole (item_at (bare prev)) (item_at now) p parts.0 (λ n. (same_decides prev now (p ++ n ∷ []) h g).0 (parts.1 n))),
)
