-- Nodes that are the base's where nothing changed make the labelled copy.
use Rattle.std.proofs.Common.{◌≡◌, ℕ, Bool, true, false, cond, ◌&&◌, List, [], ◌∷◌, ◌++◌, refl, sym, ap, ◌∙◌, T, subst, append_assoc, append-nil, Option, Some, None, is_some, if◌then◌else◌}
use Rattle.std.specs.declared.cmp.Ordering.TheVariants.{Less}
use Rattle.std.specs.Option.{option_map}
use Rattle.std.specs.BTreeMap.{is_at}
use Rattle.std.specs.FinMap.Entries.{find, same_entries, is_sorted}
use Rattle.std.specs.FinMap.Entries as sorted
use Rattle.std.specs.List.Sorted.{IsStrictlySortedBy}
use Rattle.tm_base.specs.Paths.{Names, path_cmp}
use Rattle.tm_tree.specs.declared.item.Item.{Item}
use Rattle.tm_tree.specs.declared.item.Labelled.{Labelled}
use Rattle.tm_tree.specs.declared.node.NodeRow.{NodeRow}
use Rattle.tm_tree.specs.Trees.{Tree, at, item_at, IsTree}
use Rattle.tm_tree.specs.Copies.{LabelledTree, bare, label_or, with_labels, copied_label, copy, is_same_at}
use Rattle.tm_tree.proofs.Order.{InOrder, AllPaths, path_total}
use Rattle.tm_tree.proofs.AtPaths.{path_exact}
use Rattle.tm_tree.proofs.CopyProofs.{at_is, in_order_labelled}
use Rattle.tm_tree.proofs.TreesKept.{nothing_beneath}
use Rattle.tm_graph.specs.Nodes.{Nodes, node, Descends}
use Rattle.tm_graph.specs.Trees.{and_then, child_of, number_at, rows_of}
use Rattle.tm_graph.proofs.PlaceAt.{rows_at, value_is}
use Rattle.tm_copy.specs.Copying.{with_label, tree_under, node_under, IsOwn, AreNodesOf, NodesAreCopy}
use Rattle.tm_graph.proofs.PlaceOrder.{rows_in_order}
use Rattle.tm_copy.proofs.Shared.{under, same_decides, same_beneath, item_at-bare, prefix_self}
use Rattle.tm_copy.proofs.Ways.{not_both, number_there, number_here, number_at-append}

-- ---- labelled rows in order are told by what stands at each path

both_hold : (a b : Bool) → T a → T b → T (a && b)
both_hold true b p q = q
both_hold false b p q = absurd p

none_in_order : InOrder {X = Labelled} []
unfolding IsStrictlySortedBy
none_in_order = tt

module _ {X : Type 0} where
  find_is : (t : List (Names × X)) (q : Names) → find path_cmp q t ≡ at t q
  find_is [] q = refl
  find_is (row ∷ t) q = ap (cond (is_at (path_cmp q) row.0) (Some row.1)) (find_is t q)

  below_is : (p : Names) (t : List (Names × X)) → AllPaths (λ q. path_cmp p q ≡ Less) t → T (sorted.below_all path_cmp p t)
  below_is p [] h = tt
  below_is p (row ∷ t) h = rw h.0 (below_is p t h.1)

  sorted_is : (t : List (Names × X)) → InOrder t → T (is_sorted path_cmp t)
  unfolding IsStrictlySortedBy
  sorted_is [] h = tt
  sorted_is (row ∷ t) h = both_hold _ _ (below_is row.0 t h.0) (sorted_is t h.1)

  pub rows_equal : (t u : List (Names × X)) → InOrder t → InOrder u → ((p : Names) → at t p ≡ at u p) → t ≡ u
  rows_equal t u h g is = same_entries path_cmp path_total path_exact t u (sorted_is t h) (sorted_is u g) (λ p. find_is t p ∙ is p ∙ sym (find_is u p))

-- ---- a copy at a path

abbrev labels_at : (Names → ℕ) → Names → Option Item → Option Labelled
labels_at f p None = None
labels_at f p (Some e) = Some (with_label (f p) e)

at-labels : (f : Names → ℕ) (t : Tree) (p : Names) → at (with_labels f t) p ≡ labels_at f p (item_at t p)
at-labels f [] p = refl
at-labels f (row ∷ t) p =
    elim (is_at (path_cmp p) row.0) as (λ b. is_at (path_cmp p) row.0 ≡ b → cond b (Some (with_label (f row.0) row.1)) (at (with_labels f t) p) ≡ labels_at f p (cond b (Some row.1) (item_at t p))) [
      | true ↦ λ here. ap (λ (x : Names). Some (with_label (f x) row.1)) (sym ((at_is p row.0).0 here))
      | false ↦ λ off. at-labels f t p
    ] refl

-- a base's item with its label
whole : (o : Option Labelled) (k : ℕ) (e : Item) → option_map (λ (l : Labelled). l.item) o ≡ Some e → o ≡ Some (with_label (label_or o k) e)
whole None k e h = absurd (cc h)
whole (Some l) k e h = let same : l.item ≡ e = cc h in ap (λ (i : Item). Some (with_label l.label i)) same

-- ---- the base

module _ (v : ℕ → NodeRow → Labelled) (h : Nodes) (d : Descends h) where
  abbrev read : ℕ → Option Labelled
  read m = option_map (v m) (node h m)

  pub prev_order : (base : Option ℕ) → InOrder (tree_under v h base)
  prev_order None = none_in_order
  prev_order (Some b) = rows_in_order v h d b

  pub prev_at : (base : Option ℕ) (p : Names) → at (tree_under v h base) p ≡ and_then (node_under h base p) read
  prev_at None p = refl
  prev_at (Some b) p = rows_at h d v b p ∙ value_is v h b p

  -- the base's node, where the base has an item
  pub base_has : (base : Option ℕ) (p : Names) → is_some (item_at (bare (tree_under v h base)) p) ≡ true → is_some (node_under h base p) ≡ true
  base_has base p t = by_node (node_under h base p) (sym (ap is_some (item_at-bare (tree_under v h base) p ∙ ap (option_map (λ (l : Labelled). l.item)) (prev_at base p))) ∙ t)
    where
      by_node : (o : Option ℕ) → is_some (option_map (λ (l : Labelled). l.item) (and_then o read)) ≡ true → is_some o ≡ true
      by_node None t = t
      by_node (Some m) t = refl

  pub under_there : (base : Option ℕ) (p : Names) (m : ℕ) → node_under h base p ≡ Some m → is_some (node h m) ≡ true
  under_there None p m e = absurd (cc e)
  under_there (Some b) p m e = number_there h b m p e

  -- where the base has no item, it has no node
  pub base_lacks : (base : Option ℕ) (p : Names) → item_at (bare (tree_under v h base)) p ≡ None → node_under h base p ≡ None
  base_lacks base p none = by_node (node_under h base p) (λ m e. under_there base p m e) (sym (item_at-bare (tree_under v h base) p ∙ ap (option_map (λ (l : Labelled). l.item)) (prev_at base p)) ∙ none)
    where
      by_there : (o : Option NodeRow) (m : ℕ) → is_some o ≡ true → option_map (λ (l : Labelled). l.item) (option_map (v m) o) ≡ None → ⊥
      by_there None m t e = cc
      by_there (Some row) m t e = cc

      by_node : (o : Option ℕ) → ((m : ℕ) → o ≡ Some m → is_some (node h m) ≡ true) → option_map (λ (l : Labelled). l.item) (and_then o read) ≡ None → o ≡ None
      by_node None f e = refl
      by_node (Some m) f e = absurd (by_there (node h m) m (f m refl) e)

  -- beneath the base's node stand the base's nodes
  pub under_append : (base : Option ℕ) (p q : Names) → node_under h base (p ++ q) ≡ and_then (node_under h base p) (λ m. number_at h m q)
  under_append None p q = refl
  under_append (Some b) p q = number_at-append h b p q

-- ---- the nodes

-- what the nodes beneath a root are, path by path
pub record Makes (v : ℕ → NodeRow → Labelled) (h : Nodes) (k : ℕ) (base : Option ℕ) (now : Tree) (root : ℕ) : Type 0 where
  pub absent : (p : Names) → item_at now p ≡ None → number_at h root p ≡ None
  pub shared : (p : Names) → is_some (item_at now p) ≡ true → is_same_at (tree_under v h base) now p ≡ true → number_at h root p ≡ node_under h base p
  pub own : (p : Names) (e : Item) → item_at now p ≡ Some e → is_same_at (tree_under v h base) now p ≡ false → and_then (number_at h root p) (λ m. option_map (v m) (node h m)) ≡ Some (with_label k e)

module _ (v : ℕ → NodeRow → Labelled) (h : Nodes) (k : ℕ) (base : Option ℕ) (now : Tree) (d : Descends h) (tree : IsTree now) where
  abbrev prev : LabelledTree
  prev = tree_under v h base

  order : InOrder prev
  order = prev_order v h d base

  same_item : (p : Names) → is_same_at prev now p ≡ true → item_at (bare prev) p ≡ item_at now p
  same_item p same = (same_decides prev now p order tree.in_order).0 same p (prefix_self p)

  module _ (root : ℕ) (m : Makes v h k base now root) where
    copy_there : (p : Names) (e : Item) → item_at now p ≡ Some e → (b : Bool) → is_same_at prev now p ≡ b → and_then (number_at h root p) (read v h d) ≡ Some (with_label (if b then label_or (at prev p) k else k) e)
    copy_there p e is true same =
        ap (λ o. and_then o (read v h d)) (m.shared p (ap is_some is) same) ∙ sym (prev_at v h d base p)
        ∙ whole (at prev p) k e (sym (item_at-bare prev p) ∙ same_item p same ∙ is)
    copy_there p e is false other = m.own p e is other

    copy_at : (p : Names) → at (rows_of v h root) p ≡ at (copy k prev now) p
    copy_at p = rows_at h d v root p ∙ value_is v h root p ∙ by_item (item_at now p) refl ∙ sym (at-labels (copied_label k prev now) now p)
      where
        by_item : (o : Option Item) → item_at now p ≡ o → and_then (number_at h root p) (read v h d) ≡ labels_at (copied_label k prev now) p (item_at now p)
        by_item None e = ap (λ o. and_then o (read v h d)) (m.absent p e) ∙ sym (ap (labels_at (copied_label k prev now) p) e)
        by_item (Some e) is = copy_there p e is (is_same_at prev now p) refl ∙ sym (ap (labels_at (copied_label k prev now) p) is)

    pub rows_are_copy : rows_of v h root ≡ copy k prev now
    rows_are_copy = rows_equal (rows_of v h root) (copy k prev now) (rows_in_order v h d root) (in_order_labelled (copied_label k prev now) now tree.in_order) copy_at

  -- ---- nodes by path

  module _ (stands : Names → Option ℕ) (are : AreNodesOf v h k base now stands) where
    -- what stands is there
    stands_there : (p : Names) (n : ℕ) → stands p ≡ Some n → is_some (node h n) ≡ true
    stands_there p n e = by_item (item_at now p) refl
      where
        by_same : (x : Item) → item_at now p ≡ Some x → (b : Bool) → is_same_at prev now p ≡ b → is_some (node h n) ≡ true
        by_same x is true same = under_there v h d base p n (sym (are.shared p (ap is_some is) same) ∙ e)
        by_same x is false other = let own = are.own p x is other in let same : own.number ≡ n = cc (own.here, e) in subst (λ k. is_some (node h k) ≡ true) same (ap is_some own.there)

        by_item : (o : Option Item) → item_at now p ≡ o → is_some (node h n) ≡ true
        by_item None none = let gone = are.absent p none in absurd (cc (gone, e))
        by_item (Some x) is = by_same x is (is_same_at prev now p) refl

    -- where nothing stands, there is no item
    no_item : (p : Names) → stands p ≡ None → item_at now p ≡ None
    no_item p e = by_item (item_at now p) refl
      where
        by_same : (x : Item) → item_at now p ≡ Some x → (b : Bool) → is_same_at prev now p ≡ b → ⊥
        by_same x is true same =
            let has : is_some (node_under h base p) ≡ true = base_has v h d base p (ap is_some (same_item p same ∙ is)) in
            let lacks : node_under h base p ≡ None = sym (are.shared p (ap is_some is) same) ∙ e in
            not_both (node_under h base p) lacks has
        by_same x is false other = let own = are.own p x is other in cc (own.here, e)

        by_item : (o : Option Item) → item_at now p ≡ o → item_at now p ≡ None
        by_item None none = none
        by_item (Some x) is = absurd (by_same x is (is_same_at prev now p) refl)

    -- beneath the base's node, where all is as it was
    beneath_base : (p rest : Names) (n : ℕ) → stands p ≡ Some n → is_some (item_at now p) ≡ true → is_same_at prev now p ≡ true → number_at h n rest ≡ stands (p ++ rest)
    beneath_base p rest n e t same =
        sym (under_append v h d base p rest ∙ ap (λ o. and_then o (λ m. number_at h m rest)) (sym (are.shared p t same) ∙ e))
        ∙ by_item (item_at now (p ++ rest)) refl
      where
        still : is_same_at prev now (p ++ rest) ≡ true
        still = same_beneath prev now p rest order tree.in_order same

        by_item : (o : Option Item) → item_at now (p ++ rest) ≡ o → node_under h base (p ++ rest) ≡ stands (p ++ rest)
        by_item None none = base_lacks v h d base (p ++ rest) (same_item (p ++ rest) still ∙ none) ∙ sym (are.absent (p ++ rest) none)
        by_item (Some x) is = sym (are.shared (p ++ rest) (ap is_some is) still)

    beneath_own : (x : List ℕ) (rest p : Names) (n : ℕ) (e : Item) → IsOwn v h k stands p e → stands p ≡ Some n
        → ((m : ℕ) → stands (p ++ x ∷ []) ≡ Some m → number_at h m rest ≡ stands ((p ++ x ∷ []) ++ rest)) → number_at h n (x ∷ rest) ≡ stands (p ++ x ∷ rest)
    beneath_own x rest p n e own here deeper =
        let same : own.number ≡ n = cc (own.here, here) in
        ap (λ (o : Option NodeRow). and_then (child_of o x) (λ m. number_at h m rest)) (ap (node h) (sym same) ∙ own.there)
        ∙ ap (λ o. and_then o (λ m. number_at h m rest)) (own.entries x)
        ∙ by_child (stands (p ++ x ∷ [])) refl ∙ ap stands (append_assoc p (x ∷ []) rest)
      where
        by_child : (o : Option ℕ) → stands (p ++ x ∷ []) ≡ o → and_then (stands (p ++ x ∷ [])) (λ m. number_at h m rest) ≡ stands ((p ++ x ∷ []) ++ rest)
        by_child None none = ap (λ o. and_then o (λ m. number_at h m rest)) none
            ∙ sym (are.absent ((p ++ x ∷ []) ++ rest) (nothing_beneath now (p ++ x ∷ []) ((p ++ x ∷ []) ++ rest) tree (no_item (p ++ x ∷ []) none) (under (p ++ x ∷ []) rest)))
        by_child (Some m) is = ap (λ o. and_then o (λ m. number_at h m rest)) is ∙ deeper m is

    -- the way down from what stands comes to what stands
    stands_down : (rest p : Names) (n : ℕ) → stands p ≡ Some n → number_at h n rest ≡ stands (p ++ rest)
    stands_down [] p n e = number_here h n (stands_there p n e) ∙ sym e ∙ ap stands (sym (append-nil p))
    stands_down (x ∷ rest) p n e = by_item x rest p n e (λ m. stands_down rest (p ++ x ∷ []) m)
      where
        by_same : (x : List ℕ) (rest p : Names) (n : ℕ) → stands p ≡ Some n → ((m : ℕ) → stands (p ++ x ∷ []) ≡ Some m → number_at h m rest ≡ stands ((p ++ x ∷ []) ++ rest))
            → (e : Item) → item_at now p ≡ Some e → (b : Bool) → is_same_at prev now p ≡ b → number_at h n (x ∷ rest) ≡ stands (p ++ x ∷ rest)
        by_same x rest p n here f e is true same = beneath_base p (x ∷ rest) n here (ap is_some is) same
        by_same x rest p n here f e is false other = beneath_own x rest p n e (are.own p e is other) here f

        by_item : (x : List ℕ) (rest p : Names) (n : ℕ) → stands p ≡ Some n → ((m : ℕ) → stands (p ++ x ∷ []) ≡ Some m → number_at h m rest ≡ stands ((p ++ x ∷ []) ++ rest)) → number_at h n (x ∷ rest) ≡ stands (p ++ x ∷ rest)
        by_item x rest p n here f = by_option (item_at now p) refl
          where
            by_option : (o : Option Item) → item_at now p ≡ o → number_at h n (x ∷ rest) ≡ stands (p ++ x ∷ rest)
            by_option None none = let gone = are.absent p none in absurd (cc (gone, here))
            by_option (Some e) is = by_same x rest p n here f e is (is_same_at prev now p) refl

    makes : (root : ℕ) → stands [] ≡ Some root → Makes v h k base now root
    makes root e = record {
      absent = λ p none. stands_down p [] root e ∙ are.absent p none;
      shared = λ p t same. stands_down p [] root e ∙ are.shared p t same;
      own = λ p x is other.
          let own = are.own p x is other in
          ap (λ o. and_then o (read v h d)) (stands_down p [] root e ∙ own.here) ∙ ap (option_map (v own.number)) own.there ∙ ap Some own.reads;
    }

pub nodes_are_copy : NodesAreCopy
nodes_are_copy v h k base now stands root d tree are e = rows_are_copy v h k base now d tree root (makes v h k base now d tree stands are root e)
