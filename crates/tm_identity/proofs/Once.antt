-- A sum over identities is the sum over the nodes.
use Rattle.std.proofs.Common.{zero, suc, ◌≡◌, ℕ, ◌+◌, Bool, true, false, cond, not, Option, Some, None, List, [], ◌∷◌, ◌++◌, filter, length, refl, sym, ap, ◌∙◌, arith, subst, nat_eq, sum_by, append-nil, if◌then◌else◌}
use Rattle.std.specs.List.{AllByRecursion, flat_map}
use Rattle.std.specs.Option.{option_map, unwrap_or}
use Rattle.std.specs.Map.{values_of}
use Rattle.std.specs.Set.{is_member}
use Rattle.std.proofs.lemmas.List.Sums.{sum_by-cons, sum_by-append}
use Rattle.tm_base.specs.Paths.{Names}
use Rattle.tm_tree.specs.declared.item.Labelled.{Labelled}
use Rattle.tm_tree.specs.declared.node.Child.{Child}
use Rattle.tm_tree.specs.declared.node.NodeRow.{NodeRow}
use Rattle.tm_tree.specs.Copies.{LabelledTree}
use Rattle.tm_graph.specs.Nodes.{Nodes, node, entries_of}
use Rattle.tm_graph.specs.Trees.{child_of, rows_of, rows_to, rows_with, under}
use Rattle.tm_graph.proofs.PlaceAt.{of_children}
use Rattle.tm_graph.proofs.Taken.{sum-without_all, weight}
use Rattle.tm_identity.specs.Sums.{is_elsewhere, sum_beside, sum_once, sum_over, stored_bytes, identity_count, item_length}
use Rattle.tm_identity.specs.Stores.{IsStore, IsUnderRoot, Labels, label_of, trees_of}
use Rattle.tm_identity.specs.Stored.{Weighs, WeighsAt, Lengths, node_length}
use Rattle.tm_identity.proofs.Parents.{child_stands}
use Rattle.tm_identity.proofs.Counted.{bool_same, holds_it, held}
use Rattle.tm_identity.proofs.Others.{each, children, any_tree, tree_any, part, total, total-under}
use Rattle.tm_identity.proofs.Reach.{nums, nums_with, all_nums, num_stands, stands_num, num_root, root_num, firsts, tail_sub, root_at, head_member, distinct_firsts, covered}

sum-fresh : (w : ℕ → ℕ) (b : ℕ → Bool) (xs : List ℕ) → sum_by w (filter (λ m. not (b m)) xs) ≡ sum_by (λ m. if b m then 0 else w m) xs
sum-fresh w b [] = refl
sum-fresh w b (x ∷ xs) = by_test (b x) (sum-fresh w b xs) ∙ sym (sum_by-cons (λ m. if b m then 0 else w m) x xs)
  where
    by_test : (c : Bool) → sum_by w (filter (λ m. not (b m)) xs) ≡ sum_by (λ m. if b m then 0 else w m) xs → sum_by w (cond (not c) (x ∷ filter (λ m. not (b m)) xs) (filter (λ m. not (b m)) xs)) ≡ (if c then 0 else w x) + sum_by (λ m. if b m then 0 else w m) xs
    by_test true h = omega (arith, h)
    by_test false h = omega (arith, h, sum_by-cons w x (filter (λ m. not (b m)) xs))

module _ (v : ℕ → NodeRow → Labelled) (w : LabelledTree → Names → Labelled → ℕ) (k : NodeRow → ℕ) (g : Nodes) (roots : List ℕ) (labels_read : Labels v g) (st : IsStore g roots) (weighs : WeighsAt v g roots w k) where
  module _ (ss : List ℕ) (sub : (s : ℕ) → is_member nat_eq ss s ≡ true → is_member nat_eq roots s ≡ true) where
    -- a node stands in one of these trees exactly where its number is among theirs
    elsewhere_is : (r n : ℕ) (p : Names) → IsUnderRoot g roots r p n → is_elsewhere (trees_of v g ss) (label_of g n) p ≡ is_member nat_eq (all_nums g ss) n
    elsewhere_is r n p s = bool_same _ _
        (λ h. let t = any_tree v g (label_of g n) p ss h in
        let at = holds_it v g roots labels_read st t.0 n r p (sub t.0 t.1) s t.2 in
        root_num g roots st n ss t.0 t.1 (stands_num g roots st p (suc t.0) t.0 n (omega arith) at.1))
        (λ h. let t = num_root g roots st n ss h in
        let q = num_stands g roots st (suc t.0) t.0 n t.2 in
        let at : IsUnderRoot g roots t.0 q.0 n = (sub t.0 t.1, q.1) in
        let path = st.one_path t.0 r n q.0 p at s in
        tree_any v g (label_of g n) p ss t.0 t.1 (held v g roots labels_read st t.0 n p (subst (λ (w : Names). IsUnderRoot g roots t.0 w n) path at)))

    -- what a node counts
    abbrev counts : ℕ → ℕ
    counts n = if is_member nat_eq (all_nums g ss) n then 0 else weight k g n

    -- ---- what the tree of a root weighs beside these trees

    module _ (r : ℕ) where
      abbrev mine : Names → Labelled → ℕ
      mine p row = part v (w (rows_of v g r)) g ss p row

      abbrev all_of : LabelledTree → Names → ℕ
      all_of t p = total v (w (rows_of v g r)) g ss t p

      total-kids : (rows : ℕ → LabelledTree) (lists : ℕ → List ℕ) (p : Names) (es : List Child) → AllByRecursion (λ c. all_of (rows c.node) (p ++ c.name ∷ []) ≡ sum_by counts (lists c.node)) es
          → all_of (of_children rows es) p ≡ sum_by counts (flat_map (λ (c : Child). lists c.node) es)
      total-kids rows lists p [] h = refl
      total-kids rows lists p (c ∷ es) h =
          omega (
            arith,
            sum_by-append (λ (row : Names × Labelled). mine (p ++ row.0) row.1) (under c.name (rows c.node)) (of_children rows es),
            total-under v (w (rows_of v g r)) g ss c.name (rows c.node) p,
            total-kids rows lists p es h.1,
            h.0,
            sum_by-append counts (lists c.node) (flat_map (λ (c : Child). lists c.node) es),
          )

      total_is : (depth n : ℕ) (p : Names) → IsUnderRoot g roots r p n → all_of (rows_to v depth g n) p ≡ sum_by counts (nums depth g n)
      total_is zero n p s = refl
      total_is (suc depth) n p s = by_node (node g n) refl (λ c x child. total_is depth c (p ++ x ∷ []) (child_stands g roots st r n c p x s child))
        where
          by_node : (o : Option NodeRow) → node g n ≡ o → ((c : ℕ) (x : List ℕ) → child_of (node g n) x ≡ Some c → all_of (rows_to v depth g c) (p ++ x ∷ []) ≡ sum_by counts (nums depth g c))
              → all_of (rows_with v (node g n) n (rows_to v depth g)) p ≡ sum_by counts (nums_with o n (nums depth g))
          by_node None e f = ap (λ o. all_of (rows_with v o n (rows_to v depth g)) p) e
          by_node (Some row) e f =
              let first : mine p (v n row) ≡ counts n = (λ i. if (ap (λ k. is_elsewhere (trees_of v g ss) k p) (labels_read n row e ∙ sym (ap (λ o. unwrap_or (option_map (λ (row : NodeRow). row.label) o) 0) e)) ∙ elsewhere_is r n p s) i then 0 else (weighs r n p row s e ∙ sym (ap (λ o. unwrap_or (option_map k o) 0) e)) i) in
              ap (λ o. all_of (rows_with v o n (rows_to v depth g)) p) e
              ∙ omega (
                arith,
                sum_by-cons (λ (row : Names × Labelled). mine (p ++ row.0) row.1) ([], v n row) (of_children (rows_to v depth g) (entries_of row)),
                ap (λ (q : Names). mine q (v n row)) (append-nil p),
                first,
                total-kids (rows_to v depth g) (nums depth g) p (entries_of row) (each (entries_of row) (λ c child. f c.node c.name child) (children g st.graph n row e)),
                sum_by-cons counts n (flat_map (λ (c : Child). nums depth g c.node) (entries_of row)),
              )

  sums : (rs : List ℕ) → ((s : ℕ) → is_member nat_eq rs s ≡ true → is_member nat_eq roots s ≡ true) → sum_over w (trees_of v g rs) ≡ sum_by (weight k g) (firsts g roots st rs)
  sums [] sub = refl
  sums (r ∷ rs) sub =
      omega (
        arith,
        total_is rs (tail_sub g roots st r rs sub) r (suc r) r [] (root_at g roots st r (sub r (head_member g roots st r rs))),
        sum-fresh (weight k g) (is_member nat_eq (all_nums g rs)) (nums (suc r) g r),
        sums rs (tail_sub g roots st r rs sub),
        sum_by-append (weight k g) (filter (λ m. not (is_member nat_eq (all_nums g rs) m)) (nums (suc r) g r)) (firsts g roots st rs),
      )

  -- a sum over identities is that over nodes
  pub sum_is : sum_over w (trees_of v g roots) ≡ sum_by k (values_of g)
  sum_is = omega (
    arith,
    sums roots (λ s m. m),
    sum-without_all k (firsts g roots st roots) g st.graph.in_order (distinct_firsts g roots st roots (λ s m. m)),
    ap (λ (h : Nodes). sum_by k (values_of h)) (covered g roots st),
  )

-- a weight of items alone is one that looks at no path
pub once_over : (w : Labelled → ℕ) (trees : List LabelledTree) → sum_once w trees ≡ sum_over (λ t p l. w l) trees
once_over w [] = refl
once_over w (t ∷ trees) = ap (λ n. sum_beside w trees t + n) (once_over w trees)

item_sum_is : (v : ℕ → NodeRow → Labelled) (w : Labelled → ℕ) (k : NodeRow → ℕ) (g : Nodes) (roots : List ℕ) → Labels v g → IsStore g roots → Weighs v g w k → sum_once w (trees_of v g roots) ≡ sum_by k (values_of g)
item_sum_is v w k g roots labels st weighs = once_over w (trees_of v g roots) ∙ sum_is v (λ t p l. w l) k g roots labels st (λ r n p row s e. weighs n row e)

ones : (g : Nodes) → sum_by (λ (row : NodeRow). 1) (values_of g) ≡ length g
ones [] = refl
ones (row ∷ g) = omega (arith, sum_by-cons (λ (row : NodeRow). 1) row.1 (values_of g), ones g)

pub stored_is : (v : ℕ → NodeRow → Labelled) (g : Nodes) (roots : List ℕ) → Labels v g → IsStore g roots
    → (Lengths v g → stored_bytes (trees_of v g roots) ≡ sum_by node_length (values_of g)) × (identity_count (trees_of v g roots) ≡ length g)
stored_is v g roots labels st = (
  λ lengths. item_sum_is v item_length node_length g roots labels st lengths,
  item_sum_is v (λ _. 1) (λ _. 1) g roots labels st (λ n row e. refl) ∙ ones g,
)
