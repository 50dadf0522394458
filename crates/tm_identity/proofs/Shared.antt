-- Unique bytes by following counts.
use Rattle.std.proofs.Common.{zero, suc, ◌≡◌, ℕ, ◌+◌, ◌<◌, ◌≤◌, Bool, true, false, cond, Option, Some, None, is_some, List, [], ◌∷◌, ◌++◌, filter, refl, sym, ap, ◌∙◌, arith, subst, ⊎_elim, sum_by, ◌==◌, ◌&&◌, append_assoc, append-nil, if◌then◌else◌}
use Rattle.std.specs.declared.cmp.Ordering.TheVariants.{Less, Equal, Greater}
use Rattle.std.specs.declared.cmp.Ordering.{Ordering}
use Rattle.std.specs.Ordering.{nat_cmp, is_eq, ordering_reverse}
use Rattle.std.specs.BTreeMap.{is_at}
use Rattle.std.specs.Cmp.Lexicographic.{slice_cmp, nat_list_cmp_total}
use Rattle.std.specs.List.{AllByRecursion}
use Rattle.std.specs.Option.{option_map, unwrap_or}
use Rattle.std.proofs.lemmas.Bool.{cases_eq, cases_lt}
use Rattle.std.proofs.lemmas.Bool.Decides.{nat_tests}
use Rattle.std.proofs.lemmas.List.Sums.{sum_by-cons, sum_by-append, sum_by-le-sum_by}
use Rattle.tm_base.specs.Paths.{Names, is_prefix, same_name}
use Rattle.tm_tree.specs.declared.node.Child.{Child}
use Rattle.tm_tree.specs.declared.node.NodeRow.{NodeRow}
use Rattle.tm_graph.specs.Nodes.{Nodes, node, entries_of, names, links_of}
use Rattle.tm_graph.specs.Walks.{child_named}
use Rattle.tm_tree.specs.declared.item.Labelled.{Labelled}
use Rattle.tm_tree.specs.Copies.{LabelledTree}
use Rattle.tm_graph.specs.Trees.{child_of, rows_of, rows_to, rows_with, under}
use Rattle.tm_graph.proofs.ChildLemmas.{RiseEach, rise_each}
use Rattle.tm_identity.specs.Sums.{is_elsewhere, item_length, unique_bytes}
use Rattle.tm_identity.specs.Stores.{IsStore, IsUnderRoot, Labels, label_of, trees_of}
use Rattle.tm_identity.specs.Stored.{node_length, Lengths}
use Rattle.tm_identity.specs.Uniques.{only_with, only_to, only_from, only_at}
use Rattle.tm_identity.proofs.Others.{each, same_sums, no_sum, children, any_tree, tree_any, part, total, total-children}
use Rattle.tm_graph.proofs.PlaceAt.{of_children, lower, name_is, cmp_decides}
use Rattle.tm_identity.proofs.Parents.{there_at, child_named_by}
use Rattle.tm_identity.proofs.Counted.{holds_it, held}
use Rattle.tm_identity.proofs.Alone.{Elsewhere, own, among, as_root, elsewhere_down, shared, shares, root_shared, root_shares, child_here}

none_there : (o : Option NodeRow) → o ≡ None → is_some o ≡ true → ⊥
none_there None e t = cc
none_there (Some row) e t = cc

module _ (v : ℕ → NodeRow → Labelled) (g : Nodes) (before after : List ℕ) (r : ℕ) (labels_read : Labels v g) (lengths_read : Lengths v g) (st : IsStore g (before ++ r ∷ after)) where
  abbrev all : List ℕ
  all = before ++ r ∷ after

  abbrev rest : List ℕ
  rest = before ++ after

  abbrev Else : Names → ℕ → Type 0
  Else p n = Elsewhere g before after r st p n

  abbrev At : Names → ℕ → Type 0
  At p n = IsUnderRoot g all r p n

  held_else : (p : Names) (n : ℕ) → At p n → is_elsewhere (trees_of v g rest) (label_of g n) p ≡ true → Else p n
  held_else p n at h =
      let t = any_tree v g (label_of g n) p rest h in
      (t.0, (t.1, (holds_it v g all labels_read st t.0 n r p (among g before after r st t.0 t.1) at t.2).1))

  else_held : (p : Names) (n : ℕ) → Else p n → is_elsewhere (trees_of v g rest) (label_of g n) p ≡ true
  else_held p n e = tree_any v g (label_of g n) p rest e.0 e.1.0 (held v g all labels_read st e.0 n p (as_root g before after r st e.0 n p e.1))

  -- ---- sums over rows at p

  abbrev mine : Names → Labelled → ℕ
  mine p row = part v (λ q row. item_length row) g rest p row

  abbrev all_of : LabelledTree → Names → ℕ
  all_of t p = total v (λ q row. item_length row) g rest t p

  abbrev tree_to : ℕ → ℕ → LabelledTree
  tree_to depth n = rows_to v depth g n

  total-node : (depth n : ℕ) (p : Names) (row : NodeRow) → node g n ≡ Some row → all_of (tree_to (suc depth) n) p ≡ mine p (v n row) + sum_by (λ c. all_of (tree_to depth c.node) (p ++ c.name ∷ [])) (entries_of row)
  total-node depth n p row e =
      ap (λ o. all_of (rows_with v o n (tree_to depth)) p) e
      ∙ omega (arith, sum_by-cons (λ (row : Names × Labelled). mine (p ++ row.0) row.1) ([], v n row) (of_children (tree_to depth) (entries_of row)), total-children v (λ q row. item_length row) g rest (tree_to depth) p (entries_of row), ap (λ (q : Names). mine q (v n row)) (append-nil p))

  label_is : (n : ℕ) (row : NodeRow) → node g n ≡ Some row → label_of g n ≡ row.label
  label_is n row e = ap (λ o. unwrap_or (option_map (λ (row : NodeRow). row.label) o) 0) e

  part_else : (p : Names) (n : ℕ) (row : NodeRow) → node g n ≡ Some row → Else p n → mine p (v n row) ≡ 0
  part_else p n row e h = ap (λ b. if b then 0 else item_length (v n row)) (ap (λ k. is_elsewhere (trees_of v g rest) k p) (labels_read n row e ∙ sym (label_is n row e)) ∙ else_held p n h)

  part_alone : (p : Names) (n : ℕ) (row : NodeRow) → node g n ≡ Some row → At p n → (Else p n → ⊥) → mine p (v n row) ≡ node_length row
  part_alone p n row e at h = by_test (is_elsewhere (trees_of v g rest) (v n row).label p) (λ t. h (held_else p n at (ap (λ k. is_elsewhere (trees_of v g rest) k p) (label_is n row e ∙ sym (labels_read n row e)) ∙ t)))
    where
      by_test : (b : Bool) → (b ≡ true → ⊥) → (if b then 0 else item_length (v n row)) ≡ node_length row
      by_test true f = absurd (f refl)
      by_test false f = lengths_read n row e

  -- where a node stands elsewhere, nothing at or beneath it counts
  none_else : (depth n : ℕ) (p : Names) → Else p n → At p n → all_of (tree_to depth n) p ≡ 0
  none_else zero n p h at = refl
  none_else (suc depth) n p h at = by_node (node g n) refl (λ row e. omega (
    arith,
    total-node depth n p row e,
    part_else p n row e h,
    no_sum (λ c. all_of (tree_to depth c.node) (p ++ c.name ∷ [])) (entries_of row) (each (entries_of row)
        (λ c child. none_else depth c.node (p ++ c.name ∷ []) (elsewhere_down g before after r st p n at c.node c.name child h) (child_here g before after r st p n at c.node c.name child)) (children g st.graph n row e)),
  ))
    where
      by_node : (o : Option NodeRow) → node g n ≡ o → ((row : NodeRow) → node g n ≡ Some row → all_of (tree_to (suc depth) n) p ≡ 0) → all_of (tree_to (suc depth) n) p ≡ 0
      by_node None e f = ap (λ o. all_of (rows_with v o n (tree_to depth)) p) e
      by_node (Some row) e f = f row e

  -- a node that stands elsewhere exactly where it has a second link
  abbrev Told : Names → ℕ → Type 0
  Told p n = (Else p n → 1 < links_of g n) × (1 < links_of g n → Else p n)

  told_child : (p : Names) (n c : ℕ) (x : List ℕ) → At p n → (Else p n → ⊥) → child_of (node g n) x ≡ Some c → Told (p ++ x ∷ []) c
  told_child p n c x at alone child = (shared g before after r st p n at c x child alone, shares g before after r st p n at c x child)

  -- what counts at and beneath a node is what its links tell
  counted : (depth n : ℕ) (p : Names) → At p n → Told p n → all_of (tree_to depth n) p ≡ only_to depth g n
  counted zero n p at told = refl
  counted (suc depth) n p at told = by_node (node g n) refl (λ row e alone.
      omega (
        arith,
        total-node depth n p row e,
        part_alone p n row e at alone,
        same_sums (λ c. all_of (tree_to depth c.node) (p ++ c.name ∷ [])) (λ c. only_to depth g c.node) (entries_of row)
            (each (entries_of row) (λ c child. counted depth c.node (p ++ c.name ∷ []) (child_here g before after r st p n at c.node c.name child) (told_child p n c.node c.name at alone child)) (children g st.graph n row e)),
      ))
    where
      links_is : (row : NodeRow) → node g n ≡ Some row → links_of g n ≡ row.links
      links_is row e = ap (λ o. unwrap_or (option_map (λ (row : NodeRow). row.links) o) 0) e

      by_node : (o : Option NodeRow) → node g n ≡ o
          → ((row : NodeRow) → node g n ≡ Some row → (Else p n → ⊥) → all_of (tree_to (suc depth) n) p ≡ node_length row + sum_by (λ c. only_to depth g c.node) (entries_of row))
          → all_of (tree_to (suc depth) n) p ≡ only_with o (only_to depth g)
      by_node None e f = ap (λ o. all_of (rows_with v o n (tree_to depth)) p) e
      by_node (Some row) e f = ⊎_elim
          (λ one. let t : (row.links == 1) ≡ true = grind (arith, nat_tests) in
          f row e (λ h. no (told.0 h) one) ∙ sym (ap (λ b. if b then node_length row + sum_by (λ c. only_to depth g c.node) (entries_of row) else 0) t))
          (λ ne. let t : (row.links == 1) ≡ false = grind (arith, nat_tests) in
          none_else (suc depth) n p (told.1 (omega (arith, links_is row e, st.linked n (ap is_some e), ne))) at ∙ sym (ap (λ b. if b then node_length row + sum_by (λ c. only_to depth g c.node) (entries_of row) else 0) t))
          (cases_eq row.links 1)
        where
          no : 1 < links_of g n → row.links ≡ 1 → ⊥
          no l one = omega (arith, l, one, links_is row e)

  told_root : Told [] r
  told_root = (root_shared g before after r st, root_shares g before after r st)

  pub unique_root : all_of (rows_of v g r) [] ≡ only_to (suc r) g r
  unique_root = counted (suc r) r [] (own g before after r st) told_root

  -- ---- down a path

  abbrev within : LabelledTree → Names → Names → ℕ
  within t q p = sum_by (λ row. if is_prefix p row.0 then mine (q ++ row.0) row.1 else 0) t

  within-under : (x c : List ℕ) (t : LabelledTree) (q p : Names) → within (under c t) q (x ∷ p) ≡ (if same_name x c then within t (q ++ c ∷ []) p else 0)
  within-under x c t q p = by_name (same_name x c) refl t
    where
      by_name : (b : Bool) → same_name x c ≡ b → (t : LabelledTree) → within (under c t) q (x ∷ p) ≡ (if b then within t (q ++ c ∷ []) p else 0)
      by_name true e [] = refl
      by_name false e [] = refl
      by_name true e (row ∷ t) =
          let head : (if is_prefix (x ∷ p) (c ∷ row.0) then mine (q ++ c ∷ row.0) row.1 else 0) ≡ (if is_prefix p row.0 then mine ((q ++ c ∷ []) ++ row.0) row.1 else 0)
          = ap (λ b. if b && is_prefix p row.0 then mine (q ++ c ∷ row.0) row.1 else 0) e ∙ ap (λ (r : Names). if is_prefix p row.0 then mine r row.1 else 0) (sym (append_assoc q (c ∷ []) row.0)) in
          omega (
            arith,
            head,
            by_name true e t,
            sum_by-cons (λ (row : Names × Labelled). if is_prefix (x ∷ p) row.0 then mine (q ++ row.0) row.1 else 0) (c ∷ row.0, row.1) (under c t),
            sum_by-cons (λ (row : Names × Labelled). if is_prefix p row.0 then mine ((q ++ c ∷ []) ++ row.0) row.1 else 0) row t,
          )
      by_name false e (row ∷ t) =
          let head : (if is_prefix (x ∷ p) (c ∷ row.0) then mine (q ++ c ∷ row.0) row.1 else 0) ≡ 0 = ap (λ b. if b && is_prefix p row.0 then mine (q ++ c ∷ row.0) row.1 else 0) e in
          omega (arith, head, by_name false e t, sum_by-cons (λ (row : Names × Labelled). if is_prefix (x ∷ p) row.0 then mine (q ++ row.0) row.1 else 0) (c ∷ row.0, row.1) (under c t))

  flipped : (x c : List ℕ) → same_name x c ≡ is_at (slice_cmp nat_cmp x) c
  flipped x c = name_is c x ∙ flip (slice_cmp nat_cmp c x) (slice_cmp nat_cmp x c) (nat_list_cmp_total.antisymm c x)
    where
      flip : (a b : Ordering) → a ≡ ordering_reverse b → is_eq a ≡ is_eq b
      flip a b e = ap is_eq e ∙ by b
        where
          by : (b : Ordering) → is_eq (ordering_reverse b) ≡ is_eq b
          by Less = refl
          by Equal = refl
          by Greater = refl

  module _ (rows : ℕ → LabelledTree) (q : Names) (x : List ℕ) (p : Names) where
    split : (c : Child) (es : List Child) → within (of_children rows (c ∷ es)) q (x ∷ p) ≡ (if same_name x c.name then within (rows c.node) (q ++ c.name ∷ []) p else 0) + within (of_children rows es) q (x ∷ p)
    split c es = omega (arith, sum_by-append (λ (row : Names × Labelled). if is_prefix (x ∷ p) row.0 then mine (q ++ row.0) row.1 else 0) (under c.name (rows c.node)) (of_children rows es), within-under x c.name (rows c.node) q p)

    none_within : (es : List Child) → AllByRecursion (λ other. slice_cmp nat_cmp x other.name ≡ Less) es → within (of_children rows es) q (x ∷ p) ≡ 0
    none_within [] h = refl
    none_within (c ∷ es) h =
        let no : same_name x c.name ≡ false = flipped x c.name ∙ ap is_eq h.0 in
        split c es ∙ ap (λ b. (if b then within (rows c.node) (q ++ c.name ∷ []) p else 0) + within (of_children rows es) q (x ∷ p)) no ∙ omega (arith, none_within es h.1)

    within-children : (es : List Child) → RiseEach es → within (of_children rows es) q (x ∷ p) ≡ only_from (child_named es x) (λ m. within (rows m) (q ++ x ∷ []) p)
    within-children [] rise = refl
    within-children (c ∷ es) rise = split c es ∙ ap (λ b. (if b then within (rows c.node) (q ++ c.name ∷ []) p else 0) + within (of_children rows es) q (x ∷ p)) (flipped x c.name ∙ sym (name_is x c.name))
        ∙ by_name (same_name c.name x) (sym (name_is x c.name)) (within-children es rise.1)
      where
        by_name : (b : Bool) → is_at (slice_cmp nat_cmp x) c.name ≡ b → within (of_children rows es) q (x ∷ p) ≡ only_from (child_named es x) (λ m. within (rows m) (q ++ x ∷ []) p)
            → (if b then within (rows c.node) (q ++ c.name ∷ []) p else 0) + within (of_children rows es) q (x ∷ p) ≡ only_from (cond b (Some c.node) (child_named es x)) (λ m. within (rows m) (q ++ x ∷ []) p)
        by_name true e f =
            let same : c.name ≡ x = (cmp_decides x c.name).0 e in
            let above = subst (λ (y : List ℕ). AllByRecursion (λ other. slice_cmp nat_cmp y other.name ≡ Less) es) same rise.0 in
            omega (arith, none_within es above, ap (λ (y : List ℕ). within (rows c.node) (q ++ y ∷ []) p) same)
        by_name false e f = omega (arith, f)

  only_depth : (c d n : ℕ) → n < c → n < d → only_to c g n ≡ only_to d g n
  only_depth zero d n h k = absurd (omega arith)
  only_depth (suc c) zero n h k = absurd (omega arith)
  only_depth (suc c) (suc d) n h k = elim (node g n) as (λ o. node g n ≡ o → only_with o (only_to c g) ≡ only_with o (only_to d g)) [
    | None ↦ λ e. refl
    | Some row ↦ λ e. ap (λ s. if row.links == 1 then node_length row + s else 0)
        (same_sums (λ child. only_to c g child.node) (λ child. only_to d g child.node) (entries_of row)
        (each (entries_of row) (λ child low. only_depth c d child.node (omega arith) (omega arith)) (lower n (entries_of row) (λ q le. sym (ap (names q) e) ∙ st.graph.falls n q le))))
  ] refl

  at_most : (t : LabelledTree) (q p : Names) → within t q p ≤ all_of t q
  at_most t q p = sum_by-le-sum_by (λ (row : Names × Labelled). if is_prefix p row.0 then mine (q ++ row.0) row.1 else 0) (λ row. mine (q ++ row.0) row.1) t (λ row. by_test (is_prefix p row.0) (mine (q ++ row.0) row.1))
    where
      by_test : (b : Bool) (n : ℕ) → (if b then n else 0) ≤ n
      by_test true n = omega arith
      by_test false n = omega arith

  path_counted : (p : Names) (depth n : ℕ) (q : Names) → n < depth → At q n → Told q n → within (tree_to depth n) q p ≡ only_at g n p
  path_counted [] depth n q l at told = counted depth n q at told ∙ only_depth depth (suc n) n l (omega arith)
  path_counted (x ∷ p) zero n q l at told = absurd (omega arith)
  path_counted (x ∷ p) (suc depth) n q l at told = by_node (node g n) refl (λ m child alone low. path_counted p depth m (q ++ x ∷ []) low (child_here g before after r st q n at m x child) (told_child q n m x at alone child))
    where
      by_node : (o : Option NodeRow) → node g n ≡ o
          → ((m : ℕ) → child_of (node g n) x ≡ Some m → (Else q n → ⊥) → m < depth → within (tree_to depth m) (q ++ x ∷ []) p ≡ only_at g m p)
          → within (tree_to (suc depth) n) q (x ∷ p) ≡ (if links_of g n == 1 then only_from (child_of (node g n) x) (λ m. only_at g m p) else 0)
      by_node None e f = let t = there_at g all st r n q at in absurd (gone t)
        where
          gone : is_some (node g n) ≡ true → ⊥
          gone t = none_there (node g n) e t
      by_node (Some row) e f = ⊎_elim
          (λ one. let t : (links_of g n == 1) ≡ true = grind (arith, nat_tests) in
          whole ∙ by_child (child_of (node g n) x) refl (λ h. no (told.0 h) one) ∙ sym (ap (λ b. if b then only_from (child_of (node g n) x) (λ m. only_at g m p) else 0) t))
          (λ ne. let t : (links_of g n == 1) ≡ false = grind (arith, nat_tests) in
          let none = none_else (suc depth) n q (told.1 (omega (arith, st.linked n (ap is_some e), ne))) at in
          omega (arith, none, at_most (tree_to (suc depth) n) q (x ∷ p)) ∙ sym (ap (λ b. if b then only_from (child_of (node g n) x) (λ m. only_at g m p) else 0) t))
          (cases_eq (links_of g n) 1)
        where
          no : 1 < links_of g n → links_of g n ≡ 1 → ⊥
          no l one = omega (arith, l, one)

          whole : within (tree_to (suc depth) n) q (x ∷ p) ≡ only_from (child_of (node g n) x) (λ m. within (tree_to depth m) (q ++ x ∷ []) p)
          whole = ap (λ o. within (rows_with v o n (tree_to depth)) q (x ∷ p)) e
              ∙ omega (arith, sum_by-cons (λ (row : Names × Labelled). if is_prefix (x ∷ p) row.0 then mine (q ++ row.0) row.1 else 0) ([], v n row) (of_children (tree_to depth) (entries_of row)))
              ∙ within-children (tree_to depth) q x p (entries_of row) (rise_each (entries_of row) (st.graph.rises n row e))
              ∙ sym (ap (λ o. only_from (child_of o x) (λ m. within (tree_to depth m) (q ++ x ∷ []) p)) e)

          below : (m : ℕ) → child_of (node g n) x ≡ Some m → m < depth
          below m child = ⊎_elim (λ less. omega arith) (λ more. absurd (omega (arith, st.graph.falls n m more, child_named_by g all st n m x child))) (cases_lt m n)

          by_child : (o : Option ℕ) → child_of (node g n) x ≡ o → (Else q n → ⊥) → only_from o (λ m. within (tree_to depth m) (q ++ x ∷ []) p) ≡ only_from o (λ m. only_at g m p)
          by_child None c alone = refl
          by_child (Some m) c alone = f m c alone (below m c)

  sum-filter : (f : Names × Labelled → ℕ) (b : Names × Labelled → Bool) (t : LabelledTree) → sum_by f (filter b t) ≡ sum_by (λ row. if b row then f row else 0) t
  sum-filter f b [] = refl
  sum-filter f b (row ∷ t) = by_test (b row) (sum-filter f b t) ∙ sym (sum_by-cons (λ row. if b row then f row else 0) row t)
    where
      by_test : (c : Bool) → sum_by f (filter b t) ≡ sum_by (λ row. if b row then f row else 0) t → sum_by f (cond c (row ∷ filter b t) (filter b t)) ≡ (if c then f row else 0) + sum_by (λ row. if b row then f row else 0) t
      by_test true h = omega (arith, h, sum_by-cons f row (filter b t))
      by_test false h = omega (arith, h)

  pub unique_is : (p : Names) → unique_bytes (trees_of v g rest) (rows_of v g r) p ≡ only_at g r p
  unique_is p = sum-filter (λ row. mine row.0 row.1) (λ row. is_prefix p row.0) (rows_of v g r) ∙ path_counted p (suc r) r [] (omega arith) (own g before after r st) told_root
