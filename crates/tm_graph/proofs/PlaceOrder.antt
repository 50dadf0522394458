-- The rows of a node stand in path order.
use Rattle.std.proofs.Common.{◌≡◌, ℕ, zero, suc, Some, None, List, [], ◌∷◌, ◌++◌, map, refl, ap, ◌∙◌}
use Rattle.std.specs.declared.cmp.Ordering.TheVariants.{Less}
use Rattle.std.specs.Ordering.{ordering_then}
use Rattle.std.specs.Cmp.{tied_itself}
use Rattle.std.specs.Cmp.Lexicographic.{nat_list_cmp_total}
use Rattle.std.specs.List.{flat_map, AllByRecursion}
use Rattle.std.specs.List.Sorted.{IsStrictlySortedBy}
use Rattle.tm_base.specs.Paths.{Names, path_cmp}
use Rattle.tm_tree.specs.declared.node.Child.{Child}
use Rattle.tm_tree.specs.declared.node.NodeRow.{NodeRow}
use Rattle.tm_tree.proofs.Order.{InOrder, AllPaths}
use Rattle.tm_graph.specs.Nodes.{Nodes, node, entries_of, Descends, NamesRise}
use Rattle.tm_graph.specs.Trees.{under, rows_with, rows_to, rows_of}

module _ {X : Type 0} where
  all_under : (P : Names → Type 0) (name : List ℕ) (t : List (Names × X)) → AllPaths (λ q. P (name ∷ q)) t → AllPaths P (under name t)
  all_under P name [] h = tt
  all_under P name (row ∷ t) h = (h.0, all_under P name t h.1)

  each_path : {P Q : Names → Type 0} (t : List (Names × X)) → ((q : Names) → P q → Q q) → AllPaths P t → AllPaths Q t
  each_path [] f h = tt
  each_path (row ∷ t) f h = (f row.0 h.0, each_path t f h.1)

  every_path : {Q : Names → Type 0} (t : List (Names × X)) → ((q : Names) → Q q) → AllPaths Q t
  every_path [] f = tt
  every_path (row ∷ t) f = (f row.0, every_path t f)

  in_order_under : (name : List ℕ) (t : List (Names × X)) → InOrder t → InOrder (under name t)
  unfolding IsStrictlySortedBy
  in_order_under name [] h = tt
  in_order_under name (row ∷ t) h = (
    all_under (λ q. path_cmp (name ∷ row.0) q ≡ Less) name t (each_path t (λ q l. ap (λ o. ordering_then o (path_cmp row.0 q)) (tied_itself nat_list_cmp_total name) ∙ l) h.0),
    in_order_under name t h.1,
  )

  all_append : (P : Names → Type 0) (t u : List (Names × X)) → AllPaths P t → AllPaths P u → AllPaths P (t ++ u)
  all_append P [] u h g = g
  all_append P (row ∷ t) u h g = (h.0, all_append P t u h.1 g)

  -- rows that all stand below others
  in_order_append : (t u : List (Names × X)) → InOrder t → InOrder u → AllPaths (λ p. AllPaths (λ q. path_cmp p q ≡ Less) u) t → InOrder (t ++ u)
  unfolding IsStrictlySortedBy
  in_order_append [] u h g b = g
  in_order_append (row ∷ t) u h g b = (all_append _ t u h.0 b.0, in_order_append t u h.1 g b.1)

  -- ---- entries by rising name

  module _ (rows : ℕ → List (Names × X)) where
    abbrev of_children : List Child → List (Names × X)
    of_children es = flat_map (λ child. under child.name (rows child.node)) es

    -- all rows of an entry stand beneath its name
    all_of_children : (P : Names → Type 0) (es : List Child) → AllByRecursion (λ name. (q : Names) → P (name ∷ q)) (map (λ child. child.name) es) → AllPaths P (of_children es)
    all_of_children P [] h = tt
    all_of_children P (child ∷ es) h = all_append P (under child.name (rows child.node)) (of_children es)
        (all_under P child.name (rows child.node) (every_path (rows child.node) h.0)) (all_of_children P es h.1)

    each_name : {P Q : List ℕ → Type 0} (names : List (List ℕ)) → ((name : List ℕ) → P name → Q name) → AllByRecursion P names → AllByRecursion Q names
    each_name [] f h = tt
    each_name (name ∷ names) f h = (f name h.0, each_name names f h.1)

    children_in_order : (es : List Child) → NamesRise es → ((n : ℕ) → InOrder (rows n)) → InOrder (of_children es)
    unfolding IsStrictlySortedBy
    children_in_order [] h each = tt
    children_in_order (child ∷ es) h each =
        in_order_append (under child.name (rows child.node)) (of_children es)
        (in_order_under child.name (rows child.node) (each child.node))
        (children_in_order es h.1 each)
        (all_under (λ p. AllPaths (λ q. path_cmp p q ≡ Less) (of_children es)) child.name (rows child.node) (every_path (rows child.node) (λ p.
        all_of_children (λ q. path_cmp (child.name ∷ p) q ≡ Less) es (each_name (map (λ c. c.name) es) (λ name less q. ap (λ o. ordering_then o (path_cmp p q)) less) h.0))))

  module _ (v : ℕ → NodeRow → X) (g : Nodes) (is : Descends g) where
    every_name : {Q : List ℕ → Type 0} (names : List (List ℕ)) → ((name : List ℕ) → Q name) → AllByRecursion Q names
    every_name [] f = tt
    every_name (name ∷ names) f = (f name, every_name names f)

    rows_in_order_to : (depth n : ℕ) → InOrder (rows_to v depth g n)
    unfolding IsStrictlySortedBy
    rows_in_order_to zero n = tt
    rows_in_order_to (suc depth) n =
        elim (node g n) as (λ o. node g n ≡ o → InOrder (rows_with v o n (rows_to v depth g))) [
          | None ↦ λ e. tt
          | Some row ↦ λ e. (
            all_of_children (rows_to v depth g) (λ q. path_cmp [] q ≡ Less) (entries_of row) (every_name (map (λ child. child.name) (entries_of row)) (λ name q. refl)),
            children_in_order (rows_to v depth g) (entries_of row) (is.rises n row e) (λ m. rows_in_order_to depth m),
          )
        ] refl

    pub rows_in_order : (n : ℕ) → InOrder (rows_of v g n)
    rows_in_order n = rows_in_order_to (suc n) n
