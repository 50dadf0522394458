-- No more bytes are unique than are stored.
use Rattle.std.proofs.Common.{zero, suc, ◌≡◌, ℕ, ◌+◌, ◌<◌, ◌≤◌, Bool, true, false, Option, Some, None, List, [], ◌∷◌, ◌++◌, refl, ap, arith, nat_eq, sum_by, ◌==◌, if◌then◌else◌}
use Rattle.std.specs.List.{flat_map}
use Rattle.std.specs.Map.{values_of}
use Rattle.std.specs.Option.{option_map, unwrap_or}
use Rattle.std.specs.Set.{is_member}
use Rattle.std.proofs.lemmas.List.Sums.{sum_by-cons, sum_by-append}
use Rattle.tm_base.specs.Paths.{Names}
use Rattle.tm_tree.specs.declared.node.Child.{Child}
use Rattle.tm_tree.specs.declared.node.NodeRow.{NodeRow}
use Rattle.tm_graph.specs.Nodes.{Nodes, node, entries_of, links_of}
use Rattle.tm_graph.specs.Trees.{child_of}
use Rattle.tm_graph.proofs.Taken.{sum-without_all, weight}
use Rattle.tm_identity.specs.Stores.{IsStore, IsUnderRoot}
use Rattle.tm_identity.specs.Stored.{node_length}
use Rattle.tm_identity.specs.Uniques.{only_with, only_to, only_from, only_of, only_at}
use Rattle.tm_identity.proofs.Parents.{child_stands}
use Rattle.tm_identity.proofs.Reach.{nums, nums_with, distinct_nums, root_at}

-- what counts at and beneath a node is at most what stands there
kids-le : (g : Nodes) (depth : ℕ) → ((n : ℕ) → only_to depth g n ≤ sum_by (weight node_length g) (nums depth g n)) → (es : List Child)
    → sum_by (λ (c : Child). only_to depth g c.node) es ≤ sum_by (weight node_length g) (flat_map (λ (c : Child). nums depth g c.node) es)
kids-le g depth f [] = omega arith
kids-le g depth f (c ∷ es) =
    omega (
      arith,
      sum_by-cons (λ (c : Child). only_to depth g c.node) c es,
      sum_by-append (weight node_length g) (nums depth g c.node) (flat_map (λ (c : Child). nums depth g c.node) es),
      f c.node,
      kids-le g depth f es,
    )

only-le : (g : Nodes) (depth n : ℕ) → only_to depth g n ≤ sum_by (weight node_length g) (nums depth g n)
only-le g zero n = omega arith
only-le g (suc depth) n =
    let below = kids-le g depth (λ m. only-le g depth m) in
    elim (node g n) as (λ o. node g n ≡ o → only_with o (only_to depth g) ≤ sum_by (weight node_length g) (nums_with o n (nums depth g))) [
      | None ↦ λ e. omega arith
      | Some row ↦ λ e. by_test (row.links == 1) row
          (omega (arith, sum_by-cons (weight node_length g) n (flat_map (λ (c : Child). nums depth g c.node) (entries_of row)), ap (λ o. unwrap_or (option_map node_length o) 0) e, below (entries_of row)))
    ] refl
  where
    by_test : (b : Bool) (row : NodeRow) → node_length row + sum_by (λ (c : Child). only_to depth g c.node) (entries_of row) ≤ sum_by (weight node_length g) (nums_with (Some row) n (nums depth g))
        → (if b then node_length row + sum_by (λ (c : Child). only_to depth g c.node) (entries_of row) else 0) ≤ sum_by (weight node_length g) (nums_with (Some row) n (nums depth g))
    by_test true row l = l
    by_test false row l = omega arith

module _ (g : Nodes) (roots : List ℕ) (st : IsStore g roots) where
  only_of-le : (r n : ℕ) (q : Names) → IsUnderRoot g roots r q n → only_of g n ≤ sum_by node_length (values_of g)
  only_of-le r n q s =
      let low : n < suc n = omega arith in
      omega (arith, only-le g (suc n) n, sum-without_all node_length (nums (suc n) g n) g st.graph.in_order (distinct_nums g roots st (suc n) r n q low s))

  only_at-le : (p : Names) (r n : ℕ) (q : Names) → IsUnderRoot g roots r q n → only_at g n p ≤ sum_by node_length (values_of g)
  only_at-le [] r n q s = only_of-le r n q s
  only_at-le (x ∷ p) r n q s = by_test (links_of g n == 1) (by_child (child_of (node g n) x) refl (λ m child. only_at-le p r m (q ++ x ∷ []) (child_stands g roots st r n m q x s child)))
    where
      by_child : (o : Option ℕ) → child_of (node g n) x ≡ o → ((m : ℕ) → child_of (node g n) x ≡ Some m → only_at g m p ≤ sum_by node_length (values_of g)) → only_from o (λ m. only_at g m p) ≤ sum_by node_length (values_of g)
      by_child None e f = omega arith
      by_child (Some m) e f = f m e

      by_test : (b : Bool) → only_from (child_of (node g n) x) (λ m. only_at g m p) ≤ sum_by node_length (values_of g) → (if b then only_from (child_of (node g n) x) (λ m. only_at g m p) else 0) ≤ sum_by node_length (values_of g)
      by_test true l = l
      by_test false l = omega arith

  pub unique_fits : (r : ℕ) (p : Names) → is_member nat_eq roots r ≡ true → only_at g r p ≤ sum_by node_length (values_of g)
  unique_fits r p m = only_at-le p r r [] (root_at g roots st r m)
