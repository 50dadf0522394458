-- From any node with links a way leads up to a root.
use Rattle.std.proofs.Common.{zero, suc, ◌≡◌, ◌≢◌, ℕ, ◌+◌, ◌-◌, ◌<◌, ◌^◌, true, false, cond, Option, Some, None, is_some, List, [], ◌∷◌, refl, sym, arith, subst, ⊎_elim, ◌==◌, if◌then◌else◌}
use Rattle.std.specs.Option.{option_map, unwrap_or}
use Rattle.std.specs.List.{AllByRecursion}
use Rattle.std.specs.List.Sorted.{IsStrictlySortedBy}
use Rattle.std.specs.Map.{values_of, keys_of}
use Rattle.std.specs.BTreeMap.{is_at}
use Rattle.std.specs.Ordering.{nat_cmp}
use Rattle.std.specs.declared.cmp.Ordering.TheVariants.{Less}
use Rattle.std.proofs.lemmas.Bool.{cases_eq, cases_lt}
use Rattle.std.proofs.lemmas.Bool.Decides.{nat_tests}
use Rattle.std.proofs.lemmas.List.Sums.{sum_by-cons}
use Rattle.std.proofs.lemmas.Map.Entries.{sum_by-remove_entry}
use Rattle.tm_tree.specs.declared.node.NodeRow.{NodeRow}
use Rattle.tm_graph.specs.Nodes.{Nodes, node, names, named, row_names, links_of, root_links, IsGraph, IsLinked, with_links}
use Rattle.tm_graph.specs.Losing.{lost, is_spent, less, IsGone, after_loss}
use Rattle.tm_graph.specs.Reached.{Reached, at_root, beneath}
use Rattle.tm_graph.proofs.Taken.{Sorted}
use Rattle.tm_graph.proofs.Left.{node-left, named-left, links-left}
use Rattle.tm_graph.proofs.Lost.{lost-le, lost_root, lost_other}

abbrev links_in : Option NodeRow → ℕ
links_in o = unwrap_or (option_map (λ row. row.links) o) 0

abbrev pub Namer : Nodes → ℕ → Type 0
Namer g q = (m : ℕ) × (0 < names q (node g m))

-- the others of nodes in order are found past the first
past : (e : ℕ × NodeRow) (g : Nodes) (m : ℕ) (q : ℕ) → Sorted (e ∷ g) → 0 < names q (node g m) → 0 < names q (node (e ∷ g) m)
unfolding IsStrictlySortedBy
past e g m q s h =
    elim (is_at (nat_cmp m) e.0) as (λ b. is_at (nat_cmp m) e.0 ≡ b → 0 < names q (cond b (Some e.1) (node g m))) [
      | true ↦ λ is. absurd (nowhere g m e.0 s.0 (same m e.0 is) h)
      | false ↦ λ is. h
    ] refl
  where
    same : (m n : ℕ) → is_at (nat_cmp m) n ≡ true → m ≡ n
    same m n is = grind (arith, nat_tests)

    not_at : (m n k : ℕ) → m ≡ n → nat_cmp n k ≡ Less → is_at (nat_cmp m) k ≡ false
    not_at m n k e l = grind (arith, nat_tests)

    nowhere : (g : Nodes) (m n : ℕ) → AllByRecursion (λ k. nat_cmp n k ≡ Less) (keys_of g) → m ≡ n → 0 < names q (node g m) → ⊥
    nowhere [] m n s e h = omega (arith, h)
    nowhere (f ∷ g) m n s e h = nowhere g m n s.1 e (subst (λ b. 0 < names q (cond b (Some f.1) (node g m))) (not_at m n f.0 e s.0) h)

-- what is named is named by a node
pub namer : (g : Nodes) (q : ℕ) → Sorted g → 0 < named g q → Namer g q
unfolding IsStrictlySortedBy
namer [] q s h = absurd (omega (arith, h))
namer (e ∷ g) q s h = ⊎_elim
    (λ here. (e.0, let f : is_at (nat_cmp e.0) e.0 ≡ true = grind (arith, nat_tests) in rw f here))
    (λ none. let n = namer g q s.1 (omega (arith, h, sum_by-cons (row_names q) e.1 (values_of g))) in (n.0, past e g n.0 q s n.1))
    (cases_lt 0 (row_names q e.1))

pub there : (g : Nodes) (q : ℕ) → 0 < links_of g q → is_some (node g q) ≡ true
there g q h = by_node (node g q) h
  where
    by_node : (o : Option NodeRow) → 0 < links_in o → is_some o ≡ true
    by_node None h = absurd (omega (arith, h))
    by_node (Some row) h = refl

names_there : (q : ℕ) (o : Option NodeRow) → 0 < names q o → is_some o ≡ true
names_there q None h = absurd (omega (arith, h))
names_there q (Some row) h = refl

-- k is how far q is from the greatest number that a node may have
climbs : (k : ℕ) (g : Nodes) (q : ℕ) → IsGraph g → IsLinked g → is_some (node g q) ≡ true → 2 ^ 62 < q + k → Reached g q
climbs zero g q is linked t far = absurd (omega (arith, is.low q t))
climbs (suc k) g q is linked t far = ⊎_elim
    (λ by. let n = namer g q is.in_order by in
    let higher : q < n.0 = ⊎_elim (λ l. l) (λ l. absurd (omega (arith, is.falls n.0 q l, n.1))) (cases_lt q n.0) in
    beneath n.0 q (climbs k g n.0 is linked (names_there q (node g n.0) n.1) (omega arith)) n.1)
    (λ none. at_root q (omega (arith, linked q t)))
    (cases_lt 0 (named g q))

pub all_reached : (g : Nodes) → IsGraph g → IsLinked g → (q : ℕ) → is_some (node g q) ≡ true → Reached g q
all_reached g is linked q t = climbs (2 ^ 62 + 1) g q is linked t (omega arith)

-- what is reached is there
pub reached_there : (g : Nodes) → IsGraph g → (q : ℕ) → Reached g q → is_some (node g q) ≡ true
reached_there g is q (at_root p h) = there g q (omega arith)
reached_there g is q (beneath m p r h) = there g q (omega (arith, is.counted q, sum_by-remove_entry (row_names q) (is_at (nat_cmp m)) g))

-- ---- what is left

pub root_links-left : (g : Nodes) (root : ℕ) (gone : List ℕ) → IsGraph g → 0 < root_links g root → IsGone g root gone → (q : ℕ) → root_links (after_loss g root gone) q ≡ root_links g q - (if q == root then 1 else 0)
root_links-left g root gone is linked goes q =
    let names = named-left g root gone q is goes in
    let links = links-left g root gone q is goes in
    let fits = lost-le g root gone q is linked goes.greatest_first in
    ⊎_elim
    (λ (e : q ≡ root). let f : (q == root) ≡ true = grind (arith, nat_tests) in rw f (omega (arith, names, links, fits, lost_root g root gone q e)))
    (λ (ne : q ≢ root). let f : (q == root) ≡ false = grind (arith, nat_tests) in rw f (omega (arith, names, links, fits, lost_other g root gone q ne)))
    (cases_eq q root)

pub linked-left : (g : Nodes) (root : ℕ) (gone : List ℕ) → IsGraph g → IsGone g root gone → IsLinked g → IsLinked (after_loss g root gone)
linked-left g root gone is goes linked q =
    subst (λ (o : Option NodeRow). is_some o ≡ true → 0 < links_in o) (sym (node-left g root gone q is goes)) (by_node (node g q) (linked q))
  where
    by_node : (o : Option NodeRow) → (is_some o ≡ true → 0 < links_in o) → is_some (less (lost g root gone q) o) ≡ true → 0 < links_in (less (lost g root gone q) o)
    by_node None l t = l t
    by_node (Some row) l t = by_count row.links (lost g root gone q) (l refl) row t
      where
        by_count : (links count : ℕ) → 0 < links → (row : NodeRow) → is_some (less count (Some (record row { links = links }))) ≡ true → 0 < links_in (less count (Some (record row { links = links })))
        by_count links count l row =
            elim (is_spent links count) as (λ b. is_spent links count ≡ b → is_some (cond b None (Some (with_links row (links - count)))) ≡ true → 0 < links_in (cond b None (Some (with_links row (links - count))))) [
              | true ↦ λ e t. cc
              | false ↦ λ e t. above links count l e
            ] refl
          where
            above : (links count : ℕ) → 0 < links → is_spent links count ≡ false → 0 < links - count
            above links count l e = grind (arith, nat_tests)
