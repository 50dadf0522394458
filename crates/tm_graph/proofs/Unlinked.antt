-- Links lost with several roots.
use Rattle.std.proofs.Common.{◌≡◌, ℕ, ◌+◌, ◌-◌, ◌≤◌, ◌<◌, ◌^◌, Bool, true, false, cond, Option, Some, None, is_some, List, [], ◌∷◌, ◌++◌, refl, sym, ap, ◌∙◌, arith, nat_eq, sum_by, count_by, ◌==◌, ◌||◌, if◌then◌else◌, inl, inr, ◌⊎◌, ◌≢◌, subst, ⊎_elim}
use Rattle.std.specs.Option.{option_map, unwrap_or}
use Rattle.std.specs.List.Sorted.{IsStrictlySortedBy}
use Rattle.std.specs.Set.{is_member}
use Rattle.std.proofs.lemmas.Bool.{cases_eq, cases_lt}
use Rattle.std.proofs.lemmas.Bool.Decides.{nat_tests}
use Rattle.std.proofs.lemmas.Grind.{common_steps}
use Rattle.std.proofs.lemmas.List.Sums.{sum_by-cons}
use Rattle.tm_tree.specs.declared.node.NodeRow.{NodeRow}
use Rattle.tm_graph.specs.Nodes.{Nodes, node, names, named, row_names, links_of, root_links, IsGraph, IsLinked, with_links}
use Rattle.tm_graph.specs.Losing.{falling, spends, is_spent, less, without_all, IsGone, lost}
use Rattle.tm_graph.specs.Unlinking.{lost_all, thins, is_thinned, HaveRootLinks, AreLost, after_losses}
use Rattle.tm_graph.proofs.Taken.{Sorted, sum-without_all, weight}
use Rattle.tm_graph.proofs.Same.{same_nodes, sorted-mapped, at-mapped}
use Rattle.tm_graph.proofs.Shape.{same_named, same_entries, EntriesRise}
use Rattle.tm_graph.proofs.Left.{sorted_without_all, at-without_all, links-less, names-less, there-less, rises-less}
use Rattle.tm_graph.proofs.Lost.{distinct_falling, member_push}

pub push_all : (g : Nodes) (roots gone : List ℕ) (n q : ℕ) → lost_all g roots (gone ++ n ∷ []) q ≡ lost_all g roots gone q + names q (node g n)
push_all g roots gone n q = grind (arith, common_steps)

pub start_all : (g : Nodes) (roots gone : List ℕ) (q : ℕ) → gone ≡ [] → lost_all g roots gone q ≡ count_by (λ r. r == q) roots
start_all g roots gone q e = rw e (omega arith)

-- no node loses more links than it has
pub all-le : (g : Nodes) (roots gone : List ℕ) (q : ℕ) → IsGraph g → HaveRootLinks g roots → IsStrictlySortedBy falling gone → lost_all g roots gone q ≤ links_of g q
all-le g roots gone q is linked falls =
    let some : sum_by (weight (row_names q) g) gone ≤ named g q = omega (arith, sum-without_all (row_names q) gone g is.in_order (distinct_falling gone falls)) in
    omega (arith, some, linked q, is.counted q)

pub thins_nothing : (count : ℕ) (o : Option NodeRow) → count ≡ 0 → thins count o ≡ false
thins_nothing count None e = refl
thins_nothing count (Some row) e = rw e refl

-- what is spent isn't thinned
pub not_both : (count : ℕ) (o : Option NodeRow) → spends count o ≡ true → thins count o ≡ false
not_both count None s = refl
not_both count (Some row) s = apart row.links s
  where
    apart : (links : ℕ) → is_spent links count ≡ true → is_thinned links count ≡ false
    apart links s = grind (arith, nat_tests)

pub not_there : (g : Nodes) (q : ℕ) → IsGraph g → 2 ^ 62 < q → node g q ≡ None
not_there g q is high = by_node (node g q) refl
  where
    by_node : (o : Option NodeRow) → node g q ≡ o → node g q ≡ None
    by_node None e = e
    by_node (Some row) e = absurd (let low = is.low q (ap (λ (o : Option NodeRow). is_some o) e) in omega (arith, low, high))

-- ---- the walk

-- no number is on a list on which there is none
pub none_told : (list : List ℕ) (q : ℕ) (b : Bool) → list ≡ [] → b ≡ false → is_member nat_eq list q ≡ b
none_told list q b e f = ap (λ (xs : List ℕ). is_member nat_eq xs q) e ∙ sym f

-- where the walk has come to n
module _ (g : Nodes) (roots gone : List ℕ) (n above q : ℕ) (is : IsGraph g) (lower : n < above) (le : n ≤ q)
    (none : n < q → q < above → lost_all g roots gone q ≡ 0) where
  pub stays_lost : lost_all g roots (gone ++ n ∷ []) q ≡ lost_all g roots gone q
  stays_lost = omega (arith, push_all g roots gone n q, is.falls n q le)

  -- a list of which no number stands below `above`, and which is told by a test from there on that fails where nothing is lost
  module _ (list : List ℕ) (test : ℕ → Option NodeRow → Bool) (nothing : (count : ℕ) (o : Option NodeRow) → count ≡ 0 → test count o ≡ false)
      (below : (q : ℕ) → q < above → is_member nat_eq list q ≡ false)
      (old : above ≤ q → is_member nat_eq list q ≡ test (lost_all g roots gone q) (node g q)) where
    further : n < q → is_member nat_eq list q ≡ test (lost_all g roots gone q) (node g q)
    further more = ⊎_elim
        (λ inside. below q inside ∙ sym (nothing (lost_all g roots gone q) (node g q) (none more inside)))
        (λ outside. old outside) (cases_lt q above)

    -- n is put on the list
    pub told_on : test (lost_all g roots gone n) (node g n) ≡ true → is_member nat_eq (list ++ n ∷ []) q ≡ test (lost_all g roots gone q) (node g q)
    told_on passes = member_push list n q ∙ by_place (cases_eq q n)
      where
        by_place : (q ≡ n) ⊎ (q ≢ n) → (is_member nat_eq list q || nat_eq q n) ≡ test (lost_all g roots gone q) (node g q)
        by_place (inl e) = let m = below q (omega (arith, e, lower)) in let s : test (lost_all g roots gone q) (node g q) ≡ true = subst (λ (k : ℕ). test (lost_all g roots gone k) (node g k) ≡ true) (sym e) passes in grind (arith, nat_tests, m, s)
        by_place (inr ne) = let m = further (omega (arith, ne, le)) in grind (arith, nat_tests, m)

    -- n isn't
    pub told_past : test (lost_all g roots gone n) (node g n) ≡ false → is_member nat_eq list q ≡ test (lost_all g roots gone q) (node g q)
    told_past fails = by_place (cases_eq q n)
      where
        by_place : (q ≡ n) ⊎ (q ≢ n) → is_member nat_eq list q ≡ test (lost_all g roots gone q) (node g q)
        by_place (inl e) = below q (omega (arith, e, lower)) ∙ sym (subst (λ (k : ℕ). test (lost_all g roots gone k) (node g k) ≡ false) (sym e) fails)
        by_place (inr ne) = further (omega (arith, ne, le))

-- ---- what is left

pub sorted_losses : (g : Nodes) (roots gone : List ℕ) → Sorted g → Sorted (after_losses g roots gone)
sorted_losses g roots gone s = sorted-mapped _ (without_all gone g) (sorted_without_all gone g s)

module _ (g : Nodes) (roots gone thinned : List ℕ) (is : IsGraph g) (goes : AreLost g roots gone thinned) where
  abbrev new : Nodes
  new = after_losses g roots gone

  -- each number has what is left of its node
  pub node-losses : (q : ℕ) → node new q ≡ less (lost_all g roots gone q) (node g q)
  node-losses q =
      at-mapped (λ n row. with_links row (row.links - lost_all g roots gone n)) (without_all gone g) q
      ∙ ap (option_map (λ row. with_links row (row.links - lost_all g roots gone q))) (at-without_all gone g q is.in_order ∙ ap (λ b. cond b None (node g q)) (goes.gone_are q))
      ∙ by_node (node g q)
    where
      by_node : (o : Option NodeRow) → option_map (λ row. with_links row (row.links - lost_all g roots gone q)) (cond (spends (lost_all g roots gone q) o) None o) ≡ less (lost_all g roots gone q) o
      by_node None = refl
      by_node (Some row) = elim (is_spent row.links (lost_all g roots gone q)) as (λ b. option_map (λ (row : NodeRow). with_links row (row.links - lost_all g roots gone q)) (cond b None (Some row)) ≡ cond b None (Some (with_links row (row.links - lost_all g roots gone q)))) [ true ↦ refl | false ↦ refl ]

  -- nodes that have what is left are the graph that is left
  pub losses_are : (h : Nodes) (count : ℕ → ℕ) → Sorted h → ((q : ℕ) → count q ≡ lost_all g roots gone q) → ((q : ℕ) → node h q ≡ less (count q) (node g q)) → h ≡ new
  losses_are h count s counts each =
      same_nodes h new s (sorted_losses g roots gone is.in_order) (λ q. each q ∙ ap (λ n. less n (node g q)) (counts q) ∙ sym (node-losses q))

  -- the entries of those that went and of those that stay
  pub named-losses : (q : ℕ) → sum_by (λ m. names q (node g m)) gone + named new q ≡ named g q
  named-losses q =
      ap (λ n. sum_by (λ m. names q (node g m)) gone + n) (same_named new (without_all gone g) q (same_entries (λ n row. row.links - lost_all g roots gone n) (without_all gone g)))
      ∙ sum-without_all (row_names q) gone g is.in_order (distinct_falling gone goes.gone_fall)

  pub links-losses : (q : ℕ) → links_of new q ≡ links_of g q - lost_all g roots gone q
  links-losses q = ap (λ o. unwrap_or (option_map (λ (row : NodeRow). row.links) o) 0) (node-losses q) ∙ links-less (lost_all g roots gone q) (node g q)

  module _ (linked : HaveRootLinks g roots) where
    pub roots-losses : (q : ℕ) → root_links new q ≡ root_links g q - count_by (λ r. r == q) roots
    roots-losses q = omega (arith, named-losses q, links-losses q, linked q, is.counted q)

    pub losses_graph : IsGraph new
    losses_graph = record {
      in_order = sorted_losses g roots gone is.in_order;
      rises = λ n. subst EntriesRise (sym (node-losses n)) (rises-less (lost_all g roots gone n) (node g n) (is.rises n));
      falls = λ n q h. subst (λ (o : Option NodeRow). names q o ≡ 0) (sym (node-losses n)) (names-less (lost_all g roots gone n) q (node g n) (is.falls n q h));
      counted = λ q. omega (arith, named-losses q, links-losses q, linked q, is.counted q);
      few = λ q. omega (arith, links-losses q, is.few q);
      low = λ q e. is.low q (there-less (lost_all g roots gone q) (node g q) (subst (λ (o : Option NodeRow). is_some o ≡ true) (node-losses q) e));
    }

  links_left : (q : ℕ) (count : ℕ) (o : Option NodeRow) → (is_some o ≡ true → 0 < unwrap_or (option_map (λ (row : NodeRow). row.links) o) 0) → is_some (less count o) ≡ true
      → 0 < unwrap_or (option_map (λ (row : NodeRow). row.links) (less count o)) 0
  links_left q count None l t = l t
  links_left q count (Some row) l t = by_test (is_spent row.links count) refl t
    where
      by_test : (b : Bool) → is_spent row.links count ≡ b → is_some (cond b None (Some (with_links row (row.links - count)))) ≡ true → 0 < unwrap_or (option_map (λ (r : NodeRow). r.links) (cond b None (Some (with_links row (row.links - count))))) 0
      by_test true e t = cc
      by_test false e t = above row.links (l refl) e
        where
          above : (links : ℕ) → 0 < links → is_spent links count ≡ false → 0 < links - count
          above links l e = grind (arith, nat_tests)

  pub losses_linked : IsLinked g → IsLinked new
  losses_linked linked q = subst (λ (o : Option NodeRow). is_some o ≡ true → 0 < unwrap_or (option_map (λ (row : NodeRow). row.links) o) 0) (sym (node-losses q)) (links_left q (lost_all g roots gone q) (node g q) (linked q))

-- ---- one root

pub one_root : (root q : ℕ) → count_by (λ r. r == q) (root ∷ []) ≡ (if q == root then 1 else 0)
one_root root q = let more = sum_by-cons (λ (r : ℕ). cond (r == q) 1 0) root [] in grind (arith, nat_tests, more)

pub one_lost : (g : Nodes) (root : ℕ) (gone : List ℕ) (q : ℕ) → lost_all g (root ∷ []) gone q ≡ lost g root gone q
one_lost g root gone q = ap (λ (n : ℕ). n + sum_by (λ m. names q (node g m)) gone) (one_root root q)

pub one_gone : (g : Nodes) (root : ℕ) (gone thinned : List ℕ) → AreLost g (root ∷ []) gone thinned → IsGone g root gone
one_gone g root gone thinned is = record { greatest_first = is.gone_fall; spent = λ q. is.gone_are q ∙ ap (λ n. spends n (node g q)) (one_lost g root gone q) }

pub one_linked : (g : Nodes) (root : ℕ) → 0 < root_links g root → HaveRootLinks g (root ∷ [])
one_linked g root l q = ⊎_elim
    (λ (e : q ≡ root). let one : ◌≡◌ {A = ℕ} (cond (q == root) 1 0) 1 = grind (arith, nat_tests) in let here : 0 < root_links g q = subst (λ (k : ℕ). 0 < root_links g k) (sym e) l in omega (arith, one_root root q, one, here))
    (λ (ne : q ≢ root). let none : ◌≡◌ {A = ℕ} (cond (q == root) 1 0) 0 = grind (arith, nat_tests) in omega (arith, one_root root q, none))
    (cases_eq q root)

-- ---- an answer that isn't there

pub absent_of : {A B : Type 0} (f : A → B) (r : Option A) (o : Option B) → ((x : A) → r ≡ Some x → ⊥) → option_map f r ≡ o → o ≡ None
absent_of f None o never e = sym e
absent_of f (Some x) o never e = absurd (never x refl)
