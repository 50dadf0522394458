-- What is left of a graph is a graph.
use Rattle.std.proofs.Common.{◌≡◌, ℕ, ◌+◌, ◌-◌, ◌≤◌, ◌<◌, Bool, true, false, cond, Option, Some, None, is_some, List, [], ◌∷◌, refl, sym, ap, ◌∙◌, arith, nat_eq, sum_by, ◌||◌, subst, ⊎_elim}
use Rattle.std.specs.Option.{option_map, unwrap_or}
use Rattle.std.specs.Set.{is_member}
use Rattle.std.proofs.lemmas.Bool.{cases_eq}
use Rattle.std.proofs.lemmas.Bool.Decides.{nat_tests}
use Rattle.tm_tree.specs.declared.node.NodeRow.{NodeRow}
use Rattle.tm_graph.specs.Nodes.{Nodes, node, names, named, row_names, links_of, root_links, IsGraph, with_links}
use Rattle.tm_graph.specs.Losing.{lost, spends, is_spent, less, IsGone, left_at, after_loss, without_all}
use Rattle.tm_graph.proofs.Taken.{Sorted, at, sorted_without, at-without, sum-without_all}
use Rattle.tm_graph.proofs.Same.{same_nodes, sorted-mapped, at-mapped}
use Rattle.tm_graph.proofs.Shape.{same_named, same_entries, EntriesRise, rises_none, rises_some}
use Rattle.tm_graph.proofs.Lost.{lost-le, distinct_falling, lost_root, lost_other}

pub sorted_without_all : (ms : List ℕ) (g : Nodes) → Sorted g → Sorted (without_all ms g)
sorted_without_all [] g s = s
sorted_without_all (m ∷ ms) g s = sorted_without_all ms _ (sorted_without m g s)

alike : {A : Type 0} (c : Bool) (x : A) → cond c x x ≡ x
alike true x = refl
alike false x = refl

pub at-without_all : (ms : List ℕ) (g : Nodes) (q : ℕ) → Sorted g → at (without_all ms g) q ≡ cond (is_member nat_eq ms q) None (at g q)
at-without_all [] g q s = refl
at-without_all (m ∷ ms) g q s =
    at-without_all ms _ q (sorted_without m g s) ∙ ap (cond (is_member nat_eq ms q) None) (at-without m q g s)
    ∙ ap (λ b. cond (is_member nat_eq ms q) None (cond b None (at g q))) turn ∙ two (nat_eq q m) (is_member nat_eq ms q)
  where
    turn : nat_eq m q ≡ nat_eq q m
    turn = grind (arith, nat_tests)

    two : (b c : Bool) → cond c None (cond b None (at g q)) ≡ cond (b || c) None (at g q)
    two true c = alike c None
    two false c = refl

pub sorted_left : (g : Nodes) (root : ℕ) (gone : List ℕ) → Sorted g → Sorted (after_loss g root gone)
sorted_left g root gone s = sorted-mapped _ (without_all gone g) (sorted_without_all gone g s)

-- each number has what is left of its node
pub node-left : (g : Nodes) (root : ℕ) (gone : List ℕ) (q : ℕ) → IsGraph g → IsGone g root gone → node (after_loss g root gone) q ≡ left_at g root gone q
node-left g root gone q is goes =
    at-mapped (λ n row. with_links row (row.links - lost g root gone n)) (without_all gone g) q
    ∙ ap (option_map (λ row. with_links row (row.links - lost g root gone q))) (at-without_all gone g q is.in_order ∙ ap (λ b. cond b None (at g q)) (goes.spent q))
    ∙ by_node (node g q)
  where
    by_node : (o : Option NodeRow) → option_map (λ row. with_links row (row.links - lost g root gone q)) (cond (spends (lost g root gone q) o) None o) ≡ less (lost g root gone q) o
    by_node None = refl
    by_node (Some row) = elim (is_spent row.links (lost g root gone q)) as (λ b. option_map (λ (row : NodeRow). with_links row (row.links - lost g root gone q)) (cond b None (Some row)) ≡ cond b None (Some (with_links row (row.links - lost g root gone q)))) [ true ↦ refl | false ↦ refl ]

-- the entries of those that went and of those that stay
pub named-left : (g : Nodes) (root : ℕ) (gone : List ℕ) (q : ℕ) → IsGraph g → IsGone g root gone → sum_by (λ m. names q (node g m)) gone + named (after_loss g root gone) q ≡ named g q
named-left g root gone q is goes =
    ap (λ n. sum_by (λ m. names q (node g m)) gone + n) (same_named (after_loss g root gone) (without_all gone g) q (same_entries (λ n row. row.links - lost g root gone n) (without_all gone g)))
    ∙ sum-without_all (row_names q) gone g is.in_order (distinct_falling gone goes.greatest_first)

pub links-less : (count : ℕ) (o : Option NodeRow) → unwrap_or (option_map (λ row. row.links) (less count o)) 0 ≡ unwrap_or (option_map (λ row. row.links) o) 0 - count
links-less count None = omega arith
links-less count (Some row) =
    elim (is_spent row.links count) as (λ b. is_spent row.links count ≡ b → unwrap_or (option_map (λ (row : NodeRow). row.links) (cond b None (Some (with_links row (row.links - count))))) 0 ≡ row.links - count) [
      | true ↦ λ e. none row.links e
      | false ↦ λ e. refl
    ] refl
  where
    none : (links : ℕ) → is_spent links count ≡ true → 0 ≡ links - count
    none links e = grind (arith, nat_tests)

-- each number's links
pub links-left : (g : Nodes) (root : ℕ) (gone : List ℕ) (q : ℕ) → IsGraph g → IsGone g root gone → links_of (after_loss g root gone) q ≡ links_of g q - lost g root gone q
links-left g root gone q is goes = ap (λ o. unwrap_or (option_map (λ (row : NodeRow). row.links) o) 0) (node-left g root gone q is goes) ∙ links-less (lost g root gone q) (node g q)

pub names-less : (count q : ℕ) (o : Option NodeRow) → names q o ≡ 0 → names q (less count o) ≡ 0
names-less count q None e = refl
names-less count q (Some row) e = elim (is_spent row.links count) as (λ b. names q (cond b None (Some (with_links row (row.links - count)))) ≡ 0) [ true ↦ refl | false ↦ e ]

pub there-less : (count : ℕ) (o : Option NodeRow) → is_some (less count o) ≡ true → is_some o ≡ true
there-less count None e = e
there-less count (Some row) e = refl

pub rises-less : (count : ℕ) (o : Option NodeRow) → EntriesRise o → EntriesRise (less count o)
rises-less count None h = h
rises-less count (Some row) h =
    elim (is_spent row.links count) as (λ b. EntriesRise (cond b None (Some (with_links row (row.links - count))))) [ true ↦ rises_none | false ↦ rises_some (with_links row (row.links - count)) (h row refl) ]

-- nodes that have what is left are the graph that is left
pub is_left : (g new : Nodes) (root : ℕ) (gone : List ℕ) (count : ℕ → ℕ) → IsGraph g → IsGone g root gone → Sorted new
    → ((q : ℕ) → count q ≡ lost g root gone q) → ((q : ℕ) → node new q ≡ less (count q) (node g q)) → new ≡ after_loss g root gone
is_left g new root gone count is goes s counts each =
    same_nodes new (after_loss g root gone) s (sorted_left g root gone is.in_order) (λ q. each q ∙ ap (λ n. less n (node g q)) (counts q) ∙ sym (node-left g root gone q is goes))

-- a graph is left
pub left_is_graph : (g : Nodes) (root : ℕ) (gone : List ℕ) → IsGraph g → 0 < root_links g root → IsGone g root gone → IsGraph (after_loss g root gone)
left_is_graph g root gone is linked goes = record {
  in_order = sorted_left g root gone is.in_order;
  rises = λ n. subst EntriesRise (sym (node-left g root gone n is goes)) (rises-less (lost g root gone n) (node g n) (is.rises n));
  falls = λ n q h. subst (λ (o : Option NodeRow). names q o ≡ 0) (sym (node-left g root gone n is goes)) (names-less (lost g root gone n) q (node g n) (is.falls n q h));
  counted = λ q. counts q (named-left g root gone q is goes) (links-left g root gone q is goes) (is.counted q) (lost-le g root gone q is linked goes.greatest_first);
  few = λ q. omega (arith, links-left g root gone q is goes, is.few q);
  low = λ q e. is.low q (there-less (lost g root gone q) (node g q) (subst (λ (o : Option NodeRow). is_some o ≡ true) (node-left g root gone q is goes) e));
}
  where
    counts : (q : ℕ) → sum_by (λ m. names q (node g m)) gone + named (after_loss g root gone) q ≡ named g q → links_of (after_loss g root gone) q ≡ links_of g q - lost g root gone q
        → named g q ≤ links_of g q → lost g root gone q ≤ links_of g q → named (after_loss g root gone) q ≤ links_of (after_loss g root gone) q
    counts q n l c fits = ⊎_elim
        (λ e. let more : named g q < links_of g q = subst (λ (k : ℕ). named g k < links_of g k) (sym e) (omega arith) in omega (arith, lost_root g root gone q e))
        (λ ne. omega (arith, lost_other g root gone q ne)) (cases_eq q root)
