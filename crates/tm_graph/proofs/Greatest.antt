-- The greatest number in use.
use Rattle.std.proofs.Common.{suc, ◌≡◌, ℕ, ◌+◌, ◌-◌, ◌<◌, ◌≤◌, ◌^◌, true, false, cond, Some, is_some, [], ◌∷◌, length, refl, sym, ap, ◌∙◌, arith, subst}
use Rattle.std.specs.declared.cmp.Ordering.TheVariants.{Less}
use Rattle.std.specs.Ordering.{nat_cmp}
use Rattle.std.specs.List.{AllByRecursion}
use Rattle.std.specs.List.Sorted.{IsStrictlySortedBy}
use Rattle.std.specs.Map.{keys_of}
use Rattle.std.specs.BTreeMap.{is_at}
use Rattle.std.specs.Prelude.{slice_get}
use Rattle.std.proofs.lemmas.Bool.Decides.{nat_tests}
use Rattle.tm_tree.specs.declared.node.NodeBody.{NodeBody}
use Rattle.tm_tree.specs.declared.node.NodeRow.{NodeRow}
use Rattle.tm_graph.specs.Nodes.{Nodes, node, key_of, greatest, IsGraph, MayHold, body_entries, added, new_node}
use Rattle.tm_graph.specs.Reads.{Adds}
use Rattle.tm_graph.proofs.Taken.{Sorted}
use Rattle.tm_graph.proofs.Grown.{grown_is_graph, node-grown_here, node-grown_other, roots-grown}

greatest-cons : (row next : ℕ × NodeRow) (g : Nodes) → greatest (row ∷ next ∷ g) ≡ greatest (next ∷ g)
greatest-cons row next g =
    let more : length (row ∷ next ∷ g) - 1 ≡ suc (length g) = omega arith in
    let same : length (next ∷ g) - 1 ≡ length g = omega arith in
    ap (λ k. key_of (slice_get (row ∷ next ∷ g) k)) more ∙ sym (ap (λ k. key_of (slice_get (next ∷ g) k)) same)

pub all_to_greatest : (g : Nodes) → Sorted g → AllByRecursion (λ k. k ≤ greatest g) (keys_of g)
unfolding IsStrictlySortedBy
all_to_greatest [] s = tt
all_to_greatest (row ∷ []) s = (omega arith, tt)
all_to_greatest (row ∷ next ∷ g) s =
    let rest = all_to_greatest (next ∷ g) s.1 in
    let lower : row.0 < next.0 = below row.0 next.0 s.0.0 in
    subst (λ top. AllByRecursion (λ k. k ≤ top) (keys_of (row ∷ next ∷ g))) (sym (greatest-cons row next g)) (omega (arith, lower, rest.0), rest)
  where
    below : (m n : ℕ) → nat_cmp m n ≡ Less → m < n
    below m n h = grind (arith, nat_tests)

of_all : (P : ℕ → Type 0) (g : Nodes) (q : ℕ) → AllByRecursion P (keys_of g) → is_some (node g q) ≡ true → P q
of_all P [] q h t = absurd (cc t)
of_all P (row ∷ g) q h t =
    elim (is_at (nat_cmp q) row.0) as (λ b. is_at (nat_cmp q) row.0 ≡ b → is_some (cond b (Some row.1) (node g q)) ≡ true → P q) [
      | true ↦ λ e t. subst P (same row.0 e) h.0
      | false ↦ λ e t. of_all P g q h.1 t
    ] refl t
  where
    same : (n : ℕ) → is_at (nat_cmp q) n ≡ true → n ≡ q
    same n e = grind (arith, nat_tests)

pub to_greatest : (g : Nodes) (q : ℕ) → Sorted g → is_some (node g q) ≡ true → q ≤ greatest g
to_greatest g q s t = of_all (λ k. k ≤ greatest g) g q (all_to_greatest g s) t

pub none_is_graph : IsGraph []
unfolding IsStrictlySortedBy
none_is_graph = record {
  in_order = tt;
  rises = λ n row e. absurd (cc e);
  falls = λ n q l. refl;
  counted = λ q. omega arith;
  few = λ q. omega arith;
  low = λ q t. absurd (cc t);
}

-- what a graph with one node more has
pub adds : (g : Nodes) (label : ℕ) (body : NodeBody) → IsGraph g → greatest g < 2 ^ 62 → MayHold g (body_entries body) → Adds g (added g label body) (greatest g + 1) (new_node label body) body
adds g label body is low may =
    let n = greatest g + 1 in
    let above : (q : ℕ) → is_some (node g q) ≡ true → q < n = λ q t. omega (arith, to_greatest g q is.in_order t) in
    let row = new_node label body in
    record {
      graph = grown_is_graph g (body_entries body) n is may above row refl refl (omega arith);
      here = node-grown_here g (body_entries body) n is may above row refl refl;
      others = node-grown_other g (body_entries body) n is may above row refl refl;
      roots = roots-grown g (body_entries body) n is may above row refl refl;
    }
