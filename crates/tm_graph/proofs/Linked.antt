-- A graph with a root link more is a graph.
use Rattle.std.proofs.Common.{◌≡◌, ℕ, ◌+◌, ◌≤◌, ◌<◌, ◌^◌, true, false, cond, Option, Some, None, is_some, refl, sym, ap, ◌∙◌, arith, nat_eq, subst, ⊎_elim, ◌==◌, if◌then◌else◌}
use Rattle.std.specs.Option.{option_map, unwrap_or}
use Rattle.std.specs.BTreeMap.{is_at}
use Rattle.std.specs.Ordering.{nat_cmp, eq_by_cmp}
use Rattle.std.specs.Cmp.{eq_by_cmp_equiv, nat_cmp_total}
use Rattle.std.proofs.lemmas.Map.{lookup-set_value, keys-set_value}
use Rattle.std.proofs.lemmas.Bool.{cases_eq}
use Rattle.std.proofs.lemmas.Bool.Decides.{nat_tests}
use Rattle.tm_tree.specs.declared.node.NodeRow.{NodeRow}
use Rattle.tm_graph.specs.Nodes.{Nodes, node, names, named, links_of, root_links, IsGraph, entries_of, more, linked_at, linked}
use Rattle.tm_graph.specs.Reads.{LinksRoot}
use Rattle.tm_graph.proofs.Taken.{Sorted, at_is}
use Rattle.tm_graph.proofs.Shape.{same_named, same_shape, EntriesRise, rises_alike}

abbrev links_in : Option NodeRow → ℕ
links_in o = unwrap_or (option_map (λ row. row.links) o) 0

pub linked_is_graph : (g h : Nodes) (n : ℕ) → IsGraph g → links_of g n < 2 ^ 62 → Sorted h → node h n ≡ option_map (more 1) (node g n) → ((q : ℕ) → (n ≡ q → ⊥) → node h q ≡ node g q) → IsGraph h
linked_is_graph g h n is few sorted here others = record {
  in_order = sorted;
  rises = λ m. rises_same m;
  falls = λ m q l. names_same m q ∙ is.falls m q l;
  counted = λ q. omega (arith, named_same q, links q, is.counted q);
  few = λ q. ⊎_elim (λ e. few_here q e) (λ ne. few_other q ne) (cases_eq n q);
  low = λ q t. is.low q (subst (λ b. b ≡ true) (there q) t);
}
  where
    at_each : {A : Type 0} (f : Option NodeRow → A) → ((o : Option NodeRow) → f (option_map (more 1) o) ≡ f o) → (q : ℕ) → f (node h q) ≡ f (node g q)
    at_each f same q = ⊎_elim
        (λ e. subst (λ k. f (node h k) ≡ f (node g k)) e (ap f here ∙ same (node g n)))
        (λ ne. ap f (others q ne)) (cases_eq n q)

    names_same : (m q : ℕ) → names q (node h m) ≡ names q (node g m)
    names_same m q = at_each (names q) (λ o. by_node o) m
      where
        by_node : (o : Option NodeRow) → names q (option_map (more 1) o) ≡ names q o
        by_node None = refl
        by_node (Some row) = refl

    there : (q : ℕ) → is_some (node h q) ≡ is_some (node g q)
    there q = at_each is_some (λ o. by_node o) q
      where
        by_node : (o : Option NodeRow) → is_some (option_map (more 1) o) ≡ is_some o
        by_node None = refl
        by_node (Some row) = refl

    entries_same : (o : Option NodeRow) → option_map entries_of (option_map (more 1) o) ≡ option_map entries_of o
    entries_same None = refl
    entries_same (Some row) = refl

    named_same : (q : ℕ) → named h q ≡ named g q
    named_same q = same_named h g q (same_shape h g sorted is.in_order (λ q. at_each (option_map entries_of) entries_same q))

    fewer : (o : Option NodeRow) → links_in o ≤ links_in (option_map (more 1) o)
    fewer None = omega arith
    fewer (Some row) = omega arith

    links : (q : ℕ) → links_of g q ≤ links_of h q
    links q = ⊎_elim (λ e. subst (λ k. links_of g k ≤ links_of h k) e (subst (λ (o : Option NodeRow). links_of g n ≤ links_in o) (sym here) (fewer (node g n))))
        (λ ne. omega (arith, ap links_in (others q ne))) (cases_eq n q)

    most : (o : Option NodeRow) → links_in (option_map (more 1) o) ≤ links_in o + 1
    most None = omega arith
    most (Some row) = omega arith

    few_here : (q : ℕ) → n ≡ q → links_of h q ≤ 2 ^ 62
    few_here q e = subst (λ k. links_of h k ≤ 2 ^ 62) e (omega (arith, ap links_in here, most (node g n)))

    rises_same : (m : ℕ) → EntriesRise (node h m)
    rises_same m = ⊎_elim
        (λ e. subst (λ k. EntriesRise (node h k)) e (subst EntriesRise (sym here) (rises_alike (more 1) (λ row. refl) (node g n) (is.rises n))))
        (λ ne. subst EntriesRise (sym (others m ne)) (is.rises m)) (cases_eq n m)

    few_other : (q : ℕ) → (n ≡ q → ⊥) → links_of h q ≤ 2 ^ 62
    few_other q ne = omega (arith, ap links_in (others q ne), is.few q)

-- ---- what the definition says under each number

sorted_linked : (g : Nodes) (n : ℕ) (o : Option NodeRow) → Sorted g → Sorted (linked_at o g n)
sorted_linked g n None s = s
sorted_linked g n (Some row) s = rw (keys-set_value (is_at (nat_cmp n)) g (more 1 row)) s

at-linked : (g : Nodes) (n q : ℕ) (o : Option NodeRow) → node g n ≡ o → node (linked_at o g n) q ≡ cond (nat_eq n q) (option_map (more 1) o) (node g q)
at-linked g n q None e = ⊎_elim
    (λ same. let t : nat_eq n q ≡ true = grind (arith, nat_tests) in subst (λ k. node g k ≡ None) same e ∙ sym (ap (λ b. cond b None (node g q)) t))
    (λ ne. let t : nat_eq n q ≡ false = grind (arith, nat_tests) in sym (ap (λ b. cond b None (node g q)) t)) (cases_eq n q)
at-linked g n q (Some row) e =
    lookup-set_value (eq_by_cmp_equiv nat_cmp_total) (is_at (nat_cmp n)) alike q (more 1 row) g (ap is_some e) ∙ ap (λ b. cond b (Some (more 1 row)) (node g q)) (at_is n q)
  where
    alike : (x y : ℕ) → is_at (nat_cmp n) x ≡ true → is_at (nat_cmp n) y ≡ eq_by_cmp nat_cmp x y
    alike x y h = grind (arith, nat_tests)

module _ (g : Nodes) (n : ℕ) (is : IsGraph g) (there : is_some (node g n) ≡ true) (few : links_of g n < 2 ^ 62) where
  node-linked_here : node (linked g n) n ≡ option_map (more 1) (node g n)
  node-linked_here = let t : nat_eq n n ≡ true = grind (arith, nat_tests) in at-linked g n n (node g n) refl ∙ ap (λ b. cond b (option_map (more 1) (node g n)) (node g n)) t

  node-linked_other : (q : ℕ) → (n ≡ q → ⊥) → node (linked g n) q ≡ node g q
  node-linked_other q ne = let t : nat_eq n q ≡ false = grind (arith, nat_tests) in at-linked g n q (node g n) refl ∙ ap (λ b. cond b (option_map (more 1) (node g n)) (node g q)) t

  graph-linked : IsGraph (linked g n)
  graph-linked = linked_is_graph g (linked g n) n is few (sorted_linked g n (node g n) is.in_order) node-linked_here node-linked_other

  entries_same : (q : ℕ) → option_map entries_of (node (linked g n) q) ≡ option_map entries_of (node g q)
  entries_same q = ⊎_elim
      (λ e. subst (λ k. option_map entries_of (node (linked g n) k) ≡ option_map entries_of (node g k)) e (ap (option_map entries_of) node-linked_here ∙ by_node (node g n)))
      (λ ne. ap (option_map entries_of) (node-linked_other q ne)) (cases_eq n q)
    where
      by_node : (o : Option NodeRow) → option_map entries_of (option_map (more 1) o) ≡ option_map entries_of o
      by_node None = refl
      by_node (Some row) = refl

  named-linked : (q : ℕ) → named (linked g n) q ≡ named g q
  named-linked q = same_named (linked g n) g q (same_shape (linked g n) g (sorted_linked g n (node g n) is.in_order) is.in_order entries_same)

  links-linked_here : links_of (linked g n) n ≡ links_of g n + 1
  links-linked_here = ap links_in node-linked_here ∙ by_node (node g n) there
    where
      by_node : (o : Option NodeRow) → is_some o ≡ true → links_in (option_map (more 1) o) ≡ links_in o + 1
      by_node None t = cc
      by_node (Some row) t = refl

  roots-linked : (q : ℕ) → root_links (linked g n) q ≡ root_links g q + (if q == n then 1 else 0)
  roots-linked q = ⊎_elim
      (λ e. subst (λ k. root_links (linked g n) k ≡ root_links g k + (if k == n then 1 else 0)) e (here (named-linked n) (is.counted n)))
      (λ ne. other ne (named-linked q) (ap links_in (node-linked_other q ne))) (cases_eq n q)
    where
      here : named (linked g n) n ≡ named g n → named g n ≤ links_of g n → root_links (linked g n) n ≡ root_links g n + (if n == n then 1 else 0)
      here e c = let t : (n == n) ≡ true = grind (arith, nat_tests) in rw t (omega (arith, e, c, links-linked_here))

      other : (n ≡ q → ⊥) → named (linked g n) q ≡ named g q → links_of (linked g n) q ≡ links_of g q → root_links (linked g n) q ≡ root_links g q + (if q == n then 1 else 0)
      other ne e l = let t : (q == n) ≡ false = grind (arith, nat_tests) in rw t (omega (arith, e, l))

  pub links_root : LinksRoot g (linked g n) n
  links_root = record {
    graph = graph-linked;
    here = node-linked_here;
    others = λ q ne. node-linked_other q (λ e. ne (sym e));
    roots = roots-linked;
  }

  pub root_links-linked : root_links (linked g n) n ≡ root_links g n + 1
  root_links-linked = let t : (n == n) ≡ true = grind (arith, nat_tests) in roots-linked n ∙ ap (λ b. root_links g n + (if b then 1 else 0)) t
