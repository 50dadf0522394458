-- A graph with a node more is a graph.
use Rattle.std.proofs.Common.{zero, suc, add-zero, ◌≡◌, ◌≢◌, ℕ, ◌+◌, ◌≤◌, ◌<◌, ◌^◌, true, false, cond, Option, Some, None, is_some, List, [], ◌∷◌, refl, sym, ap, ◌∙◌, arith, nat_eq, subst, ⊎_elim}
use Rattle.std.specs.Option.{option_map, unwrap_or}
use Rattle.std.specs.BTreeMap.{insert_entry}
use Rattle.std.specs.List.Sorted.{IsStrictlySortedBy}
use Rattle.std.specs.Ordering.{nat_cmp}
use Rattle.std.specs.Cmp.{nat_cmp_total}
use Rattle.std.proofs.lemmas.Map.Entries.{sum_by-insert_entry}
use Rattle.std.proofs.lemmas.Bool.{cases_eq}
use Rattle.std.proofs.lemmas.Bool.Decides.{nat_tests}
use Rattle.tm_tree.specs.declared.node.NodeRow.{NodeRow}
use Rattle.tm_tree.specs.declared.node.Child.{Child}
use Rattle.tm_graph.specs.Nodes.{Nodes, node, names, named, row_names, links_of, IsGraph, with_links, entries_of, times, gained, more, MayHold, NamesRise, root_links}
use Rattle.tm_graph.proofs.Taken.{Sorted, at}
use Rattle.tm_graph.proofs.Same.{same_nodes, at-put, sorted_put, sorted-mapped, at-mapped}
use Rattle.tm_graph.proofs.Shape.{same_named, same_entries, EntriesRise, rises_alike, rises_some}

abbrev links_in : Option NodeRow → ℕ
links_in o = unwrap_or (option_map (λ row. row.links) o) 0

none_there : (o : Option NodeRow) → o ≡ None → is_some o ≡ true → ⊥
none_there None e t = cc
none_there (Some row) e t = cc

-- what is nowhere named gains nothing
module _ (g : Nodes) (es : List Child) (n : ℕ) (is : IsGraph g) (may : MayHold g es) (above : (q : ℕ) → is_some (node g q) ≡ true → q < n) where
  pub none_at : (q : ℕ) → n ≤ q → node g q ≡ None
  none_at q h = by_node (node g q) (above q)
    where
      by_node : (o : Option NodeRow) → (is_some o ≡ true → q < n) → o ≡ None
      by_node None f = refl
      by_node (Some row) f = absurd (omega (arith, f refl))

  pub not_named : (q : ℕ) → node g q ≡ None → times q es ≡ 0
  not_named q e = by_count (times q es) (may.there q)
    where
      by_count : (k : ℕ) → (0 < k → is_some (node g q) ≡ true) → k ≡ 0
      by_count zero f = refl
      by_count (suc k) f = absurd (none_there (node g q) e (f (omega arith)))

  -- each of the graph's nodes may gain
  pub gains_fit : (q : ℕ) → links_of g q + times q es ≤ 2 ^ 62
  gains_fit q = by_count (times q es) (may.few q)
    where
      by_count : (k : ℕ) → (0 < k → links_of g q + k ≤ 2 ^ 62) → links_of g q + k ≤ 2 ^ 62
      by_count zero f = omega (arith, is.few q)
      by_count (suc k) f = f (omega arith)

  module _ (row : NodeRow) (new : row.links ≡ 0) (its : entries_of row ≡ es) where
    abbrev pub grown : Nodes
    grown = insert_entry nat_cmp (gained es g) n row

    pub node-grown : (q : ℕ) → node grown q ≡ cond (nat_eq q n) (Some row) (option_map (more (times q es)) (node g q))
    node-grown q = at-put (gained es g) n row q ∙ ap (λ b. cond b (Some row) (at (gained es g) q)) (grind (arith, nat_tests)) ∙ ap (cond (nat_eq q n) (Some row)) (at-mapped (λ q. more (times q es)) g q)

    pub sorted_grown : Sorted grown
    sorted_grown = sorted_put (gained es g) n row (sorted-mapped _ g is.in_order)

    -- at the new number, and at others
    pub node-grown_here : node grown n ≡ Some row
    node-grown_here = let e : nat_eq n n ≡ true = grind (arith, nat_tests) in node-grown n ∙ ap (λ b. cond b (Some row) (option_map (more (times n es)) (node g n))) e

    pub node-grown_other : (q : ℕ) → q ≢ n → node grown q ≡ option_map (more (times q es)) (node g q)
    node-grown_other q ne = let e : nat_eq q n ≡ false = grind (arith, nat_tests) in node-grown q ∙ ap (λ b. cond b (Some row) (option_map (more (times q es)) (node g q))) e

    -- nodes that have these are the grown graph
    pub grown_is : (h : Nodes) → Sorted h → node h n ≡ Some row → ((q : ℕ) → (n ≡ q → ⊥) → node h q ≡ option_map (more (times q es)) (node g q)) → h ≡ grown
    grown_is h s here others = same_nodes h grown s sorted_grown (λ q. ⊎_elim
        (λ e. subst (λ k. node h k ≡ node grown k) e (here ∙ sym node-grown_here))
        (λ ne. others q ne ∙ sym (node-grown_other q (λ e. ne (sym e)))) (cases_eq n q))

    pub named-grown : (q : ℕ) → named grown q ≡ named g q + times q es
    named-grown q =
        let put = sum_by-insert_entry (row_names q) nat_cmp_total (gained es g) n row (sorted-mapped _ g is.in_order) in
        let absent : names q (node (gained es g) n) ≡ 0 = ap (names q) (at-mapped (λ q. more (times q es)) g n) ∙ ap (λ o. names q (option_map (more (times n es)) o)) (none_at n (omega arith)) in
        let same = same_named (gained es g) g q (same_entries (λ q row. row.links + times q es) g) in
        omega (arith, put, absent, same, ap (times q) its)

    pub links-grown_here : links_of grown n ≡ 0
    links-grown_here = ap links_in node-grown_here ∙ new

    pub links-grown : (q : ℕ) → q ≢ n → links_of grown q ≡ links_of g q + times q es
    links-grown q ne = ap links_in (node-grown_other q ne) ∙ by_node (node g q) (not_named q)
      where
        by_node : (o : Option NodeRow) → (o ≡ None → times q es ≡ 0) → links_in (option_map (more (times q es)) o) ≡ links_in o + times q es
        by_node None f = omega (arith, f refl)
        by_node (Some row) f = refl

    pub grown_is_graph : n ≤ 2 ^ 62 → IsGraph grown
    grown_is_graph low = record {
      in_order = sorted_grown;
      rises = λ m. ⊎_elim (λ e. rises_here m e) (λ ne. rises_other m ne) (cases_eq m n);
      falls = λ m q h. ⊎_elim (λ e. falls_here q (omega arith) m e) (λ ne. falls_other m q h ne) (cases_eq m n);
      counted = λ q. ⊎_elim (λ e. counted_here q e) (λ ne. omega (arith, named-grown q, links-grown q ne, is.counted q)) (cases_eq q n);
      few = λ q. ⊎_elim (λ e. few_here q e) (λ ne. few_other q ne) (cases_eq q n);
      low = λ q. ⊎_elim (λ e _. omega arith) (λ ne t. low_other q ne t) (cases_eq q n);
    }
      where
        absent : (q : ℕ) → n ≤ q → times q es ≡ 0
        absent q h = not_named q (none_at q h)

        falls_here : (q : ℕ) → n ≤ q → (m : ℕ) → m ≡ n → names q (node grown m) ≡ 0
        falls_here q h m e = ap (λ k. names q (node grown k)) e ∙ ap (names q) node-grown_here ∙ ap (times q) its ∙ absent q h

        falls_other : (m q : ℕ) → m ≤ q → m ≢ n → names q (node grown m) ≡ 0
        falls_other m q h ne = ap (names q) (node-grown_other m ne) ∙ by_node (node g m) ∙ is.falls m q h
          where
            by_node : (o : Option NodeRow) → names q (option_map (more (times m es)) o) ≡ names q o
            by_node None = refl
            by_node (Some row) = refl

        none_links : (q : ℕ) → n ≤ q → links_of g q ≡ 0
        none_links q h = ap links_in (none_at q h)

        counted_here : (q : ℕ) → q ≡ n → named grown q ≤ links_of grown q
        counted_here q e = let none = none_links q (omega arith) in omega (arith, named-grown q, is.counted q, absent q (omega arith), none)

        few_here : (q : ℕ) → q ≡ n → links_of grown q ≤ 2 ^ 62
        few_here q e = omega (arith, ap (links_of grown) e, links-grown_here)

        few_other : (q : ℕ) → q ≢ n → links_of grown q ≤ 2 ^ 62
        few_other q ne = rw (links-grown q ne) (gains_fit q)

        rises_here : (m : ℕ) → m ≡ n → EntriesRise (node grown m)
        rises_here m e = subst EntriesRise (sym (ap (node grown) e ∙ node-grown_here)) (rises_some row (subst NamesRise (sym its) may.rises))

        rises_other : (m : ℕ) → m ≢ n → EntriesRise (node grown m)
        rises_other m ne = subst EntriesRise (sym (node-grown_other m ne)) (rises_alike (more (times m es)) (λ row. refl) (node g m) (is.rises m))

        low_other : (q : ℕ) → q ≢ n → is_some (node grown q) ≡ true → q ≤ 2 ^ 62
        low_other q ne t = is.low q (by_node (node g q) (subst (λ (o : Option NodeRow). is_some o ≡ true) (node-grown_other q ne) t))
          where
            by_node : (o : Option NodeRow) → is_some (option_map (more (times q es)) o) ≡ true → is_some o ≡ true
            by_node None t = t
            by_node (Some row) t = refl

    -- the root links stay as they were
    pub roots-grown : (q : ℕ) → root_links grown q ≡ root_links g q
    roots-grown q = ⊎_elim (λ e. here e) (λ ne. omega (arith, named-grown q, links-grown q ne)) (cases_eq q n)
      where
        here : q ≡ n → root_links grown q ≡ root_links g q
        here e =
            let links : links_of grown q ≡ 0 = subst (λ k. links_of grown k ≡ 0) (sym e) links-grown_here in
            let none : links_of g q ≡ 0 = ap links_in (none_at q (omega arith)) in
            omega arith

pub may_hold_none : (g : Nodes) → MayHold g []
unfolding IsStrictlySortedBy
may_hold_none g = record { rises = tt; there = λ q h. absurd (omega (arith, h)); few = λ q h. absurd (omega (arith, h)) }

-- a file or link names no node
pub gained_none : (g : Nodes) → gained [] g ≡ g
gained_none [] = refl
gained_none (row ∷ g) = λ i. (row.0, with_links row.1 (add-zero row.1.links i)) ∷ gained_none g i
