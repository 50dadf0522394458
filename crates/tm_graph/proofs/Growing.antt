-- A graph with new nodes after all others, and a root link, is a graph.
use Rattle.std.proofs.Common.{suc, ◌≡◌, ℕ, ◌+◌, ◌<◌, ◌≤◌, ◌^◌, true, Option, Some, None, is_some, List, [], ◌∷◌, ◌++◌, refl, sym, ap, ◌∙◌, arith, subst, ⊎_elim, ◌⊎◌, inl, inr}
use Rattle.std.specs.Prelude.{Result, Ok, Err}
use Rattle.std.specs.Result.{OnOk, OnErr}
use Rattle.std.specs.Option.{option_map, unwrap_or}
use Rattle.std.specs.List.{All, AllByRecursion}
use Rattle.std.specs.Map.{keys_of, values_of}
use Rattle.std.proofs.lemmas.Bool.{cases_lt}
use Rattle.std.proofs.lemmas.List.Sums.{sum_by-cons}
use Rattle.tm_tree.specs.declared.node.NodeRow.{NodeRow}
use Rattle.tm_graph.specs.Nodes.{Nodes, node, names, named, row_names, times, links_of, entries_of, greatest, IsGraph, with_links, more}
use Rattle.tm_graph.specs.Growing.{gain, relinked, grown, unlinked, IsNewNode, MayGrow}
use Rattle.tm_graph.proofs.Taken.{Sorted}
use Rattle.tm_graph.proofs.Same.{same_nodes, sorted-mapped, at-mapped}
use Rattle.tm_graph.proofs.Shape.{same_named, same_entries, EntriesRise, rises_alike}
use Rattle.tm_graph.proofs.Greatest.{all_to_greatest}
use Rattle.tm_graph.proofs.Joining.{sorted_joined, at_first, at_rest, at_numbered, each_at, named-joined}

abbrev links_in : Option NodeRow → ℕ
links_in o = unwrap_or (option_map (λ row. row.links) o) 0

weaker : (n : ℕ) (ks : List ℕ) → AllByRecursion (λ k. k ≤ n) ks → AllByRecursion (λ k. k < n + 1) ks
weaker n [] h = tt
weaker n (k ∷ ks) h = (omega (arith, h.0), weaker n ks h.1)

pub none_or_there : (o : Option NodeRow) → (o ≡ None) ⊎ (is_some o ≡ true)
none_or_there None = inl refl
none_or_there (Some row) = inr refl

-- what no node names is named 0 times
unnamed : (g : Nodes) (q : ℕ) → All (λ e. row_names q e.1 ≡ 0) g → named g q ≡ 0
unnamed [] q h = refl
unnamed (e ∷ g) q h = omega (arith, sum_by-cons (row_names q) e.1 (values_of g), h 0 e (omega arith), unnamed g q (λ k d l. h (suc k) d (omega arith)))

module _ (g new : Nodes) (root : ℕ) (is : IsGraph g) (may : MayGrow g new root) where
  abbrev all : Nodes
  all = g ++ new

  pub all_sorted : Sorted all
  all_sorted = sorted_joined (greatest g + 1) g new is.in_order (weaker (greatest g) (keys_of g) (all_to_greatest g is.in_order)) may.numbered

  pub grown_sorted : Sorted (grown g new root)
  grown_sorted = sorted-mapped (relinked g new root) all all_sorted

  pub node-grown : (q : ℕ) → node (grown g new root) q ≡ option_map (relinked g new root q) (node all q)
  node-grown q = at-mapped (relinked g new root) all q

  -- an old node stands among all, and a new one where there was none
  pub old_is : (q : ℕ) → is_some (node g q) ≡ true → node all q ≡ node g q
  old_is q t = at_first g new q t

  pub new_is : (q : ℕ) → node g q ≡ None → node all q ≡ node new q
  new_is q none = at_rest g new q none

  pub named-grown : (q : ℕ) → named (grown g new root) q ≡ named g q + named new q
  named-grown q = same_named (grown g new root) all q (same_entries (λ n row. links_of g n + gain new root n) all) ∙ named-joined g new q

  names_none : (m q : ℕ) → m ≤ q → names q (node all m) ≡ 0
  names_none m q h = ⊎_elim (λ none. ap (names q) (new_is m none) ∙ by_node (node new m) (λ row e. each_at (IsNewNode g new) new m row may.each e))
      (λ t. ap (names q) (old_is m t) ∙ is.falls m q h) (none_or_there (node g m))
    where
      low : (k : ℕ) → (0 < k → q < m) → k ≡ 0
      low k f = ⊎_elim (λ l. absurd (omega (arith, f l))) (λ l. omega arith) (cases_lt 0 k)

      by_node : (o : Option NodeRow) → ((row : NodeRow) → o ≡ Some row → IsNewNode g new (m, row)) → names q o ≡ 0
      by_node None f = refl
      by_node (Some row) f = low (times q (entries_of row)) (λ l. ((f row refl).children q l).0)

  rises_all : (m : ℕ) → EntriesRise (node all m)
  rises_all m row e = ⊎_elim (λ none. (each_at (IsNewNode g new) new m row may.each (sym (new_is m none) ∙ e)).rises)
      (λ t. is.rises m row (sym (old_is m t) ∙ e)) (none_or_there (node g m))

  low_all : (q : ℕ) → is_some (node all q) ≡ true → q ≤ 2 ^ 62
  low_all q t = ⊎_elim
      (λ none. let last = (at_numbered (greatest g + 1) new q may.numbered (subst (λ (o : Option NodeRow). is_some o ≡ true) (new_is q none) t)).1 in omega (arith, last, may.low))
      (λ old. is.low q old) (none_or_there (node g q))

  -- what isn't there has no links, and is nowhere named
  pub links_none : (q : ℕ) → node g q ≡ None → links_of g q ≡ 0
  links_none q none = ap links_in none

  not_named : (q : ℕ) → node all q ≡ None → named g q + named new q ≡ 0
  not_named q none = ⊎_elim (λ (gone : node g q ≡ None). omega (arith, is.counted q, links_none q gone, unnamed new q (λ k d l. zeros (may.each k d l))))
      (λ t. absurd (let some = old_is q t in cc)) (none_or_there (node g q))
    where
      zeros : {e : ℕ × NodeRow} → IsNewNode g new e → row_names q e.1 ≡ 0
      zeros {e} new_one = ⊎_elim (λ l. absurd (let there = (new_one.children q l).1 in cc)) (λ l. omega arith) (cases_lt 0 (row_names q e.1))

  pub links-grown : (q : ℕ) → is_some (node all q) ≡ true → links_of (grown g new root) q ≡ links_of g q + gain new root q
  links-grown q t = ap links_in (node-grown q) ∙ by_node (node all q) t
    where
      by_node : (o : Option NodeRow) → is_some o ≡ true → links_in (option_map (relinked g new root q) o) ≡ links_of g q + gain new root q
      by_node None t = cc
      by_node (Some row) t = refl

  links-grown_none : (q : ℕ) → node all q ≡ None → links_of (grown g new root) q ≡ 0
  links-grown_none q none = ap links_in (node-grown q) ∙ ap (λ o. links_in (option_map (relinked g new root q) o)) none

  pub grown_is_graph : IsGraph (grown g new root)
  grown_is_graph = record {
    in_order = grown_sorted;
    rises = λ m. subst EntriesRise (sym (node-grown m)) (rises_alike (relinked g new root m) (λ row. refl) (node all m) (rises_all m));
    falls = λ m q h. ap (names q) (node-grown m) ∙ same_names m q (node all m) ∙ names_none m q h;
    counted = λ q. ⊎_elim (λ none. omega (arith, named-grown q, not_named q none)) (λ t. omega (arith, named-grown q, links-grown q t, is.counted q)) (none_or_there (node all q));
    few = λ q. ⊎_elim (λ none. omega (arith, links-grown_none q none)) (λ t. omega (arith, links-grown q t, may.few q)) (none_or_there (node all q));
    low = λ q t. low_all q (there q (node all q) (subst (λ (o : Option NodeRow). is_some o ≡ true) (node-grown q) t));
  }
    where
      same_names : (m q : ℕ) (o : Option NodeRow) → names q (option_map (relinked g new root m) o) ≡ names q o
      same_names m q None = refl
      same_names m q (Some row) = refl

      there : (q : ℕ) (o : Option NodeRow) → is_some (option_map (relinked g new root q) o) ≡ true → is_some o ≡ true
      there q None t = t
      there q (Some row) t = refl

  -- ---- in two steps: first the nodes, then the links

  abbrev bare : Nodes
  bare = g ++ unlinked new

  links_bare : (q : ℕ) → links_of bare q ≡ links_of g q
  links_bare q = ⊎_elim
      (λ none. ap links_in (at_rest g (unlinked new) q none) ∙ ap links_in (at-mapped (λ _ row. with_links row 0) new q) ∙ none_linked (node new q) ∙ sym (links_none q none))
      (λ t. ap links_in (at_first g (unlinked new) q t)) (none_or_there (node g q))
    where
      none_linked : (o : Option NodeRow) → links_in (option_map (λ row. with_links row 0) o) ≡ 0
      none_linked None = refl
      none_linked (Some row) = refl

  pub gains_fit : (q : ℕ) → links_of bare q + gain new root q ≤ 2 ^ 62
  gains_fit q = omega (arith, links_bare q, may.few q)

  at_each : (q : ℕ) → option_map (more (gain new root q)) (node bare q) ≡ node (grown g new root) q
  at_each q = ⊎_elim
      (λ none. ap (option_map (more (gain new root q))) (at_rest g (unlinked new) q none ∙ at-mapped (λ _ row. with_links row 0) new q)
      ∙ new_node (node new q) (links_none q none) ∙ ap (option_map (relinked g new root q)) (sym (new_is q none)) ∙ sym (node-grown q))
      (λ t. ap (option_map (more (gain new root q))) (at_first g (unlinked new) q t)
      ∙ old_node (node g q) refl ∙ ap (option_map (relinked g new root q)) (sym (old_is q t)) ∙ sym (node-grown q)) (none_or_there (node g q))
    where
      new_node : (o : Option NodeRow) → links_of g q ≡ 0 → option_map (more (gain new root q)) (option_map (λ row. with_links row 0) o) ≡ option_map (relinked g new root q) o
      new_node None none = refl
      new_node (Some row) none = ap (λ n. Some (with_links row (n + gain new root q))) (sym none)

      old_node : (o : Option NodeRow) → node g q ≡ o → option_map (more (gain new root q)) o ≡ option_map (relinked g new root q) o
      old_node None e = refl
      old_node (Some row) e = ap (λ n. Some (with_links row (n + gain new root q))) (sym (ap links_in e))

  -- nodes in order, each with its gain, are the grown graph
  pub grown_is : (h : Nodes) → Sorted h → ((q : ℕ) → node h q ≡ option_map (more (gain new root q)) (node bare q)) → h ≡ grown g new root
  grown_is h s each = same_nodes h (grown g new root) s grown_sorted (λ q. each q ∙ at_each q)

  -- after either answer there is a graph
  pub graph_on : {A E : Type 0} (r : Result A E) (h : Nodes) → OnOk r (h ≡ grown g new root) → OnErr r (h ≡ g) → IsGraph h
  graph_on (Ok a) h ok err = subst IsGraph (sym ok) grown_is_graph
  graph_on (Err e) h ok err = subst IsGraph (sym err) is
