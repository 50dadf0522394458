-- Nodes that came together go with the root link that they came with.
use Rattle.std.proofs.Common.{suc, zero, ◌≡◌, ℕ, ◌+◌, ◌-◌, ◌<◌, ◌≤◌, Bool, true, false, cond, ◌||◌, ◌==◌, Option, Some, None, is_some, List, [], ◌∷◌, ◌++◌, get_or, refl, sym, ap, ◌∙◌, arith, nat_eq, ⊎_elim, sum_by}
use Rattle.std.specs.Option.{option_map, unwrap_or}
use Rattle.std.specs.Ordering.{nat_cmp}
use Rattle.std.specs.List.{All}
use Rattle.std.specs.List.Sorted.{IsStrictlySortedBy}
use Rattle.std.specs.Map.{values_of}
use Rattle.std.specs.Set.{is_member}
use Rattle.std.specs.BTreeMap.{is_at}
use Rattle.std.proofs.lemmas.Bool.Decides.{nat_tests}
use Rattle.std.proofs.lemmas.List.Sums.{sum_by-append, sum_by-cons}
use Rattle.tm_tree.specs.declared.node.NodeRow.{NodeRow}
use Rattle.tm_graph.specs.Nodes.{Nodes, node, names, named, row_names, links_of, root_links, greatest, IsGraph, IsLinked, with_links}
use Rattle.tm_graph.specs.Growing.{gain, relinked, grown, MayGrow}
use Rattle.tm_graph.specs.Losing.{lost, spends, is_spent, less, falling, IsGone, after_loss}
use Rattle.tm_graph.proofs.Taken.{at_is}
use Rattle.tm_graph.proofs.Same.{same_nodes}
use Rattle.tm_graph.proofs.Greatest.{to_greatest}
use Rattle.tm_graph.proofs.Lost.{member_push, falling_push, falling_start}
use Rattle.tm_graph.proofs.Left.{node-left, sorted_left}
use Rattle.tm_graph.proofs.OneGone.{gone_is_one}
use Rattle.tm_graph.proofs.Joining.{AreNumbered, numbered_rest, at_numbered}
use Rattle.tm_graph.proofs.Growing.{none_or_there, old_is, new_is, node-grown, links-grown, named-grown, grown_is_graph}

abbrev links_in : Option NodeRow → ℕ
links_in o = unwrap_or (option_map (λ row. row.links) o) 0

-- the numbers of these nodes, the greatest first
abbrev down : Nodes → List ℕ
down [] = []
down (e ∷ new) = down new ++ e.0 ∷ []

either : (b : Bool) (o : Option NodeRow) (row : NodeRow) → (is_some o || b) ≡ is_some (cond b (Some row) o)
either true None row = refl
either true (Some r) row = refl
either false None row = refl
either false (Some r) row = refl

members : (new : Nodes) (q : ℕ) → is_member nat_eq (down new) q ≡ is_some (node new q)
members [] q = refl
members (e ∷ new) q =
    member_push (down new) e.0 q ∙ ap (λ b. b || nat_eq q e.0) (members new q) ∙ either (nat_eq q e.0) (node new q) e.1
    ∙ ap (λ b. is_some (cond b (Some e.1) (node new q))) (sym (at_is q e.0))

falls : (n : ℕ) (new : Nodes) → AreNumbered n new → IsStrictlySortedBy falling (down new)
falls n [] h = falling_start [] refl
falls n (e ∷ new) h = falling_push (down new) e.0 (falls (n + 1) new (numbered_rest n e new h)) (λ q l. members new q ∙ absent q (omega (arith, h 0 e refl)))
  where
    absent : (q : ℕ) → q ≤ n → is_some (node new q) ≡ false
    absent q l = by_node (node new q) (λ t. (at_numbered (n + 1) new q (numbered_rest n e new h) t).0)
      where
        by_node : (o : Option NodeRow) → (is_some o ≡ true → n + 1 ≤ q) → is_some o ≡ false
        by_node None f = refl
        by_node (Some row) f = absurd (omega (arith, f refl))

-- each of numbered nodes is found
found : (n : ℕ) (new : Nodes) → AreNumbered n new → All (λ e. node new e.0 ≡ Some e.1) new
found n [] h k d l = absurd (omega arith)
found n (e ∷ new) h zero d l = let here : is_at (nat_cmp e.0) e.0 ≡ true = grind (arith, nat_tests) in ap (λ b. cond b (Some e.1) (node new e.0)) here
found n (e ∷ new) h (suc k) d l = further (get_or new k d) (found (n + 1) new (numbered_rest n e new h) k d (omega arith))
  where
    other : (a b : ℕ) → a < b → is_at (nat_cmp b) a ≡ false
    other a b l = grind (arith, nat_tests)

    further : (f : ℕ × NodeRow) → node new f.0 ≡ Some f.1 → cond (is_at (nat_cmp f.0) e.0) (Some e.1) (node new f.0) ≡ Some f.1
    further f is =
        let above = (at_numbered (n + 1) new f.0 (numbered_rest n e new h) (ap is_some is)).0 in
        ap (λ b. cond b (Some e.1) (node new f.0)) (other e.0 f.0 (omega (arith, above, h 0 e refl))) ∙ is

weighs : (f : ℕ → ℕ) (q : ℕ) (part : Nodes) → All (λ e. f e.0 ≡ row_names q e.1) part → sum_by f (down part) ≡ named part q
weighs f q [] h = refl
weighs f q (e ∷ part) h =
    omega (arith, sum_by-append f (down part) (e.0 ∷ []), sum_by-cons f e.0 [], sum_by-cons (row_names q) e.1 (values_of part), weighs f q part (λ k d l. h (suc k) d (omega arith)), h 0 e (omega arith))

module _ (g new : Nodes) (root : ℕ) (is : IsGraph g) (may : MayGrow g new root) where
  abbrev after : Nodes
  after = grown g new root

  new_apart : (q : ℕ) → is_some (node new q) ≡ true → node g q ≡ None
  new_apart q t = ⊎_elim (λ none. none)
      (λ there. absurd (omega (arith, to_greatest g q is.in_order there, (at_numbered (greatest g + 1) new q may.numbered t).0))) (none_or_there (node g q))

  names_new : (q : ℕ) → All (λ e. names q (node after e.0) ≡ row_names q e.1) new
  names_new q k d l = at_one (get_or new k d) (found (greatest g + 1) new may.numbered k d l)
    where
      at_one : (e : ℕ × NodeRow) → node new e.0 ≡ Some e.1 → names q (node after e.0) ≡ row_names q e.1
      at_one e here = ap (names q) (node-grown g new root is may e.0) ∙ ap (λ o. names q (option_map (relinked g new root e.0) o)) (new_is g new root is may e.0 (new_apart e.0 (ap is_some here)) ∙ here)

  lost_is : (q : ℕ) → lost after root (down new) q ≡ gain new root q
  lost_is q = omega (arith, weighs (λ m. names q (node after m)) q new (names_new q))

  -- what a node loses again: a new one all that it has, an old one what it gained
  spent_new : (gain : ℕ) → 0 < gain → is_spent gain gain ≡ true
  spent_new gain some = grind (arith, nat_tests)

  spent_old : (links gain : ℕ) → 0 < links → is_spent (links + gain) gain ≡ false
  spent_old links gain some = grind (arith, nat_tests)

  module _ (linked : IsLinked g) (gains : (q : ℕ) → is_some (node new q) ≡ true → 0 < gain new root q) where
    module _ (q : ℕ) where
      at_new : (o : Option NodeRow) → o ≡ node new q → node g q ≡ None → (is_some o ≡ spends (gain new root q) (option_map (relinked g new root q) o)) × (less (gain new root q) (option_map (relinked g new root q) o) ≡ None)
      at_new None e none = (refl, refl)
      at_new (Some row) e none =
          let all : is_spent (links_of g q + gain new root q) (gain new root q) ≡ true
          = ap (λ n. is_spent (n + gain new root q) (gain new root q)) (ap links_in none) ∙ ap (λ n. is_spent n (gain new root q)) (zeroed (gain new root q)) ∙ spent_new (gain new root q) (gains q (ap is_some (sym e))) in
          (sym all, ap (λ b. cond b None (Some (with_links row (links_of g q + gain new root q - gain new root q)))) all)
        where
          zeroed : (n : ℕ) → 0 + n ≡ n
          zeroed n = omega arith

      at_old : (o : Option NodeRow) → node g q ≡ o → is_some o ≡ true → (false ≡ spends (gain new root q) (option_map (relinked g new root q) o)) × (less (gain new root q) (option_map (relinked g new root q) o) ≡ o)
      at_old None e t = absurd (cc t)
      at_old (Some row) e t =
          let few : is_spent (links_of g q + gain new root q) (gain new root q) ≡ false = spent_old (links_of g q) (gain new root q) (linked q (ap is_some e)) in
          let back : links_of g q + gain new root q - gain new root q ≡ row.links = omega (arith, ap links_in e) in
          (sym few, ap (λ b. cond b None (Some (with_links row (links_of g q + gain new root q - gain new root q)))) few ∙ ap (λ n. Some (with_links row n)) back)

      at_q : (is_some (node new q) ≡ spends (gain new root q) (node after q)) × (less (gain new root q) (node after q) ≡ node g q)
      at_q = ⊎_elim
          (λ none. let o = node-grown g new root is may q ∙ ap (option_map (relinked g new root q)) (new_is g new root is may q none) in
          let both = at_new (node new q) refl none in
          (both.0 ∙ ap (spends (gain new root q)) (sym o), ap (less (gain new root q)) o ∙ both.1 ∙ sym none))
          (λ t. let o = node-grown g new root is may q ∙ ap (option_map (relinked g new root q)) (old_is g new root is may q t) in
          let both = at_old (node g q) refl t in
          let apart : is_some (node new q) ≡ false = not_new (node new q) (new_apart q) t in
          (apart ∙ both.0 ∙ ap (spends (gain new root q)) (sym o), ap (less (gain new root q)) o ∙ both.1))
          (none_or_there (node g q))
        where
          not_new : (o : Option NodeRow) → (is_some o ≡ true → node g q ≡ None) → is_some (node g q) ≡ true → is_some o ≡ false
          not_new None f t = refl
          not_new (Some row) f t = let none = f refl in let some = t in cc

    pub new_go : IsGone after root (down new)
    new_go = record {
      greatest_first = falls (greatest g + 1) new may.numbered;
      spent = λ q. members new q ∙ (at_q q).0 ∙ ap (λ n. spends n (node after q)) (sym (lost_is q));
    }

    pub undone : (gone : List ℕ) → IsGone after root gone → after_loss after root gone ≡ g
    undone gone goes =
        let graph = grown_is_graph g new root is may in
        let same = gone_is_one after root gone (down new) graph goes new_go in
        ap (after_loss after root) same ∙ same_nodes (after_loss after root (down new)) g (sorted_left after root (down new) graph.in_order) is.in_order
        (λ q. node-left after root (down new) q graph new_go ∙ ap (λ n. less n (node after q)) (lost_is q) ∙ (at_q q).1)

  -- the root has a root link
  pub root_is_linked : 0 < root_links after root
  root_is_linked =
      let one : ◌≡◌ {A = ℕ} (cond (root == root) 1 0) 1 = (let t : (root == root) ≡ true = grind (arith, nat_tests) in ap (λ b. cond b 1 0) t) in
      omega (arith, named-grown g new root is may root, links-grown g new root is may root may.root_there, is.counted root, one)
