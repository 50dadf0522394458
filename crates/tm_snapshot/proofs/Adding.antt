-- The grown graph is a store with a snapshot more.
use Rattle.std.proofs.Common.{zero, suc, ◌≡◌, ◌≢◌, inl, inr, ⊎_elim, ℕ, ◌+◌, ◌-◌, ◌<◌, ◌==◌, ◌||◌, Bool, true, false, cond, Option, Some, None, is_some, List, [], ◌∷◌, ◌++◌, length, count_by, nat_eq, refl, sym, ap, ◌∙◌, arith, subst}
use Rattle.std.specs.Prelude.{slice_get}
use Rattle.std.specs.Option.{option_map, unwrap_or}
use Rattle.std.specs.Set.{is_member}
use Rattle.std.proofs.lemmas.Bool.{cases_eq}
use Rattle.std.proofs.lemmas.Bool.Decides.{nat_tests}
use Rattle.std.proofs.lemmas.List.Sums.{sum_by-cons, sum_by-append}
use Rattle.tm_base.specs.Paths.{Names}
use Rattle.tm_tree.specs.declared.node.NodeRow.{NodeRow}
use Rattle.tm_graph.specs.Nodes.{Nodes, node, links_of, root_links, greatest, with_links, IsGraph, IsLinked}
use Rattle.tm_graph.specs.Trees.{number_at, number}
use Rattle.tm_graph.specs.Growing.{grown, relinked, gain}
use Rattle.tm_graph.proofs.Growing.{none_or_there, old_is, new_is, grown_is_graph, node-grown, named-grown, links-grown}
use Rattle.tm_identity.specs.Stores.{IsStore, label_of}
use Rattle.tm_identity.specs.Removals.{TreesStay}
use Rattle.tm_identity.specs.Additions.{IsAddition, IsCopied, HasNodesOf}
use Rattle.tm_identity.proofs.Kept.{IsPart, same_value, stands_there}
use Rattle.tm_identity.proofs.Grows.{store_grown, trees_grown}
use Rattle.tm_store_records.specs.Built.{all_nodes}
use Rattle.tm_store_records.specs.Found.{roots_of}
use Rattle.tm_snapshot.proofs.Finishing.{Joining}
use Rattle.tm_snapshot.proofs.Olds.{label_low}
use Rattle.tm_snapshot.proofs.Joined.{may_grow, gains, new_number, folder_there}

pub member_at : (xs : List ℕ) (i b : ℕ) → slice_get xs i ≡ Some b → is_member nat_eq xs b ≡ true
member_at [] i b is = absurd (cc is)
member_at (x ∷ xs) zero b is = let same : x ≡ b = cc in grind (arith, nat_tests)
member_at (x ∷ xs) (suc i) b is = let rest = member_at xs i b is in either (nat_eq b x) rest
  where
    either : (t : Bool) → is_member nat_eq xs b ≡ true → (t || is_member nat_eq xs b) ≡ true
    either true h = refl
    either false h = h

abbrev links_in : Option NodeRow → ℕ
links_in o = unwrap_or (option_map (λ row. row.links) o) 0

abbrev label_in : Option NodeRow → ℕ
label_in o = unwrap_or (option_map (λ row. row.label) o) 0

module _ (j : Joining) where
  open j use {h, built, is_built, old}

  abbrev g : Nodes
  g = h.nodes

  abbrev new : Nodes
  new = built.nodes

  abbrev root : ℕ
  root = built.root

  abbrev roots : List ℕ
  roots = roots_of h.snapshots

  abbrev all : Nodes
  all = all_nodes h built

  abbrev after : Nodes
  after = grown g new root

  pub is_graph : IsGraph after
  is_graph = grown_is_graph g new root old.store.graph (may_grow j)

  pub node_after : (q : ℕ) → node after q ≡ option_map (relinked g new root q) (node all q)
  node_after q = node-grown g new root old.store.graph (may_grow j) q

  -- an old node is there with links more, a new one with its links
  pub was : (q : ℕ) → is_some (node g q) ≡ true → node all q ≡ node g q
  was q t = old_is g new root old.store.graph (may_grow j) q t

  pub comes : (q : ℕ) → node g q ≡ None → node all q ≡ node new q
  comes q none = new_is g new root old.store.graph (may_grow j) q none

  pub keeps : HasNodesOf g after
  keeps n row e = (links_of g n + gain new root n, node_after n ∙ ap (option_map (relinked g new root n)) (was n (ap (λ (o : Option NodeRow). is_some o) e) ∙ e))

  pub part : IsPart after all
  part n row e = by_node (node all n) (sym (node_after n) ∙ e)
    where
      by_node : (o : Option NodeRow) → option_map (relinked g new root n) o ≡ Some row → (links : ℕ) × (o ≡ Some (with_links row links))
      by_node None h = absurd (cc h)
      by_node (Some first) h = (first.links, ap (λ o. option_map (λ (r : NodeRow). with_links r first.links) o) h)

  pub there_after : (q : ℕ) → is_some (node all q) ≡ true → is_some (node after q) ≡ true
  there_after q t = ap (λ (o : Option NodeRow). is_some o) (node_after q) ∙ by_node (node all q) t
    where
      by_node : (o : Option NodeRow) → is_some o ≡ true → is_some (option_map (relinked g new root q) o) ≡ true
      by_node None t = cc
      by_node (Some row) t = refl

  pub there_before : (q : ℕ) → is_some (node after q) ≡ true → is_some (node all q) ≡ true
  there_before q t = by_node (node all q) (sym (ap (λ (o : Option NodeRow). is_some o) (node_after q)) ∙ t)
    where
      by_node : (o : Option NodeRow) → is_some (option_map (relinked g new root q) o) ≡ true → is_some o ≡ true
      by_node None t = cc
      by_node (Some row) t = refl

  pub root_is_there : is_some (node after root) ≡ true
  root_is_there = there_after root (folder_there (node all root) is_built.root)

  -- the ways down are those of all nodes
  pub same_way : (n : ℕ) (p : Names) → is_some (node after n) ≡ true → number_at after n p ≡ number_at all n p
  same_way n p t = same_value number number after all is_graph part (λ n row other e f. refl) p n t

  pub label_after : (n : ℕ) → label_of after n ≡ label_of all n
  label_after n = ap label_in (node_after n) ∙ by_node (node all n)
    where
      by_node : (o : Option NodeRow) → label_in (option_map (relinked g new root n) o) ≡ label_in o
      by_node None = refl
      by_node (Some row) = refl

  -- ---- links

  links_after : (q : ℕ) → is_some (node all q) ≡ true → links_of after q ≡ links_of g q + gain new root q
  links_after q t = links-grown g new root old.store.graph (may_grow j) q t

  pub is_linked : IsLinked after
  is_linked q t =
      let here = there_before q t in
      let links = links_after q here in
      ⊎_elim
      (λ none. let more = gains j q (subst (λ (o : Option NodeRow). is_some o ≡ true) (comes q none) here) in omega (arith, links, more))
      (λ there. let some = old.store.linked q there in omega (arith, links, some))
      (none_or_there (node g q))

  one_root : (q : ℕ) → count_by (λ r. r == q) (roots ++ root ∷ []) ≡ count_by (λ r. r == q) roots + cond (q == root) 1 0
  one_root q =
      let same : (root == q) ≡ (q == root) = grind (arith, nat_tests) in
      let one : ◌≡◌ {A = ℕ} (cond (root == q) 1 0) (cond (q == root) 1 0) = ap (λ b. cond b 1 0) same in
      omega (arith, sum_by-append (λ (r : ℕ). cond (r == q) 1 0) roots (root ∷ []), sum_by-cons (λ (r : ℕ). cond (r == q) 1 0) root [], one)

  pub is_rooted : (q : ℕ) → root_links after q ≡ count_by (λ r. r == q) (roots ++ root ∷ [])
  is_rooted q =
      let names = named-grown g new root old.store.graph (may_grow j) q in
      let rooted = old.store.rooted q in
      let counted = old.store.graph.counted q in
      let one = one_root q in
      ⊎_elim
      (λ (none : node all q ≡ None).
      let gone : links_of after q ≡ 0 = ap links_in (node_after q ∙ ap (option_map (relinked g new root q)) none) in
      let never : links_of g q ≡ 0 = nowhere q none in
      let other : ◌≡◌ {A = ℕ} (cond (q == root) 1 0) 0 = ap (λ b. cond b 1 0) (not_root q none) in
      omega (arith, names, rooted, counted, one, gone, never, other))
      (λ there. let links = links_after q there in omega (arith, names, rooted, counted, one, links))
      (none_or_there (node all q))
    where
      nowhere : (q : ℕ) → node all q ≡ None → links_of g q ≡ 0
      nowhere q none = ⊎_elim (λ gone. ap links_in gone) (λ there. absurd (let bad : false ≡ true = sym (ap (λ (o : Option NodeRow). is_some o) none) ∙ ap (λ (o : Option NodeRow). is_some o) (was q there) ∙ there in cc)) (none_or_there (node g q))

      not_root : (q : ℕ) → node all q ≡ None → (q == root) ≡ false
      not_root q none = ⊎_elim
          (λ (same : q ≡ root). absurd (let there = folder_there (node all root) is_built.root in let bad : false ≡ true = sym (ap (λ (o : Option NodeRow). is_some o) none) ∙ ap (λ k. is_some (node all k)) same ∙ there in cc))
          (λ (other : q ≢ root). grind (arith, nat_tests))
          (cases_eq q root)

  -- ---- the addition

  based : (b : ℕ) → is_built.base ≡ Some b → is_member nat_eq roots b ≡ true
  based b e = ⊎_elim
      (λ none. absurd (let bad : None ≡ Some b = sym none ∙ e in cc))
      (λ last. member_at roots (length h.snapshots - 1) b (sym last ∙ e))
      is_built.over

  copied : (p : Names) (n : ℕ) → number_at after root p ≡ Some n → IsCopied g after h.number is_built.base p n
  copied p n e = ⊎_elim (λ base. inl base) (λ fresh. inr (fresh.0, label_after n ∙ fresh.1)) (is_built.copied p n (sym (same_way root p root_is_there) ∙ e))

  -- one that has the new label is new
  pub fresh : (n : ℕ) → is_some (node after n) ≡ true → label_of after n ≡ h.number → greatest g < n
  fresh n t label = ⊎_elim
      (λ none. let above = (new_number j n (subst (λ (o : Option NodeRow). is_some o ≡ true) (comes n none) (there_before n t))).0 in omega (arith, above))
      (λ there. absurd (let low = label_low g h.snapshots h.number old n there in let same = ap label_in (was n there) in omega (arith, low, same, label, label_after n)))
      (none_or_there (node g n))

  pub added : IsAddition g after roots h.number is_built.base root
  added = record {
    graph = is_graph;
    linked = is_linked;
    rooted = is_rooted;
    keeps = keeps;
    old_labels = label_low g h.snapshots h.number old;
    based = based;
    copied = copied;
    once = λ p q n a b label. (let t = stands_there after root n p is_graph root_is_there a in
        is_built.once p q n (sym (same_way root p root_is_there) ∙ a) (sym (same_way root q root_is_there) ∙ b) (fresh n t label));
  }

  pub is_store : IsStore after (roots ++ root ∷ [])
  is_store = store_grown g after roots h.number is_built.base root old.store added

  pub trees_stay : TreesStay g after roots
  trees_stay = trees_grown g after roots h.number is_built.base root old.store added
