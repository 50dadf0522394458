-- What stays of a graph stands where it stood.
use Rattle.std.proofs.Common.{suc, ◌≡◌, ℕ, ◌-◌, Bool, true, false, cond, Option, Some, None, is_some, List, refl, sym, ap, ◌∙◌, arith, nat_eq, count_by, ◌==◌}
use Rattle.std.specs.Option.{option_map, unwrap_or}
use Rattle.std.specs.Set.{is_member}
use Rattle.tm_base.specs.Paths.{Names}
use Rattle.tm_tree.specs.declared.node.NodeRow.{NodeRow}
use Rattle.tm_graph.specs.Nodes.{Nodes, node, root_links, IsGraph, with_links}
use Rattle.tm_graph.specs.Losing.{less, is_spent}
use Rattle.tm_graph.specs.Unlinking.{lost_all, AreLost, HaveRootLinks, after_losses}
use Rattle.tm_graph.specs.Trees.{number_at, number}
use Rattle.tm_graph.proofs.Climbs.{there}
use Rattle.tm_graph.proofs.Unlinked.{node-losses, losses_graph, losses_linked, roots-losses}
use Rattle.tm_identity.specs.Stores.{IsStore, IsUnderRoot, label_of}
use Rattle.tm_identity.specs.Removals.{TreesStay}
use Rattle.tm_identity.proofs.Kept.{IsPart, same_value, same_rows, stands_there, counted_member, member_counted}
use Rattle.tm_removal.specs.Removing.{IsSplit, IsStoreWithout}

pub may_go : (g : Nodes) (roots staying removed : List ℕ) → IsStore g roots → IsSplit roots staying removed → HaveRootLinks g removed
may_go g roots staying removed st split q = omega (arith, st.rooted q, split q)

-- a node that is left is one that was there, but for links
part_left : (g : Nodes) (removed gone thinned : List ℕ) → IsGraph g → AreLost g removed gone thinned → IsPart (after_losses g removed gone) g
part_left g removed gone thinned is goes n row e = by_node (node g n) (sym (node-losses g removed gone thinned is goes n) ∙ e)
  where
    by_node : (o : Option NodeRow) → less (lost_all g removed gone n) o ≡ Some row → (links : ℕ) × (o ≡ Some (with_links row links))
    by_node None e = cc
    by_node (Some old) e = by_spent (is_spent old.links (lost_all g removed gone n)) e
      where
        by_spent : (b : Bool) → cond b None (Some (with_links old (old.links - lost_all g removed gone n))) ≡ Some row → (links : ℕ) × (Some old ≡ Some (with_links row links))
        by_spent true e = cc
        by_spent false e = (old.links, ap (λ o. option_map (λ (r : NodeRow). with_links r old.links) o) e)

module _ (g : Nodes) (roots staying removed gone thinned : List ℕ) (st : IsStore g roots) (split : IsSplit roots staying removed) (goes : AreLost g removed gone thinned) where
  abbrev new : Nodes
  new = after_losses g removed gone

  may : HaveRootLinks g removed
  may = may_go g roots staying removed st split

  is_graph : IsGraph new
  is_graph = losses_graph g removed gone thinned st.graph goes may

  rooted_left : (q : ℕ) → root_links new q ≡ count_by (λ r. r == q) staying
  rooted_left q = omega (arith, roots-losses g removed gone thinned st.graph goes may q, st.rooted q, split q)

  was_root : (s : ℕ) → is_member nat_eq staying s ≡ true → is_member nat_eq roots s ≡ true
  was_root s m = member_counted roots s (omega (arith, split s, counted_member staying s m))

  stays : (s : ℕ) → is_member nat_eq staying s ≡ true → is_some (node new s) ≡ true
  stays s m = there new s (omega (arith, rooted_left s, counted_member staying s m))

  part : IsPart new g
  part = part_left g removed gone thinned st.graph goes

  pub same_number : (n : ℕ) (p : Names) → is_some (node new n) ≡ true → number_at new n p ≡ number_at g n p
  same_number n p t = same_value number number new g is_graph part (λ n row other e f. refl) p n t

  stood : (r n : ℕ) (p : Names) → IsUnderRoot new staying r p n → IsUnderRoot g roots r p n
  stood r n p h = (was_root r h.0, sym (same_number r p (stays r h.0)) ∙ h.1)

  same_label : (m : ℕ) → is_some (node new m) ≡ true → label_of new m ≡ label_of g m
  same_label m t = elim (node new m) as (λ o. node new m ≡ o → is_some o ≡ true → unwrap_or (option_map (λ (row : NodeRow). row.label) o) 0 ≡ label_of g m) [
    | None ↦ λ e t. cc
    | Some row ↦ λ e t. sym (ap (λ o. unwrap_or (option_map (λ (row : NodeRow). row.label) o) 0) (part m row e).1)
  ] refl t

  pub store_left : IsStore new staying
  store_left = record {
    graph = is_graph;
    linked = losses_linked g removed gone thinned st.graph goes st.linked;
    rooted = rooted_left;
    one_path = λ r s n p q h k. st.one_path r s n p q (stood r n p h) (stood s n q k);
    one_node = λ r s m n p h k e. st.one_node r s m n p (stood r m p h) (stood s n p k)
        (sym (same_label m (stands_there new r m p is_graph (stays r h.0) h.1)) ∙ e ∙ same_label n (stands_there new s n p is_graph (stays s k.0) k.1));
  }

  pub trees_left : TreesStay g new staying
  trees_left v w alike s m = sym (same_rows w v new g is_graph part (λ n row other e f. sym (alike n other row f e)) (suc s) s (stays s m))

pub is_left : (g : Nodes) (roots staying removed : List ℕ) → IsStore g roots → IsSplit roots staying removed → IsStoreWithout g roots staying removed
is_left g roots staying removed st split = record {
  may = may_go g roots staying removed st split;
  store = λ gone thinned goes. store_left g roots staying removed gone thinned st split goes;
  trees = λ gone thinned goes. trees_left g roots staying removed gone thinned st split goes;
}
