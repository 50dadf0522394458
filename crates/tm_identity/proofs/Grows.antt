-- A store grows by a snapshot.
use Rattle.std.proofs.Common.{suc, ◌≡◌, ◌≢◌, ℕ, ◌<◌, Bool, true, false, Option, Some, None, is_some, List, [], ◌∷◌, ◌++◌, refl, sym, ap, ◌∙◌, arith, subst, nat_eq, ⊎_elim, inl, inr, ◌⊎◌, ◌||◌}
use Rattle.std.specs.Option.{option_map, unwrap_or}
use Rattle.std.specs.Set.{is_member}
use Rattle.std.proofs.lemmas.Bool.{cases_eq}
use Rattle.std.proofs.lemmas.Bool.Decides.{nat_tests}
use Rattle.tm_base.proofs.Facts.{some_is}
use Rattle.tm_base.specs.Paths.{Names}
use Rattle.tm_tree.specs.declared.node.NodeRow.{NodeRow}
use Rattle.tm_graph.specs.Nodes.{Nodes, node}
use Rattle.tm_graph.proofs.Lost.{member_push}
use Rattle.tm_graph.specs.Trees.{number_at, number}
use Rattle.tm_identity.specs.Stores.{IsStore, IsUnderRoot, label_of}
use Rattle.tm_identity.specs.Removals.{TreesStay}
use Rattle.tm_identity.specs.Additions.{IsAddition}
use Rattle.tm_identity.proofs.Kept.{same_value, same_rows, stands_there, root_there}

module _ (g h : Nodes) (roots : List ℕ) (k : ℕ) (base : Option ℕ) (root : ℕ) (st : IsStore g roots) (add : IsAddition g h roots k base root) where
  -- the old nodes stand where they stood
  same_number : (n : ℕ) (p : Names) → is_some (node g n) ≡ true → number_at g n p ≡ number_at h n p
  same_number n p t = same_value number number g h st.graph add.keeps (λ n row other e f. refl) p n t

  same_label : (m : ℕ) → is_some (node g m) ≡ true → label_of g m ≡ label_of h m
  same_label m t = elim (node g m) as (λ o. node g m ≡ o → is_some o ≡ true → unwrap_or (option_map (λ (row : NodeRow). row.label) o) 0 ≡ label_of h m) [
    | None ↦ λ e t. cc
    | Some row ↦ λ e t. sym (ap (λ o. unwrap_or (option_map (λ (row : NodeRow). row.label) o) 0) (add.keeps m row e).1)
  ] refl t

  -- a node that stands in h stood in g, or is new beneath the new root
  abbrev Place : ℕ → Names → Type 0
  Place n p = ((r : ℕ) × IsUnderRoot g roots r p n) ⊎ ((is_some (node g n) ≡ true → ⊥) × (label_of h n ≡ k) × (number_at h root p ≡ Some n))

  new_root : (r : ℕ) → is_member nat_eq (roots ++ root ∷ []) r ≡ true → (is_member nat_eq roots r ≡ true) ⊎ (r ≡ root)
  new_root r m = by (is_member nat_eq roots r) refl (cases_eq r root)
    where
      by : (b : Bool) → is_member nat_eq roots r ≡ b → (r ≡ root) ⊎ (r ≢ root) → (is_member nat_eq roots r ≡ true) ⊎ (r ≡ root)
      by true e c = inl e
      by false e (inl s) = inr s
      by false e (inr ne) = absurd (none (sym (member_push roots root r) ∙ m))
        where
          none : (is_member nat_eq roots r || nat_eq r root) ≡ true → ⊥
          none h = grind (arith, nat_tests, h, e)

  old_stands : (r n : ℕ) (p : Names) → is_member nat_eq roots r ≡ true → number_at h r p ≡ Some n → IsUnderRoot g roots r p n
  old_stands r n p m e = (m, same_number r p (root_there g roots st r m) ∙ e)

  place_of : (r n : ℕ) (p : Names) → IsUnderRoot h (roots ++ root ∷ []) r p n → Place n p
  place_of r n p s = ⊎_elim (λ m. inl (r, old_stands r n p m s.1)) (λ e. beneath (subst (λ q. number_at h q p ≡ Some n) e s.1)) (new_root r s.0)
    where
      beneath : number_at h root p ≡ Some n → Place n p
      beneath e = ⊎_elim (λ old. inl (old.0, (add.based old.0 old.1, old.2))) (λ new. inr (new.0, new.1, e)) (add.copied p n e)

  old_there : (r n : ℕ) (p : Names) → IsUnderRoot g roots r p n → is_some (node g n) ≡ true
  old_there r n p s = stands_there g r n p st.graph (root_there g roots st r s.0) s.1

  one_path : (n : ℕ) (p q : Names) → Place n p → Place n q → p ≡ q
  one_path n p q (inl a) (inl b) = st.one_path a.0 b.0 n p q a.1 b.1
  one_path n p q (inl a) (inr b) = absurd (b.0 (old_there a.0 n p a.1))
  one_path n p q (inr a) (inl b) = absurd (a.0 (old_there b.0 n q b.1))
  one_path n p q (inr a) (inr b) = add.once p q n a.2 b.2 a.1

  old_label : (r n : ℕ) (p : Names) → IsUnderRoot g roots r p n → label_of h n < k
  old_label r n p s = let t = old_there r n p s in omega (arith, same_label n t, add.old_labels n t)

  one_node : (m n : ℕ) (p : Names) → Place m p → Place n p → label_of h m ≡ label_of h n → m ≡ n
  one_node m n p (inl a) (inl b) e = st.one_node a.0 b.0 m n p a.1 b.1 (same_label m (old_there a.0 m p a.1) ∙ e ∙ sym (same_label n (old_there b.0 n p b.1)))
  one_node m n p (inl a) (inr b) e = absurd (omega (arith, old_label a.0 m p a.1, b.1, e))
  one_node m n p (inr a) (inl b) e = absurd (omega (arith, old_label b.0 n p b.1, a.1, e))
  one_node m n p (inr a) (inr b) e = some_is m n (sym a.2 ∙ b.2)

  pub store_grown : IsStore h (roots ++ root ∷ [])
  store_grown = record {
    graph = add.graph;
    linked = add.linked;
    rooted = add.rooted;
    one_path = λ r s n p q a b. one_path n p q (place_of r n p a) (place_of s n q b);
    one_node = λ r s m n p a b e. one_node m n p (place_of r m p a) (place_of s n p b) e;
  }

  pub trees_grown : TreesStay g h roots
  trees_grown v w alike s m = same_rows v w g h st.graph add.keeps alike (suc s) s (root_there g roots st s m)
