-- Records that keep the rules are a store of identities.
use Rattle.std.proofs.Common.{◌≡◌, ⊎_elim, ℕ, ◌<◌, ◌≤◌, Option, Some, None, List, [], ◌∷◌, slice_get, refl, sym, ap, ◌∙◌, arith, subst}
use Rattle.std.specs.Option.{option_map, unwrap_or}
use Rattle.std.proofs.lemmas.Bool.{cases_lt}
use Rattle.tm_base.specs.Paths.{Names}
use Rattle.tm_tree.specs.declared.node.NodeRow.{NodeRow}
use Rattle.tm_graph.specs.Nodes.{Nodes, node, entries_of}
use Rattle.tm_graph.specs.Trees.{child_of, and_then, number_at, number}
use Rattle.tm_graph.proofs.WaysFound.{times_named}
use Rattle.tm_identity.specs.Stores.{IsUnderRoot, label_of}
use Rattle.tm_store_records.specs.Places.{LeadsDown, NodeStandsAt}
use Rattle.tm_store_records.specs.Rules.{IsGoodNode}
use Rattle.tm_store_records.proofs.NextKeyLemmas.{Sorted}
use Rattle.tm_store_records.proofs.Placed.{place_of}

-- nodes that keep the rules, each by itself
abbrev pub AllGood : Nodes → List ℕ → ℕ → Type 0
AllGood g roots number = (place : ℕ) (e : ℕ × NodeRow) → slice_get g place ≡ Some e → IsGoodNode g roots number place e.0 e.1

module _ (g : Nodes) (roots : List ℕ) (next : ℕ) (sorted : Sorted g) (good : AllGood g roots next) where
  -- a node that is there keeps the rules
  pub record Kept (n : ℕ) (row : NodeRow) : Type 0 where
    pub place : ℕ
    pub rules : IsGoodNode g roots next place n row

  pub kept : (n : ℕ) (row : NodeRow) → node g n ≡ Some row → Kept n row
  kept n row e = let there = place_of g n row e in record { place = there.0; rules = good there.0 (n, row) there.1 }

  -- a child is lower
  pub child_low : (n m : ℕ) (name : List ℕ) → child_of (node g n) name ≡ Some m → m < n
  child_low n m name e = by_node (node g n) refl e
    where
      by_node : (o : Option NodeRow) → node g n ≡ o → child_of o name ≡ Some m → m < n
      by_node None h c = absurd (cc c)
      by_node (Some row) h c = let rules = (kept n row h).rules in (rules.children m (times_named (entries_of row) name m c)).0

  -- the way down leads there
  pub way_leads : (p : Names) (n m : ℕ) → number_at g n p ≡ Some m → LeadsDown g n p m
  way_leads [] n m e = by_node (node g n) e
    where
      by_node : (o : Option NodeRow) → option_map (number n) o ≡ Some m → n ≡ m
      by_node None h = absurd (cc h)
      by_node (Some row) h = cc
  way_leads (x ∷ p) n m e = by_child (child_of (node g n) x) refl e (λ k h. way_leads p k m h)
    where
      by_child : (o : Option ℕ) → child_of (node g n) x ≡ o → and_then o (λ k. number_at g k p) ≡ Some m → ((k : ℕ) → number_at g k p ≡ Some m → LeadsDown g k p m) → LeadsDown g n (x ∷ p) m
      by_child None c h rest = absurd (cc h)
      by_child (Some k) c h rest = (k, c, child_low n k x c, rest k h)

  pub stands : (r n : ℕ) (p : Names) → IsUnderRoot g roots r p n → NodeStandsAt g roots p n
  stands r n p s = record { root = r; is_root = s.0; leads = way_leads p r n s.1 }

  -- what stands is there
  pub there : (p : Names) (r n : ℕ) → number_at g r p ≡ Some n → (row : NodeRow) × (node g n ≡ Some row)
  there [] r n e = by_node (node g r) refl e
    where
      by_node : (o : Option NodeRow) → node g r ≡ o → option_map (number r) o ≡ Some n → (row : NodeRow) × (node g n ≡ Some row)
      by_node None h f = absurd (cc f)
      by_node (Some row) h f = let same : r ≡ n = cc in (row, subst (λ k. node g k ≡ Some row) same h)
  there (x ∷ p) r n e = by_child (child_of (node g r) x) e (λ k h. there p k n h)
    where
      by_child : (o : Option ℕ) → and_then o (λ k. number_at g k p) ≡ Some n → ((k : ℕ) → number_at g k p ≡ Some n → (row : NodeRow) × (node g n ≡ Some row)) → (row : NodeRow) × (node g n ≡ Some row)
      by_child None h rest = absurd (cc h)
      by_child (Some k) h rest = rest k h

  pub one_path : (r s n : ℕ) (p q : Names) → IsUnderRoot g roots r p n → IsUnderRoot g roots s q n → p ≡ q
  one_path r s n p q a b =
      let here = there p r n a.1 in
      let rules = (kept n here.0 here.1).rules in
      rules.one_path p q (stands r n p a) (stands s n q b)

  label_is : (n : ℕ) (row : NodeRow) → node g n ≡ Some row → label_of g n ≡ row.label
  label_is n row e = ap (λ (o : Option NodeRow). unwrap_or (option_map (λ row. row.label) o) 0) e

  lower_not : (r s m n : ℕ) (p : Names) → m < n → IsUnderRoot g roots r p m → IsUnderRoot g roots s p n → label_of g m ≡ label_of g n → ⊥
  lower_not r s m n p lt a b same =
      let low = there p r m a.1 in
      let high = there p s n b.1 in
      let rules = (kept n high.0 high.1).rules in
      rules.one_node m low.0 p lt low.1 (sym (label_is m low.0 low.1) ∙ same ∙ label_is n high.0 high.1) (stands r m p a) (stands s n p b)

  pub one_node : (r s m n : ℕ) (p : Names) → IsUnderRoot g roots r p m → IsUnderRoot g roots s p n → label_of g m ≡ label_of g n → m ≡ n
  one_node r s m n p a b same = ⊎_elim
      (λ (lt : m < n). absurd (lower_not r s m n p lt a b same))
      (λ (le : n ≤ m). ⊎_elim
      (λ (gt : n < m). absurd (lower_not s r n m p gt b a (sym same)))
      (λ (ge : m ≤ n). omega arith)
      (cases_lt n m))
      (cases_lt m n)
