-- What stands at a path beneath a node.
use Rattle.std.proofs.Common.{◌≡◌, ℕ, true, Option, Some, None, is_some, [], ◌∷◌, ◌++◌, refl, sym, ap, ◌∙◌, subst}
use Rattle.std.specs.Option.{option_map}
use Rattle.tm_base.specs.Paths.{Names}
use Rattle.tm_tree.specs.declared.node.NodeRow.{NodeRow}
use Rattle.tm_graph.specs.Nodes.{Nodes, node}
use Rattle.tm_graph.specs.Trees.{child_of, and_then, value_at, number_at, number}

pub some_there : {X : Type 0} (o : Option X) (x : X) → o ≡ Some x → is_some o ≡ true
some_there o x e = ap is_some e

pub not_both : {X : Type 0} (o : Option X) → o ≡ None → is_some o ≡ true → ⊥
not_both None e t = cc
not_both (Some x) e t = cc

-- what the way comes to is there
pub number_there : (h : Nodes) (n m : ℕ) (p : Names) → number_at h n p ≡ Some m → is_some (node h m) ≡ true
number_there h n m [] e = by_node (node h n) refl e
  where
    by_node : (o : Option NodeRow) → node h n ≡ o → option_map (number n) o ≡ Some m → is_some (node h m) ≡ true
    by_node None is e = absurd (cc e)
    by_node (Some row) is e = let same : n ≡ m = cc e in subst (λ k. is_some (node h k) ≡ true) same (ap is_some is)
number_there h n m (x ∷ p) e = by_child (child_of (node h n) x) e (λ k. number_there h k m p)
  where
    by_child : (o : Option ℕ) → and_then o (λ k. number_at h k p) ≡ Some m → ((k : ℕ) → number_at h k p ≡ Some m → is_some (node h m) ≡ true) → is_some (node h m) ≡ true
    by_child None e f = absurd (cc e)
    by_child (Some k) e f = f k e

-- a node that is there stands beneath itself
pub number_here : (h : Nodes) (n : ℕ) → is_some (node h n) ≡ true → number_at h n [] ≡ Some n
number_here h n t = elim (node h n) as (λ o. is_some o ≡ true → option_map (number n) o ≡ Some n) [ None ↦ λ t. absurd (cc t) | Some row ↦ λ t. refl ] t

-- beneath a node that isn't there is nothing
pub nowhere : {X : Type 0} (v : ℕ → NodeRow → X) (h : Nodes) (n : ℕ) (p : Names) → node h n ≡ None → value_at v h n p ≡ None
nowhere v h n [] e = ap (option_map (v n)) e
nowhere v h n (x ∷ p) e = ap (λ o. and_then (child_of o x) (λ m. value_at v h m p)) e

-- a way in two parts
by_step : (h : Nodes) (p q : Names) (o : Option ℕ) → ((k : ℕ) → number_at h k (p ++ q) ≡ and_then (number_at h k p) (λ m. number_at h m q))
    → and_then o (λ k. number_at h k (p ++ q)) ≡ and_then (and_then o (λ k. number_at h k p)) (λ m. number_at h m q)
by_step h p q None f = refl
by_step h p q (Some k) f = f k

pub number_at-append : (h : Nodes) (n : ℕ) (p q : Names) → number_at h n (p ++ q) ≡ and_then (number_at h n p) (λ m. number_at h m q)
number_at-append h n [] q = by_node (node h n) refl
  where
    by_node : (o : Option NodeRow) → node h n ≡ o → number_at h n q ≡ and_then (option_map (number n) (node h n)) (λ m. number_at h m q)
    by_node None e = nowhere number h n q e ∙ sym (ap (λ (o : Option NodeRow). and_then (option_map (number n) o) (λ m. number_at h m q)) e)
    by_node (Some row) e = sym (ap (λ (o : Option NodeRow). and_then (option_map (number n) o) (λ m. number_at h m q)) e)
number_at-append h n (x ∷ p) q = by_step h p q (child_of (node h n) x) (λ k. number_at-append h k p q)
