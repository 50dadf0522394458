-- The rules of a node that no place is asked for.
use Rattle.std.proofs.Common.{◌≡◌, ℕ, ◌+◌, ◌<◌, ◌==◌, ◌&&◌, Bool, true, false, cond, is_some, nat_lt, List, [], ◌∷◌, refl, sym, ◌∙◌, arith, subst}
use Rattle.std.specs.List.{list_all}
use Rattle.std.proofs.lemmas.Bool.Decides.{nat_tests}
use Rattle.std.proofs.lemmas.List.Sums.{sum_by-cons}
use Rattle.tm_tree.specs.declared.node.Child.{Child}
use Rattle.tm_graph.specs.Nodes.{Nodes, node, times}

and_parts : (a b : Bool) → (a && b) ≡ true → (a ≡ true) × (b ≡ true)
and_parts true b e = (refl, e)
and_parts false b e = absurd (cc e)

still : (b : Bool) (t : ℕ) → 0 < t → 0 < cond b 1 0 + t
still true t h = omega (arith, h)
still false t h = omega (arith, h)

skipped : (b : Bool) (t : ℕ) → b ≡ false → cond b 1 0 + t ≡ t
skipped true t e = absurd (cc e)
skipped false t e = omega arith

counted_once : (b : Bool) (t : ℕ) → b ≡ true → 0 < cond b 1 0 + t
counted_once true t e = omega arith
counted_once false t e = absurd (cc e)

times_cons : (q : ℕ) (c : Child) (es : List Child) → times q (c ∷ es) ≡ cond (c.node == q) 1 0 + times q es
times_cons q c es = sum_by-cons (λ (child : Child). cond (child.node == q) 1 0) c es

same_number : (n : ℕ) → (n == n) ≡ true
same_number n = grind (arith, nat_tests)

abbrev is_lower : Nodes → ℕ → Child → Bool
is_lower g n child = nat_lt child.node n && is_some (node g child.node)

-- each number that they name is lower and there
pub lower_each : (g : Nodes) (n : ℕ) (es : List Child) → list_all (λ child. nat_lt child.node n && is_some (node g child.node)) es ≡ true → (q : ℕ) → 0 < times q es → (q < n) × (is_some (node g q) ≡ true)
lower_each g n [] all q named = absurd (omega (arith, named))
lower_each g n (c ∷ es) all q named = by_name (c.node == q) refl (λ more. lower_each g n es parts.1 q more)
  where
    parts : (is_lower g n c ≡ true) × (list_all (λ child. nat_lt child.node n && is_some (node g child.node)) es ≡ true)
    parts = and_parts (is_lower g n c) (list_all (λ child. nat_lt child.node n && is_some (node g child.node)) es) all

    by_name : (b : Bool) → (c.node == q) ≡ b → (0 < times q es → (q < n) × (is_some (node g q) ≡ true)) → (q < n) × (is_some (node g q) ≡ true)
    by_name true t later =
        let same : c.node ≡ q = grind (arith, nat_tests) in
        let two = and_parts (nat_lt c.node n) (is_some (node g c.node)) parts.0 in
        let lt : nat_lt c.node n ≡ true = two.0 in
        (grind (arith, nat_tests), subst (λ k. is_some (node g k) ≡ true) same two.1)
    by_name false t later = later (subst (λ k. 0 < k) (times_cons q c es ∙ skipped (c.node == q) (times q es) t) named)

pub each_lower : (g : Nodes) (n : ℕ) (es : List Child) → ((q : ℕ) → 0 < times q es → (q < n) × (is_some (node g q) ≡ true)) → list_all (λ child. nat_lt child.node n && is_some (node g child.node)) es ≡ true
each_lower g n [] each = refl
each_lower g n (c ∷ es) each =
    let here = each c.node (subst (λ k. 0 < k) (sym (times_cons c.node c es)) (counted_once (c.node == c.node) (times c.node es) (same_number c.node))) in
    let lt : nat_lt c.node n ≡ true = (let low = here.0 in grind (arith, nat_tests)) in
    (λ i. (lt i && here.1 i) && list_all (λ child. nat_lt child.node n && is_some (node g child.node)) es)
    ∙ each_lower g n es (λ q more. each q (subst (λ k. 0 < k) (sym (times_cons q c es)) (still (c.node == q) (times q es) more)))

pub lower_both : (g : Nodes) (n : ℕ) (es : List Child) (b : Bool) → b ≡ list_all (λ child. nat_lt child.node n && is_some (node g child.node)) es → (b ≡ true → (q : ℕ) → 0 < times q es → (q < n) × (is_some (node g q) ≡ true)) × (((q : ℕ) → 0 < times q es → (q < n) × (is_some (node g q) ≡ true)) → b ≡ true)
lower_both g n es b is = (λ t. lower_each g n es (sym is ∙ t), λ each. is ∙ each_lower g n es each)
