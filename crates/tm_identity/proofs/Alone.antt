-- A node stands in another snapshot exactly where it, or one on the way down to it, has more than one link.
use Rattle.std.proofs.Common.{◌≡◌, ◌≢◌, ℕ, ◌+◌, ◌<◌, ◌≤◌, true, false, cond, Some, None, List, [], ◌∷◌, ◌++◌, sym, ap, ◌∙◌, arith, subst, nat_eq, count_by, ◌==◌, inl, inr, ◌⊎◌}
use Rattle.std.specs.BTreeMap.{is_at}
use Rattle.std.specs.Ordering.{nat_cmp}
use Rattle.std.specs.Set.{is_member}
use Rattle.std.proofs.lemmas.Bool.{cases_eq}
use Rattle.std.proofs.lemmas.Bool.Decides.{nat_tests}
use Rattle.std.proofs.lemmas.List.Sums.{sum_by-cons, sum_by-append}
use Rattle.std.proofs.lemmas.Map.Entries.{sum_by-remove_entry}
use Rattle.tm_base.specs.Paths.{Names}
use Rattle.tm_graph.specs.Nodes.{Nodes, node, names, row_names, named, links_of}
use Rattle.tm_graph.proofs.Taken.{without, sorted_without, at-without}
use Rattle.tm_graph.proofs.Climbs.{there, namer}
use Rattle.tm_graph.specs.Trees.{child_of, number_at}
use Rattle.tm_identity.specs.Stores.{IsStore, IsUnderRoot}
use Rattle.tm_identity.proofs.Kept.{counted_member, member_counted}
use Rattle.tm_identity.proofs.Parents.{here, child_stands, folder_stands, child_named_by, named_once}
use Rattle.tm_identity.proofs.Holders.{holder, no_root, root_not_named, at_root_path}

module _ (g : Nodes) (before after : List ℕ) (r : ℕ) (st : IsStore g (before ++ r ∷ after)) where
  abbrev pub roots : List ℕ
  roots = before ++ r ∷ after

  abbrev pub others : List ℕ
  others = before ++ after

  -- node n stands at p in another snapshot
  abbrev pub Elsewhere : Names → ℕ → Type 0
  Elsewhere p n = (s : ℕ) × IsUnderRoot g others s p n

  counts : (q : ℕ) → count_by (λ s. s == q) roots ≡ count_by (λ s. s == q) others + cond (r == q) 1 0
  counts q = omega (arith, sum_by-append (λ (s : ℕ). cond (s == q) 1 0) before (r ∷ after), sum_by-append (λ (s : ℕ). cond (s == q) 1 0) before after, sum_by-cons (λ (s : ℕ). cond (s == q) 1 0) r after)

  pub among : (s : ℕ) → is_member nat_eq others s ≡ true → is_member nat_eq roots s ≡ true
  among s m = member_counted roots s (omega (arith, counts s, counted_member others s m))

  other : (s : ℕ) → is_member nat_eq roots s ≡ true → s ≢ r → is_member nat_eq others s ≡ true
  other s m ne = let none : ◌≡◌ {A = ℕ} (cond (r == s) 1 0) 0 = grind (arith, nat_tests) in member_counted others s (omega (arith, counts s, counted_member roots s m, none))

  pub root_stands : is_member nat_eq roots r ≡ true
  root_stands = let one : ◌≡◌ {A = ℕ} (cond (r == r) 1 0) 1 = grind (arith, nat_tests) in member_counted roots r (omega (arith, counts r, one))

  pub as_root : (s n : ℕ) (p : Names) → IsUnderRoot g others s p n → IsUnderRoot g roots s p n
  as_root s n p h = (among s h.0, h.1)

  some_same : (a b : ℕ) → Some a ≡ Some b → a ≡ b
  some_same a b e = cc

  -- two folders that name c
  two_namers : (f n c : ℕ) → f ≢ n → names c (node g f) + names c (node g n) ≤ named g c
  two_namers f n c ne =
      let first = sum_by-remove_entry (row_names c) (is_at (nat_cmp n)) g in
      let second = sum_by-remove_entry (row_names c) (is_at (nat_cmp f)) (without n g) in
      let apart : nat_eq n f ≡ false = grind (arith, nat_tests) in
      let same = ap (names c) (at-without n f g st.graph.in_order ∙ ap (λ b. cond b None (node g f)) apart) in
      omega (arith, first, second, same)

  module _ (p : Names) (n : ℕ) (stands : IsUnderRoot g roots r p n) (c : ℕ) (x : List ℕ) (child : child_of (node g n) x ≡ Some c) where
    -- where the folder stands elsewhere, so does the child
    pub elsewhere_down : Elsewhere p n → Elsewhere (p ++ x ∷ []) c
    elsewhere_down e = (e.0, (e.1.0, (child_stands g roots st e.0 n c p x (as_root e.0 n p e.1) child).1))

    pub child_here : IsUnderRoot g roots r (p ++ x ∷ []) c
    child_here = child_stands g roots st r n c p x stands child

    -- where it doesn't, the child does only if it has two links
    pub shared : (Elsewhere p n → ⊥) → Elsewhere (p ++ x ∷ []) c → 1 < links_of g c
    shared alone e =
        let f = folder_stands g roots st e.0 c p x (as_root e.0 c (p ++ x ∷ []) e.1) in
        let ne : f.0 ≢ n = λ same. alone (e.0, (e.1.0, f.1.1 ∙ ap Some same)) in
        let up = child_named_by g roots st f.0 c x f.2 in
        let mine = child_named_by g roots st n c x child in
        omega (arith, two_namers f.0 n c ne, up, mine, st.graph.counted c)

    -- and then it does
    pub shares : 1 < links_of g c → Elsewhere (p ++ x ∷ []) c
    shares two =
        let others_name = sum_by-remove_entry (row_names c) (is_at (nat_cmp n)) g in
        let none = no_root g roots st c p x r child_here in
        let many : 0 < named (without n g) c = omega (arith, others_name, two, none, named_once g roots st n c) in
        let f = namer (without n g) c (sorted_without n g st.graph.in_order) many in
        by_number f.0 f.1 (cases_eq n f.0)
      where
        by_number : (f : ℕ) → 0 < names c (node (without n g) f) → (n ≡ f) ⊎ (n ≢ f) → Elsewhere (p ++ x ∷ []) c
        by_number f l (inl e) =
            let same : nat_eq n f ≡ true = grind (arith, nat_tests) in
            let none = ap (names c) (at-without n f g st.graph.in_order ∙ ap (λ b. cond b None (node g f)) same) in absurd (omega (arith, l, none))
        by_number f l (inr ne) =
            let apart : nat_eq n f ≡ false = grind (arith, nat_tests) in
            let named_by = ap (names c) (at-without n f g st.graph.in_order ∙ ap (λ b. cond b None (node g f)) apart) in
            let h = holder g roots st c p x r child_here f (omega (arith, l, named_by)) in
            let not_r : h.0 ≢ r = λ e. ne (some_same n f (sym stands.1 ∙ ap (λ s. number_at g s p) (sym e) ∙ h.1.1)) in
            let at = child_stands g roots st h.0 f c p x h.1 h.2 in
            (h.0, (other h.0 at.0 not_r, at.1))

  -- ---- the root

  pub own : IsUnderRoot g roots r [] r
  own = (root_stands, here g roots st r (there g r (omega (arith, st.rooted r, counted_member roots r root_stands))))

  pub root_shared : Elsewhere [] r → 1 < links_of g r
  root_shared e =
      let same = at_root_path g roots st e.0 r (as_root e.0 r [] e.1) in
      let more = counted_member others r (subst (λ s. is_member nat_eq others s ≡ true) same e.1.0) in
      let one : ◌≡◌ {A = ℕ} (cond (r == r) 1 0) 1 = grind (arith, nat_tests) in
      omega (arith, more, counts r, st.rooted r, one)

  pub root_shares : 1 < links_of g r → Elsewhere [] r
  root_shares two =
      let one : ◌≡◌ {A = ℕ} (cond (r == r) 1 0) 1 = grind (arith, nat_tests) in
      (r, (member_counted others r (omega (arith, two, counts r, st.rooted r, one, root_not_named g roots st r own)), own.1))
