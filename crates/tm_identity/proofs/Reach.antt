-- The numbers at and beneath a node, and each number of the graph once.
use Rattle.std.proofs.Common.{zero, suc, ◌≡◌, ◌≢◌, ℕ, ◌+◌, ◌<◌, ◌≤◌, Bool, true, false, cond, not, Option, Some, None, is_some, List, [], ◌∷◌, ◌++◌, filter, refl, sym, ap, ◌∙◌, arith, subst, nat_eq, ⊎_elim, sum_by, ◌==◌, inl, inr, ◌⊎◌, ◌||◌, ◌&&◌, append_assoc, append-nil}
use Rattle.std.specs.List.{AllByRecursion, IsDistinct, flat_map}
use Rattle.std.specs.Option.{option_map}
use Rattle.std.specs.Ordering.{nat_cmp}
use Rattle.std.specs.declared.cmp.Ordering.TheVariants.{Less, Equal}
use Rattle.std.specs.Cmp.{tied_itself, eq_by_cmp_equiv, nat_cmp_total, nat_eq_equiv}
use Rattle.std.specs.Cmp.Lexicographic.{slice_cmp, nat_list_cmp_total}
use Rattle.std.specs.Set.{is_member}
use Rattle.std.proofs.lemmas.Bool.{cases_eq, cases_lt}
use Rattle.std.proofs.lemmas.Bool.Decides.{nat_tests}
use Rattle.std.proofs.lemmas.List.Sums.{sum_by-cons}
use Rattle.std.proofs.lemmas.Map.Made.{nil_from_lookup, is_member-filter}
use Rattle.tm_base.specs.Paths.{Names}
use Rattle.tm_tree.specs.declared.node.Child.{Child}
use Rattle.tm_tree.specs.declared.node.NodeRow.{NodeRow}
use Rattle.tm_graph.specs.Nodes.{Nodes, node, entries_of, names}
use Rattle.tm_graph.specs.Losing.{without_all}
use Rattle.tm_graph.specs.Trees.{child_of, and_then, number_at, number}
use Rattle.tm_graph.proofs.Left.{at-without_all}
use Rattle.tm_graph.proofs.ChildLemmas.{RiseEach, rise_each}
use Rattle.tm_identity.specs.Stores.{IsStore, IsUnderRoot}
use Rattle.tm_identity.proofs.Kept.{root_there}
use Rattle.tm_identity.proofs.Parents.{here, there_at, child_stands, stands_somewhere, child_named_by}
use Rattle.tm_identity.proofs.Others.{each, children}

-- the numbers at and beneath n
abbrev pub nums_with : Option NodeRow → ℕ → (ℕ → List ℕ) → List ℕ
nums_with None n nums = []
nums_with (Some row) n nums = n ∷ flat_map (λ (c : Child). nums c.node) (entries_of row)

abbrev pub nums : ℕ → Nodes → ℕ → List ℕ
nums zero g n = []
nums (suc depth) g n = nums_with (node g n) n (nums depth g)

abbrev pub all_nums : Nodes → List ℕ → List ℕ
all_nums g rs = flat_map (λ r. nums (suc r) g r) rs

member_append : (a b : List ℕ) (q : ℕ) → is_member nat_eq (a ++ b) q ≡ (is_member nat_eq a q || is_member nat_eq b q)
member_append [] b q = refl
member_append (x ∷ a) b q = elim (nat_eq q x) as (λ t. (t || is_member nat_eq (a ++ b) q) ≡ ((t || is_member nat_eq a q) || is_member nat_eq b q)) [ true ↦ refl | false ↦ member_append a b q ]

in_left : (a b : List ℕ) (q : ℕ) → is_member nat_eq a q ≡ true → is_member nat_eq (a ++ b) q ≡ true
in_left a b q h = member_append a b q ∙ ap (λ t. t || is_member nat_eq b q) h

in_right : (a b : List ℕ) (q : ℕ) → is_member nat_eq b q ≡ true → is_member nat_eq (a ++ b) q ≡ true
in_right a b q h = member_append a b q ∙ by (is_member nat_eq a q) h
  where
    by : (t : Bool) → is_member nat_eq b q ≡ true → (t || is_member nat_eq b q) ≡ true
    by true h = refl
    by false h = h

in_one : (a b : List ℕ) (q : ℕ) → is_member nat_eq (a ++ b) q ≡ true → (is_member nat_eq a q ≡ true) ⊎ (is_member nat_eq b q ≡ true)
in_one a b q h = by (is_member nat_eq a q) refl (sym (member_append a b q) ∙ h)
  where
    by : (t : Bool) → is_member nat_eq a q ≡ t → (t || is_member nat_eq b q) ≡ true → (is_member nat_eq a q ≡ true) ⊎ (is_member nat_eq b q ≡ true)
    by true e h = inl e
    by false e h = inr h

apart_from : (x : ℕ) (a : List ℕ) → (is_member nat_eq a x ≡ true → ⊥) → AllByRecursion (λ y. nat_eq x y ≡ false) a
apart_from x [] h = tt
apart_from x (y ∷ a) h = (ne (nat_eq x y) refl (λ e. h (ap (λ b. b || is_member nat_eq a x) e)), apart_from x a (λ m. h (more m)))
  where
    ne : (b : Bool) → nat_eq x y ≡ b → (nat_eq x y ≡ true → ⊥) → nat_eq x y ≡ false
    ne true e f = absurd (f e)
    ne false e f = e

    more : is_member nat_eq a x ≡ true → is_member nat_eq (y ∷ a) x ≡ true
    more m = grind (arith, m)

distinct_append : (a b : List ℕ) → IsDistinct nat_eq a → IsDistinct nat_eq b → ((q : ℕ) → is_member nat_eq a q ≡ true → is_member nat_eq b q ≡ true → ⊥) → IsDistinct nat_eq (a ++ b)
unfolding IsDistinct
distinct_append [] b d e f = e
distinct_append (x ∷ a) b d e f = (both a d.0, distinct_append a b d.1 e (λ q m n. f q (more q m) n))
  where
    mine : is_member nat_eq (x ∷ a) x ≡ true
    mine = grind (arith, nat_tests)

    more : (q : ℕ) → is_member nat_eq a q ≡ true → is_member nat_eq (x ∷ a) q ≡ true
    more q m = grind (arith, m)

    both : (a : List ℕ) → AllByRecursion (λ y. nat_eq x y ≡ false) a → AllByRecursion (λ y. nat_eq x y ≡ false) (a ++ b)
    both [] h = apart_from x b (λ m. f x mine m)
    both (y ∷ a) h = (h.0, both a h.1)

module _ (g : Nodes) (roots : List ℕ) (st : IsStore g roots) where
  -- ---- which numbers these are

  in_kids : (depth m : ℕ) (es : List Child) → is_member nat_eq (flat_map (λ (c : Child). nums depth g c.node) es) m ≡ true → (P : ℕ → Type 0) → AllByRecursion (λ c. is_member nat_eq (nums depth g c.node) m ≡ true → P m) es → P m
  in_kids depth m [] h P all = cc
  in_kids depth m (c ∷ es) h P all = ⊎_elim all.0 (λ k. in_kids depth m es k P all.1) (in_one (nums depth g c.node) (flat_map (λ (c : Child). nums depth g c.node) es) m h)

  -- each stands beneath n
  pub num_stands : (depth n m : ℕ) → is_member nat_eq (nums depth g n) m ≡ true → (q : Names) × (number_at g n q ≡ Some m)
  num_stands zero n m h = cc
  num_stands (suc depth) n m h = by_node (node g n) refl h (λ c. num_stands depth c m)
    where
      equal : (a b : ℕ) → nat_eq a b ≡ true → b ≡ a
      equal a b e = grind (arith, nat_tests)

      by_node : (o : Option NodeRow) → node g n ≡ o → is_member nat_eq (nums_with o n (nums depth g)) m ≡ true → ((c : ℕ) → is_member nat_eq (nums depth g c) m ≡ true → (q : Names) × (number_at g c q ≡ Some m)) → (q : Names) × (number_at g n q ≡ Some m)
      by_node None e h f = cc
      by_node (Some row) e h f = by_head (nat_eq m n) refl h
        where
          by_head : (b : Bool) → nat_eq m n ≡ b → (b || is_member nat_eq (flat_map (λ (c : Child). nums depth g c.node) (entries_of row)) m) ≡ true → (q : Names) × (number_at g n q ≡ Some m)
          by_head true t h = ([], ap (option_map (number n)) e ∙ ap Some (equal m n t))
          by_head false t h = in_kids depth m (entries_of row) h (λ m. (q : Names) × (number_at g n q ≡ Some m))
              (each (entries_of row) (λ c child k. let s = f c.node k in (c.name ∷ s.0, ap (λ o. and_then o (λ m. number_at g m s.0)) child ∙ s.1)) (children g st.graph n row e))

  -- what stands beneath n is one
  pub stands_num : (q : Names) (depth n m : ℕ) → n < depth → number_at g n q ≡ Some m → is_member nat_eq (nums depth g n) m ≡ true
  stands_num q zero n m l e = absurd (omega arith)
  stands_num [] (suc depth) n m l e = by_node (node g n) e
    where
      equal : (a b : ℕ) → Some a ≡ Some b → nat_eq b a ≡ true
      equal a b e = let h : a ≡ b = cc in grind (arith, nat_tests)

      by_node : (o : Option NodeRow) → option_map (number n) o ≡ Some m → is_member nat_eq (nums_with o n (nums depth g)) m ≡ true
      by_node None e = cc
      by_node (Some row) e = ap (λ b. b || is_member nat_eq (flat_map (λ (c : Child). nums depth g c.node) (entries_of row)) m) (equal n m e)
  stands_num (x ∷ q) (suc depth) n m l e = by_child (child_of (node g n) x) refl e (λ c low k. stands_num q depth c m low k)
    where
      below : (c : ℕ) → child_of (node g n) x ≡ Some c → c < depth
      below c child = ⊎_elim (λ less. omega arith) (λ more. absurd (omega (arith, st.graph.falls n c more, child_named_by g roots st n c x child))) (cases_lt c n)

      -- a child's numbers are among those of all
      among : (c : ℕ) (es : List Child) → 0 < sum_by (λ (k : Child). cond (k.node == c) 1 0) es → is_member nat_eq (nums depth g c) m ≡ true → is_member nat_eq (flat_map (λ (c : Child). nums depth g c.node) es) m ≡ true
      among c [] l h = absurd (omega (arith, l))
      among c (k ∷ es) l h = by (cases_eq k.node c) (among c es) (sum_by-cons (λ (k : Child). cond (k.node == c) 1 0) k es)
        where
          by : (k.node ≡ c) ⊎ (k.node ≢ c) → (0 < sum_by (λ (k : Child). cond (k.node == c) 1 0) es → is_member nat_eq (nums depth g c) m ≡ true → is_member nat_eq (flat_map (λ (c : Child). nums depth g c.node) es) m ≡ true)
              → sum_by (λ (k : Child). cond (k.node == c) 1 0) (k ∷ es) ≡ cond (k.node == c) 1 0 + sum_by (λ (k : Child). cond (k.node == c) 1 0) es → is_member nat_eq (nums depth g k.node ++ flat_map (λ (c : Child). nums depth g c.node) es) m ≡ true
          by (inl e) f s = in_left (nums depth g k.node) _ m (subst (λ c. is_member nat_eq (nums depth g c) m ≡ true) (sym e) h)
          by (inr ne) f s = let none : ◌≡◌ {A = ℕ} (cond (k.node == c) 1 0) 0 = grind (arith, nat_tests) in in_right (nums depth g k.node) _ m (f (omega (arith, s, l, none)) h)

      by_node : (c : ℕ) (o : Option NodeRow) → node g n ≡ o → 0 < names c o → is_member nat_eq (nums depth g c) m ≡ true → is_member nat_eq (nums_with o n (nums depth g)) m ≡ true
      by_node c None e l h = absurd (omega (arith, l))
      by_node c (Some row) e l h = in_right (n ∷ []) (flat_map (λ (c : Child). nums depth g c.node) (entries_of row)) m (among c (entries_of row) l h)

      by_child : (o : Option ℕ) → child_of (node g n) x ≡ o → and_then o (λ c. number_at g c q) ≡ Some m → ((c : ℕ) → c < depth → number_at g c q ≡ Some m → is_member nat_eq (nums depth g c) m ≡ true) → is_member nat_eq (nums_with (node g n) n (nums depth g)) m ≡ true
      by_child None c e f = cc
      by_child (Some k) c e f = by_node k (node g n) refl (child_named_by g roots st n k x c) (f k (below k c) e)

  stands_at : (r n m : ℕ) (p q : Names) → IsUnderRoot g roots r p n → number_at g n q ≡ Some m → IsUnderRoot g roots r (p ++ q) m
  stands_at r n m p [] s e = subst (λ (w : Names). IsUnderRoot g roots r w m) (sym (append-nil p)) (subst (λ k. IsUnderRoot g roots r p k) (same (here g roots st n (there_at g roots st r n p s)) e) s)
    where
      same : number_at g n [] ≡ Some n → number_at g n [] ≡ Some m → n ≡ m
      same a b = cc
  stands_at r n m p (x ∷ q) s e = by_child (child_of (node g n) x) refl e (λ c child k. subst (λ (w : Names). IsUnderRoot g roots r w m) (append_assoc p (x ∷ []) q) (stands_at r c m (p ++ x ∷ []) q (child_stands g roots st r n c p x s child) k))
    where
      by_child : (o : Option ℕ) → child_of (node g n) x ≡ o → and_then o (λ c. number_at g c q) ≡ Some m → ((c : ℕ) → child_of (node g n) x ≡ Some c → number_at g c q ≡ Some m → IsUnderRoot g roots r (p ++ x ∷ q) m) → IsUnderRoot g roots r (p ++ x ∷ q) m
      by_child None c e f = cc
      by_child (Some k) c e f = f k c e

  -- nothing beneath n has a higher number
  no_higher : (q : Names) (n m : ℕ) → number_at g n q ≡ Some m → m ≤ n
  no_higher [] n m e = by_node (node g n) e
    where
      equal : (a b : ℕ) → Some a ≡ Some b → a ≡ b
      equal a b e = cc

      by_node : (o : Option NodeRow) → option_map (number n) o ≡ Some m → m ≤ n
      by_node None e = cc
      by_node (Some row) e = let h = equal n m e in omega arith
  no_higher (x ∷ q) n m e = by_child (child_of (node g n) x) refl e (λ c k. no_higher q c m k)
    where
      by_child : (o : Option ℕ) → child_of (node g n) x ≡ o → and_then o (λ c. number_at g c q) ≡ Some m → ((c : ℕ) → number_at g c q ≡ Some m → m ≤ c) → m ≤ n
      by_child None c e f = cc
      by_child (Some k) c e f = ⊎_elim (λ less. omega (arith, f k e)) (λ more. absurd (omega (arith, st.graph.falls n k more, child_named_by g roots st n k x c))) (cases_lt k n)

  -- ---- no number comes twice

  same_front : (p : Names) (x y : List ℕ) (q w : Names) → p ++ x ∷ q ≡ p ++ y ∷ w → x ≡ y
  same_front [] x y q w e = heads e
    where
      heads : x ∷ q ≡ y ∷ w → x ≡ y
      heads e = cc
  same_front (z ∷ p) x y q w e = same_front p x y q w (tails e)
    where
      tails : z ∷ (p ++ x ∷ q) ≡ z ∷ (p ++ y ∷ w) → p ++ x ∷ q ≡ p ++ y ∷ w
      tails e = cc

  less_apart : (x y : List ℕ) → x ≡ y → slice_cmp nat_cmp x y ≡ Less → ⊥
  less_apart x y e l = differ (sym (tied_itself nat_list_cmp_total x) ∙ ap (slice_cmp nat_cmp x) e ∙ l)
    where
      differ : Equal ≡ Less → ⊥
      differ e = cc

  member_kids : (depth m : ℕ) (es : List Child) → is_member nat_eq (flat_map (λ (c : Child). nums depth g c.node) es) m ≡ true → (Q : Child → Type 0) → AllByRecursion Q es → (c : Child) × Q c × (is_member nat_eq (nums depth g c.node) m ≡ true)
  member_kids depth m [] h Q all = cc
  member_kids depth m (c ∷ es) h Q all = ⊎_elim (λ k. (c, all.0, k)) (λ k. member_kids depth m es k Q all.1) (in_one (nums depth g c.node) (flat_map (λ (c : Child). nums depth g c.node) es) m h)

  distinct_kids : (r n depth : ℕ) (p : Names) → IsUnderRoot g roots r p n → (es : List Child) → RiseEach es → AllByRecursion (λ c. child_of (node g n) c.name ≡ Some c.node) es → AllByRecursion (λ c. IsDistinct nat_eq (nums depth g c.node)) es
      → IsDistinct nat_eq (flat_map (λ (c : Child). nums depth g c.node) es)
  unfolding IsDistinct
  distinct_kids r n depth p s [] rise child d = tt
  distinct_kids r n depth p s (c ∷ es) rise child d =
      distinct_append (nums depth g c.node) (flat_map (λ (c : Child). nums depth g c.node) es) d.0 (distinct_kids r n depth p s es rise.1 child.1 d.1) (λ m h k.
      let other = member_kids depth m es k (λ o. (slice_cmp nat_cmp c.name o.name ≡ Less) × (child_of (node g n) o.name ≡ Some o.node)) (two es rise.0 child.1) in
      let one = num_stands depth c.node m h in
      let two = num_stands depth other.0.node m other.2 in
      let first = stands_at r n m p (c.name ∷ one.0) s (ap (λ o. and_then o (λ k. number_at g k one.0)) child.0 ∙ one.1) in
      let second = stands_at r n m p (other.0.name ∷ two.0) s (ap (λ o. and_then o (λ k. number_at g k two.0)) other.1.1 ∙ two.1) in
      less_apart c.name other.0.name (same_front p c.name other.0.name one.0 two.0 (st.one_path r r m (p ++ c.name ∷ one.0) (p ++ other.0.name ∷ two.0) first second)) other.1.0)
    where
      two : (es : List Child) → AllByRecursion (λ o. slice_cmp nat_cmp c.name o.name ≡ Less) es → AllByRecursion (λ o. child_of (node g n) o.name ≡ Some o.node) es → AllByRecursion (λ o. (slice_cmp nat_cmp c.name o.name ≡ Less) × (child_of (node g n) o.name ≡ Some o.node)) es
      two [] a b = tt
      two (o ∷ es) a b = ((a.0, b.0), two es a.1 b.1)

  pub distinct_nums : (depth r n : ℕ) (p : Names) → n < depth → IsUnderRoot g roots r p n → IsDistinct nat_eq (nums depth g n)
  unfolding IsDistinct
  distinct_nums zero r n p l s = tt
  distinct_nums (suc depth) r n p l s = by_node (node g n) refl (λ c x low child. distinct_nums depth r c (p ++ x ∷ []) low (child_stands g roots st r n c p x s child))
    where
      low : (c : ℕ) (x : List ℕ) → child_of (node g n) x ≡ Some c → c < n
      low c x child = ⊎_elim (λ less. less) (λ more. absurd (omega (arith, st.graph.falls n c more, child_named_by g roots st n c x child))) (cases_lt c n)

      itself : n < n → ⊥
      itself h = omega arith

      by_node : (o : Option NodeRow) → node g n ≡ o → ((c : ℕ) (x : List ℕ) → c < depth → child_of (node g n) x ≡ Some c → IsDistinct nat_eq (nums depth g c)) → IsDistinct nat_eq (nums_with o n (nums depth g))
      by_node None e f = tt
      by_node (Some row) e f = (
        apart_from n (flat_map (λ (c : Child). nums depth g c.node) (entries_of row)) (λ h.
            let c = member_kids depth n (entries_of row) h (λ c. child_of (node g n) c.name ≡ Some c.node) (children g st.graph n row e) in
            let down = num_stands depth c.0.node n c.2 in
            not_below c.0.node n down.0 down.1 (low c.0.node c.0.name c.1)),
        distinct_kids r n depth p s (entries_of row) (rise_each (entries_of row) (st.graph.rises n row e)) (children g st.graph n row e) (each (entries_of row) (λ c child. f c.node c.name (omega (arith, low c.node c.name child)) child) (children g st.graph n row e)),
      )
        where
          not_below : (c n : ℕ) (q : Names) → number_at g c q ≡ Some n → c < n → ⊥
          not_below c n q e l = omega (arith, no_higher q c n e)

  pub num_root : (m : ℕ) (ss : List ℕ) → is_member nat_eq (all_nums g ss) m ≡ true → (s : ℕ) × (is_member nat_eq ss s ≡ true) × (is_member nat_eq (nums (suc s) g s) m ≡ true)
  num_root m [] h = cc
  num_root m (s ∷ ss) h = by (in_one (nums (suc s) g s) (all_nums g ss) m h) (num_root m ss)
    where
      mine : is_member nat_eq (s ∷ ss) s ≡ true
      mine = grind (arith, nat_tests)

      more : (q : ℕ) → is_member nat_eq ss q ≡ true → is_member nat_eq (s ∷ ss) q ≡ true
      more q m = grind (arith, m)

      by : (is_member nat_eq (nums (suc s) g s) m ≡ true) ⊎ (is_member nat_eq (all_nums g ss) m ≡ true) → (is_member nat_eq (all_nums g ss) m ≡ true → (s : ℕ) × (is_member nat_eq ss s ≡ true) × (is_member nat_eq (nums (suc s) g s) m ≡ true))
          → (q : ℕ) × (is_member nat_eq (s ∷ ss) q ≡ true) × (is_member nat_eq (nums (suc q) g q) m ≡ true)
      by (inl k) f = (s, mine, k)
      by (inr k) f = let t = f k in (t.0, more t.0 t.1, t.2)

  pub root_num : (m : ℕ) (ss : List ℕ) (s : ℕ) → is_member nat_eq ss s ≡ true → is_member nat_eq (nums (suc s) g s) m ≡ true → is_member nat_eq (all_nums g ss) m ≡ true
  root_num m [] s h k = cc
  root_num m (q ∷ ss) s h k = ⊎_elim (λ e. in_left (nums (suc q) g q) (all_nums g ss) m (subst (λ t. is_member nat_eq (nums (suc t) g t) m ≡ true) e k)) (λ ne. in_right (nums (suc q) g q) (all_nums g ss) m (root_num m ss s (rest ne) k)) (cases_eq s q)
    where
      rest : s ≢ q → is_member nat_eq ss s ≡ true
      rest ne = grind (arith, nat_tests, h)

  -- ---- each node counts in the last tree that has it

  abbrev pub firsts : List ℕ → List ℕ
  firsts [] = []
  firsts (r ∷ rs) = filter (λ m. not (is_member nat_eq (all_nums g rs) m)) (nums (suc r) g r) ++ firsts rs

  pub tail_sub : (r : ℕ) (rs : List ℕ) → ((s : ℕ) → is_member nat_eq (r ∷ rs) s ≡ true → is_member nat_eq roots s ≡ true) → (s : ℕ) → is_member nat_eq rs s ≡ true → is_member nat_eq roots s ≡ true
  tail_sub r rs sub s m = sub s (more m)
    where
      more : is_member nat_eq rs s ≡ true → is_member nat_eq (r ∷ rs) s ≡ true
      more m = grind (arith, m)

  pub root_at : (r : ℕ) → is_member nat_eq roots r ≡ true → IsUnderRoot g roots r [] r
  root_at r m = (m, here g roots st r (root_there g roots st r m))

  pub head_member : (r : ℕ) (rs : List ℕ) → is_member nat_eq (r ∷ rs) r ≡ true
  head_member r rs = grind (arith, nat_tests)

  fresh_is : (b : ℕ → Bool) (xs : List ℕ) (q : ℕ) → is_member nat_eq (filter (λ m. not (b m)) xs) q ≡ (is_member nat_eq xs q && not (b q))
  fresh_is b xs q = is_member-filter nat_eq_equiv (λ m. not (b m)) q (λ x e. ap (λ m. not (b m)) (equal q x e)) xs
    where
      equal : (a b : ℕ) → nat_eq a b ≡ true → a ≡ b
      equal a b e = grind (arith, nat_tests)

  both_true : (a b : Bool) → (a && b) ≡ true → (a ≡ true) × (b ≡ true)
  both_true true b h = (refl, h)
  both_true false b h = cc

  firsts_in : (rs : List ℕ) (m : ℕ) → is_member nat_eq (firsts rs) m ≡ true → is_member nat_eq (all_nums g rs) m ≡ true
  firsts_in [] m h = h
  firsts_in (r ∷ rs) m h = ⊎_elim
      (λ k. in_left (nums (suc r) g r) (all_nums g rs) m (both_true (is_member nat_eq (nums (suc r) g r) m) (not (is_member nat_eq (all_nums g rs) m)) (sym (fresh_is (is_member nat_eq (all_nums g rs)) (nums (suc r) g r) m) ∙ k)).0)
      (λ k. in_right (nums (suc r) g r) (all_nums g rs) m (firsts_in rs m k))
      (in_one (filter (λ m. not (is_member nat_eq (all_nums g rs) m)) (nums (suc r) g r)) (firsts rs) m h)

  in_firsts : (rs : List ℕ) (m : ℕ) → is_member nat_eq (all_nums g rs) m ≡ true → is_member nat_eq (firsts rs) m ≡ true
  in_firsts [] m h = h
  in_firsts (r ∷ rs) m h = by_test (is_member nat_eq (all_nums g rs) m) refl (in_firsts rs m) (in_one (nums (suc r) g r) (all_nums g rs) m h)
    where
      by_test : (b : Bool) → is_member nat_eq (all_nums g rs) m ≡ b → (is_member nat_eq (all_nums g rs) m ≡ true → is_member nat_eq (firsts rs) m ≡ true) → (is_member nat_eq (nums (suc r) g r) m ≡ true) ⊎ (is_member nat_eq (all_nums g rs) m ≡ true) → is_member nat_eq (firsts (r ∷ rs)) m ≡ true
      by_test true e f k = in_right (filter (λ m. not (is_member nat_eq (all_nums g rs) m)) (nums (suc r) g r)) (firsts rs) m (f e)
      by_test false e f (inl k) = in_left (filter (λ m. not (is_member nat_eq (all_nums g rs) m)) (nums (suc r) g r)) (firsts rs) m (fresh_is (is_member nat_eq (all_nums g rs)) (nums (suc r) g r) m ∙ ap (λ a. a && not (is_member nat_eq (all_nums g rs) m)) k ∙ ap not e)
      by_test false e f (inr k) = absurd (contrary (sym e ∙ k))
        where
          contrary : false ≡ true → ⊥
          contrary h = cc

  distinct_filter : (p : ℕ → Bool) (xs : List ℕ) → IsDistinct nat_eq xs → IsDistinct nat_eq (filter p xs)
  unfolding IsDistinct
  distinct_filter p [] d = tt
  distinct_filter p (x ∷ xs) d = by_test (p x) (distinct_filter p xs d.1)
    where
      kept : (ys : List ℕ) → AllByRecursion (λ y. nat_eq x y ≡ false) ys → AllByRecursion (λ y. nat_eq x y ≡ false) (filter p ys)
      kept [] h = tt
      kept (y ∷ ys) h = elim (p y) as (λ b. AllByRecursion (λ y. nat_eq x y ≡ false) (cond b (y ∷ filter p ys) (filter p ys))) [ true ↦ (h.0, kept ys h.1) | false ↦ kept ys h.1 ]

      by_test : (b : Bool) → IsDistinct nat_eq (filter p xs) → IsDistinct nat_eq (cond b (x ∷ filter p xs) (filter p xs))
      by_test true h = (kept xs d.0, h)
      by_test false h = h

  pub distinct_firsts : (rs : List ℕ) → ((s : ℕ) → is_member nat_eq rs s ≡ true → is_member nat_eq roots s ≡ true) → IsDistinct nat_eq (firsts rs)
  unfolding IsDistinct
  distinct_firsts [] sub = tt
  distinct_firsts (r ∷ rs) sub =
      distinct_append (filter (λ m. not (is_member nat_eq (all_nums g rs) m)) (nums (suc r) g r)) (firsts rs)
      (distinct_filter (λ m. not (is_member nat_eq (all_nums g rs) m)) (nums (suc r) g r) (distinct_nums (suc r) r r [] (omega arith) (root_at r (sub r (head_member r rs)))))
      (distinct_firsts rs (tail_sub r rs sub))
      (λ q h k. contrary (is_member nat_eq (all_nums g rs) q) (firsts_in rs q k) (both_true (is_member nat_eq (nums (suc r) g r) q) (not (is_member nat_eq (all_nums g rs) q)) (sym (fresh_is (is_member nat_eq (all_nums g rs)) (nums (suc r) g r) q) ∙ h)).1)
    where
      contrary : (b : Bool) → b ≡ true → not b ≡ true → ⊥
      contrary true e h = cc
      contrary false e h = cc

  -- and each node is among them
  pub covered : without_all (firsts roots) g ≡ []
  covered = nil_from_lookup (eq_by_cmp_equiv nat_cmp_total) (without_all (firsts roots) g) (λ q. at-without_all (firsts roots) g q st.graph.in_order ∙ by_node q (node g q) refl (λ t.
      let s = stands_somewhere g roots st q t in
      in_firsts roots q (root_num q roots s.0 s.2.0 (stands_num s.1 (suc s.0) s.0 q (omega arith) s.2.1))))
    where
      empty : (b : Bool) (o : Option NodeRow) → o ≡ None → cond b None o ≡ None
      empty true o e = refl
      empty false o e = e

      by_node : (q : ℕ) (o : Option NodeRow) → node g q ≡ o → (is_some (node g q) ≡ true → is_member nat_eq (firsts roots) q ≡ true) → cond (is_member nat_eq (firsts roots) q) None (node g q) ≡ None
      by_node q None e f = empty (is_member nat_eq (firsts roots) q) (node g q) e
      by_node q (Some row) e f = ap (λ b. cond b None (node g q)) (f (ap is_some e))
