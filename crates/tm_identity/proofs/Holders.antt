-- The folders that name a node.
use Rattle.std.proofs.Common.{◌≡◌, ℕ, ◌+◌, ◌<◌, ◌≤◌, Bool, true, false, cond, Option, Some, None, is_some, List, [], ◌∷◌, ◌++◌, map, filter, refl, sym, ap, ◌∙◌, arith, subst, nat_eq, nat_lt, ⊎_elim, sum_by, inl, inr, ◌⊎◌, ◌||◌, length}
use Rattle.std.specs.declared.cmp.Ordering.TheVariants.{Less}
use Rattle.std.specs.Ordering.{nat_cmp}
use Rattle.std.specs.List.{AllByRecursion, IsDistinct}
use Rattle.std.specs.List.Sorted.{IsStrictlySortedBy}
use Rattle.std.specs.Map.{keys_of, values_of}
use Rattle.std.specs.BTreeMap.{is_at}
use Rattle.std.specs.Set.{is_member}
use Rattle.std.proofs.lemmas.Bool.{cases_lt}
use Rattle.std.proofs.lemmas.Bool.Decides.{nat_tests}
use Rattle.std.proofs.lemmas.List.Sums.{sum_by-cons}
use Rattle.tm_base.proofs.Facts.{some_is}
use Rattle.tm_base.specs.Paths.{Names, parent_of, is_root}
use Rattle.tm_tree.specs.declared.node.NodeRow.{NodeRow}
use Rattle.tm_graph.specs.Nodes.{Nodes, node, names, row_names, named, root_links}
use Rattle.tm_graph.proofs.Taken.{Sorted}
use Rattle.tm_graph.proofs.Climbs.{namer}
use Rattle.tm_graph.specs.Trees.{child_of, number_at}
use Rattle.tm_identity.specs.Stores.{IsStore, IsUnderRoot, label_of}
use Rattle.tm_identity.proofs.Kept.{root_there, member_counted}
use Rattle.tm_identity.proofs.Parents.{there_at, here, child_stands, folder_stands, named_child, stands_somewhere, parent_push, not_root}

-- ---- the rows of nodes that name m

abbrev pub names_it : ℕ → ℕ × NodeRow → Bool
names_it m row = nat_lt 0 (row_names m row.1)

abbrev pub labels : Nodes → ℕ → Nodes → List ℕ
labels g m es = map (λ row. label_of g row.0) (filter (names_it m) es)

pub long : (g : Nodes) (m : ℕ) (es : Nodes) → AllByRecursion (λ row. row_names m row.1 ≤ 1) es → length (labels g m es) ≡ sum_by (row_names m) (values_of es)
long g m [] h = refl
long g m (e ∷ es) h = by_test (long g m es h.1) (cases_lt 0 (row_names m e.1)) (sum_by-cons (row_names m) e.1 (values_of es))
  where
    by_test : length (labels g m es) ≡ sum_by (row_names m) (values_of es) → (0 < row_names m e.1) ⊎ (row_names m e.1 ≤ 0) → sum_by (row_names m) (values_of (e ∷ es)) ≡ row_names m e.1 + sum_by (row_names m) (values_of es)
        → length (labels g m (e ∷ es)) ≡ sum_by (row_names m) (values_of (e ∷ es))
    by_test more (inl l) s = let t : names_it m e ≡ true = grind (arith, nat_tests) in ap (λ b. length (map (λ (row : ℕ × NodeRow). label_of g row.0) (cond b (e ∷ filter (names_it m) es) (filter (names_it m) es)))) t ∙ omega (arith, more, s, l, h.0)
    by_test more (inr l) s = let t : names_it m e ≡ false = grind (arith, nat_tests) in ap (λ b. length (map (λ (row : ℕ × NodeRow). label_of g row.0) (cond b (e ∷ filter (names_it m) es) (filter (names_it m) es)))) t ∙ omega (arith, more, s, l)

-- each row is that of its number
found_past : (e : ℕ × NodeRow) (g es : Nodes) → AllByRecursion (λ k. nat_cmp e.0 k ≡ Less) (keys_of es) → AllByRecursion (λ row. node g row.0 ≡ Some row.1) es → AllByRecursion (λ row. node (e ∷ g) row.0 ≡ Some row.1) es
found_past e g [] s h = tt
found_past e g (f ∷ es) s h = (ap (λ b. cond b (Some e.1) (node g f.0)) (apart f.0 s.0) ∙ h.0, found_past e g es s.1 h.1)
  where
    apart : (k : ℕ) → nat_cmp e.0 k ≡ Less → is_at (nat_cmp k) e.0 ≡ false
    apart k l = grind (arith, nat_tests)

pub all_found : (g : Nodes) → Sorted g → AllByRecursion (λ row. node g row.0 ≡ Some row.1) g
unfolding IsStrictlySortedBy
all_found [] s = tt
all_found (e ∷ g) s = (ap (λ b. cond b (Some e.1) (node g e.0)) itself, found_past e g g s.0 (all_found g s.1))
  where
    itself : is_at (nat_cmp e.0) e.0 ≡ true
    itself = grind (arith, nat_tests)

pub each : {P Q : ℕ × NodeRow → Type 0} (es : Nodes) → ((row : ℕ × NodeRow) → P row → Q row) → AllByRecursion P es → AllByRecursion Q es
each [] f h = tt
each (e ∷ es) f h = (f e h.0, each es f h.1)

module _ (g : Nodes) (roots : List ℕ) (st : IsStore g roots) where
  -- ---- the folders that name m, which stands at x in q

  module _ (m : ℕ) (q : Names) (x : List ℕ) where
    abbrev pub Holds : ℕ → Type 0
    Holds f = (r : ℕ) × IsUnderRoot g roots r q f × (child_of (node g f) x ≡ Some m)

    -- who names m holds it there
    pub holder : (r : ℕ) → IsUnderRoot g roots r (q ++ x ∷ []) m → (f : ℕ) → 0 < names m (node g f) → Holds f
    holder r s f h =
        let child = named_child g roots st f m h in
        let up = stands_somewhere g roots st f (name_there (node g f) h) in
        let at = child_stands g roots st up.0 f m up.1 child.0 up.2 child.1 in
        let path = st.one_path up.0 r m (up.1 ++ child.0 ∷ []) (q ++ x ∷ []) at s in
        let down = folder_stands g roots st up.0 m q x (at.0, ap (λ (p : Names). number_at g up.0 p) (sym path) ∙ at.1) in
        let front = sym (parent_push up.1 child.0) ∙ ap parent_of path ∙ parent_push q x in
        let same = some_is down.0 f (sym down.1.1 ∙ sym (ap (λ (p : Names). number_at g up.0 p) front) ∙ up.2.1) in
        subst Holds same (up.0, down.1, down.2)
      where
        name_there : (o : Option NodeRow) → 0 < names m o → is_some o ≡ true
        name_there None h = absurd (omega (arith, h))
        name_there (Some row) h = refl

    -- their labels differ
    differ : (e : ℕ × NodeRow) (es : Nodes) → Holds e.0 → AllByRecursion (λ k. nat_cmp e.0 k ≡ Less) (keys_of es) → AllByRecursion (λ row. 0 < row_names m row.1 → Holds row.0) es
        → AllByRecursion (λ y. nat_eq (label_of g e.0) y ≡ false) (labels g m es)
    differ e [] h s all = tt
    differ e (f ∷ es) h s all = by_test (cases_lt 0 (row_names m f.1)) (differ e es h s.1 all.1)
      where
        apart : (a b : ℕ) → (a ≡ b → ⊥) → nat_eq a b ≡ false
        apart a b ne = grind (arith, nat_tests)

        not_same : Holds f.0 → label_of g e.0 ≡ label_of g f.0 → ⊥
        not_same k same = let one : e.0 ≡ f.0 = st.one_node h.0 k.0 e.0 f.0 q h.1 k.1 same in lower e.0 f.0 one s.0
          where
            lower : (a b : ℕ) → a ≡ b → nat_cmp a b ≡ Less → ⊥
            lower a b e l = grind (arith, nat_tests)

        by_test : (0 < row_names m f.1) ⊎ (row_names m f.1 ≤ 0) → AllByRecursion (λ y. nat_eq (label_of g e.0) y ≡ false) (labels g m es) → AllByRecursion (λ y. nat_eq (label_of g e.0) y ≡ false) (labels g m (f ∷ es))
        by_test (inl l) rest = let t : names_it m f ≡ true = grind (arith, nat_tests) in subst (λ b. AllByRecursion (λ y. nat_eq (label_of g e.0) y ≡ false) (map (λ (row : ℕ × NodeRow). label_of g row.0) (cond b (f ∷ filter (names_it m) es) (filter (names_it m) es)))) (sym t) (apart _ _ (not_same (all.0 l)), rest)
        by_test (inr l) rest = let t : names_it m f ≡ false = grind (arith, nat_tests) in subst (λ b. AllByRecursion (λ y. nat_eq (label_of g e.0) y ≡ false) (map (λ (row : ℕ × NodeRow). label_of g row.0) (cond b (f ∷ filter (names_it m) es) (filter (names_it m) es)))) (sym t) rest

    pub distinct : (es : Nodes) → Sorted es → AllByRecursion (λ row. 0 < row_names m row.1 → Holds row.0) es → IsDistinct nat_eq (labels g m es)
    unfolding IsStrictlySortedBy IsDistinct
    distinct [] s all = tt
    distinct (e ∷ es) s all = by_test (cases_lt 0 (row_names m e.1)) (distinct es s.1 all.1)
      where
        by_test : (0 < row_names m e.1) ⊎ (row_names m e.1 ≤ 0) → IsDistinct nat_eq (labels g m es) → IsDistinct nat_eq (labels g m (e ∷ es))
        by_test (inl l) rest = let t : names_it m e ≡ true = grind (arith, nat_tests) in subst (λ b. IsDistinct nat_eq (map (λ (row : ℕ × NodeRow). label_of g row.0) (cond b (e ∷ filter (names_it m) es) (filter (names_it m) es)))) (sym t) (differ e es (all.0 l) s.0 all.1, rest)
        by_test (inr l) rest = let t : names_it m e ≡ false = grind (arith, nat_tests) in subst (λ b. IsDistinct nat_eq (map (λ (row : ℕ × NodeRow). label_of g row.0) (cond b (e ∷ filter (names_it m) es) (filter (names_it m) es)))) (sym t) rest

    -- a label among theirs is that of one of them
    pub label_is : (k : ℕ) (es : Nodes) → AllByRecursion (λ row. 0 < row_names m row.1 → Holds row.0) es → is_member nat_eq (labels g m es) k ≡ true → (f : ℕ) × Holds f × (k ≡ label_of g f)
    label_is k [] all h = cc
    label_is k (e ∷ es) all h = by_test (cases_lt 0 (row_names m e.1)) h (label_is k es all.1)
      where
        by_head : (b : Bool) → nat_eq k (label_of g e.0) ≡ b → Holds e.0 → (b || is_member nat_eq (labels g m es) k) ≡ true → (is_member nat_eq (labels g m es) k ≡ true → (f : ℕ) × Holds f × (k ≡ label_of g f)) → (f : ℕ) × Holds f × (k ≡ label_of g f)
        by_head true t here h f = (e.0, here, equal k (label_of g e.0) t)
          where
            equal : (a b : ℕ) → nat_eq a b ≡ true → a ≡ b
            equal a b e = grind (arith, nat_tests)
        by_head false t here h f = f h

        by_test : (0 < row_names m e.1) ⊎ (row_names m e.1 ≤ 0) → is_member nat_eq (labels g m (e ∷ es)) k ≡ true → (is_member nat_eq (labels g m es) k ≡ true → (f : ℕ) × Holds f × (k ≡ label_of g f)) → (f : ℕ) × Holds f × (k ≡ label_of g f)
        by_test (inl l) h f = let t : names_it m e ≡ true = grind (arith, nat_tests) in by_head _ refl (all.0 l) (subst (λ b. is_member nat_eq (map (λ (row : ℕ × NodeRow). label_of g row.0) (cond b (e ∷ filter (names_it m) es) (filter (names_it m) es))) k ≡ true) t h) f
        by_test (inr l) h f = let t : names_it m e ≡ false = grind (arith, nat_tests) in f (subst (λ b. is_member nat_eq (map (λ (row : ℕ × NodeRow). label_of g row.0) (cond b (e ∷ filter (names_it m) es) (filter (names_it m) es))) k ≡ true) t h)

    -- and theirs are among them
    pub is_label : (f : ℕ) (es : Nodes) → 0 < names m (node es f) → is_member nat_eq (labels g m es) (label_of g f) ≡ true
    is_label f [] h = absurd (omega (arith, h))
    is_label f (e ∷ es) h = by_place (is_at (nat_cmp f) e.0) refl h (is_label f es)
      where
        by_test : (b : Bool) → is_member nat_eq (labels g m es) (label_of g f) ≡ true → is_member nat_eq (map (λ (row : ℕ × NodeRow). label_of g row.0) (cond b (e ∷ filter (names_it m) es) (filter (names_it m) es))) (label_of g f) ≡ true
        by_test true rest = either (nat_eq _ _) (is_member nat_eq (labels g m es) (label_of g f)) rest
          where
            either : (a b : Bool) → b ≡ true → (a || b) ≡ true
            either true b h = refl
            either false b h = h
        by_test false rest = rest

        first : f ≡ e.0 → 0 < row_names m e.1 → is_member nat_eq (labels g m (e ∷ es)) (label_of g f) ≡ true
        first same l =
            let t : names_it m e ≡ true = grind (arith, nat_tests) in
            subst (λ b. is_member nat_eq (map (λ (row : ℕ × NodeRow). label_of g row.0) (cond b (e ∷ filter (names_it m) es) (filter (names_it m) es))) (label_of g f) ≡ true) (sym t)
            (ap (λ b. b || is_member nat_eq (labels g m es) (label_of g f)) (itself _ _ (ap (label_of g) same)))
          where
            itself : (a b : ℕ) → a ≡ b → nat_eq a b ≡ true
            itself a b e = grind (arith, nat_tests)

        same_at : (a b : ℕ) → is_at (nat_cmp a) b ≡ true → a ≡ b
        same_at a b t = grind (arith, nat_tests)

        by_place : (b : Bool) → is_at (nat_cmp f) e.0 ≡ b → 0 < names m (cond b (Some e.1) (node es f)) → (0 < names m (node es f) → is_member nat_eq (labels g m es) (label_of g f) ≡ true) → is_member nat_eq (labels g m (e ∷ es)) (label_of g f) ≡ true
        by_place true t l rest = first (same_at f e.0 t) l
        by_place false t l rest = by_test (names_it m e) (rest l)

    -- it is no root
    pub no_root : (r : ℕ) → IsUnderRoot g roots r (q ++ x ∷ []) m → root_links g m ≡ 0
    no_root r s = ⊎_elim (λ l. absurd (clash (st.one_path m r m [] (q ++ x ∷ []) (member_counted roots m (omega (arith, l, st.rooted m)), here g roots st m (there_at g roots st r m (q ++ x ∷ []) s)) s))) (λ l. omega (arith, l)) (cases_lt 0 (root_links g m))
      where
        clash : [] ≡ q ++ x ∷ [] → ⊥
        clash e = differ (ap is_root e ∙ not_root q x)
          where
            differ : true ≡ false → ⊥
            differ e = cc

  -- ---- a root

  pub root_not_named : (m : ℕ) → IsUnderRoot g roots m [] m → named g m ≡ 0
  root_not_named m own = ⊎_elim (λ l.
      let f = namer g m st.graph.in_order l in
      let child = named_child g roots st f.0 m f.1 in
      let up = stands_somewhere g roots st f.0 (name_there (node g f.0) f.1) in
      let at = child_stands g roots st up.0 f.0 m up.1 child.0 up.2 child.1 in
      absurd (clash up.1 child.0 (st.one_path m up.0 m [] (up.1 ++ child.0 ∷ []) own at)))
      (λ l. omega (arith, l)) (cases_lt 0 (named g m))
    where
      name_there : (o : Option NodeRow) → 0 < names m o → is_some o ≡ true
      name_there None h = absurd (omega (arith, h))
      name_there (Some row) h = refl

      clash : (q : Names) (x : List ℕ) → [] ≡ q ++ x ∷ [] → ⊥
      clash q x e = differ (ap is_root e ∙ not_root q x)
        where
          differ : true ≡ false → ⊥
          differ e = cc

  some_same : (a b : ℕ) → Some a ≡ Some b → a ≡ b
  some_same a b e = cc

  -- what stands at the root's path is the root
  pub at_root_path : (r m : ℕ) → IsUnderRoot g roots r [] m → r ≡ m
  at_root_path r m s = some_same r m (sym (here g roots st r (root_there g roots st r s.0)) ∙ s.1)
