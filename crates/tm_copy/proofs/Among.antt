-- What is built stays when more nodes come, and what the entries of a folder are together.
use Rattle.std.proofs.Common.{◌≡◌, ℕ, ◌+◌, ◌<◌, ◌≤◌, Bool, true, false, cond, ◌==◌, nat_eq, Option, Some, None, is_some, List, [], ◌∷◌, ◌++◌, refl, sym, ap, ◌∙◌, arith, subst, ⊎_elim, ◌⊎◌, inl, inr, append_assoc}
use Rattle.std.specs.List.Sorted.{IsStrictlySortedBy}
use Rattle.std.proofs.lemmas.Bool.{cases_lt}
use Rattle.std.proofs.lemmas.Bool.Decides.{nat_tests}
use Rattle.std.proofs.lemmas.List.Sums.{sum_by-cons}
use Rattle.tm_base.specs.Paths.{Names, same_name}
use Rattle.tm_base.proofs.PathLemmas.{same_bytes}
use Rattle.tm_tree.specs.declared.item.Item.{Item}
use Rattle.tm_tree.specs.declared.node.Child.{Child}
use Rattle.tm_tree.specs.Trees.{item_at}
use Rattle.tm_tree.specs.Copies.{is_same_at}
use Rattle.tm_graph.specs.Nodes.{Nodes, node, times, NamesRise}
use Rattle.tm_graph.specs.Trees.{number_at}
use Rattle.tm_graph.specs.Walks.{child_named}
use Rattle.tm_copy.specs.Reading.{item_of}
use Rattle.tm_copy.specs.Building.{Backup, prev, first, all, IsSound, AreNew, IsMade, Builds, AreBuilt}
use Rattle.tm_copy.proofs.Ways.{number_here}
use Rattle.tm_copy.proofs.Appended.{closed, number_stays, node_stays, there_stays, old_below}
use Rattle.tm_copy.proofs.BaseNodes.{base_there}
use Rattle.tm_copy.proofs.Naming.{named_in, finds_first, finds_later, later_name}

pub built_rise : (b : Backup) (new : Nodes) (fresh : ℕ → List ℕ) (p : Names) (lo : ℕ) (es : List Child) (hi : ℕ) → AreBuilt b new fresh p lo es hi → lo ≤ hi
built_rise b new fresh p lo [] hi h = omega (arith, h)
built_rise b new fresh p lo (c ∷ es) hi h = omega (arith, h.1.rising, built_rise b new fresh p h.0 es hi h.2)

-- ---- more nodes come

module _ (b : Backup) (sound : IsSound b) (new more : Nodes) (are : AreNew b new) (fresh other : ℕ → List ℕ) where
  made_stays : (m : ℕ) (p : Names) (e : Item) → other m ≡ fresh m → IsMade b new fresh m p e → IsMade b (new ++ more) other m p e
  made_stays m p e same made = record {
    row = made.row;
    there = node_stays new more m made.row made.there;
    item = ap (λ bytes. item_of bytes made.row.body) same ∙ made.item;
    size = made.size;
    names = made.names;
  }

  pub builds_stay : (lo hi : ℕ) (p : Names) (n : ℕ) → ((m : ℕ) → first b ≤ m → m < hi → other m ≡ fresh m) → Builds b new fresh lo hi p n → Builds b (new ++ more) other lo hi p n
  builds_stay lo hi p n same built = record {
    low = built.low;
    rising = built.rising;
    stood = built.stood;
    there = subst (λ (t : Nodes). is_some (node t n) ≡ true) (append_assoc b.graph new more) (there_stays (all b new) more n built.there);
    absent = λ q none. number q ∙ built.absent q none;
    shared = λ q some still. number q ∙ built.shared q some still;
    own = λ q e is changed. let o = built.own q e is changed in
        (o.0, number q ∙ o.1, o.2, made_stays o.0 (p ++ q) e (same o.0 (omega (arith, built.low, o.2)) (built.below q o.0 o.1)) o.3);
    below = λ q m e. built.below q m (sym (number q) ∙ e);
    once = λ q r m e f l. built.once q r m (sym (number q) ∙ e) (sym (number r) ∙ f) l;
    stands = λ m l h. let s = built.stands m l h in (s.0, number s.0 ∙ s.1);
  }
    where
      number : (q : Names) → number_at (all b (new ++ more)) n q ≡ number_at (all b new) n q
      number q = ap (λ (t : Nodes). number_at t n q) (sym (append_assoc b.graph new more)) ∙ number_stays (all b new) more (closed b new sound.graph are) q n built.there

  pub all_stay : (p : Names) (lo : ℕ) (es : List Child) (hi : ℕ) → ((m : ℕ) → first b ≤ m → m < hi → other m ≡ fresh m) → AreBuilt b new fresh p lo es hi → AreBuilt b (new ++ more) other p lo es hi
  all_stay p lo [] hi same h = h
  all_stay p lo (c ∷ es) hi same h =
      let up = built_rise b new fresh p h.0 es hi h.2 in
      (h.0, builds_stay lo h.0 (p ++ c.name ∷ []) c.node (λ m l k. same m l (omega (arith, k, up))) h.1, all_stay p h.0 es hi same h.2)

-- ---- one more entry

pub built_push : (b : Backup) (new : Nodes) (fresh : ℕ → List ℕ) (p : Names) (lo mid hi : ℕ) (es : List Child) (c : Child)
    → AreBuilt b new fresh p lo es mid → Builds b new fresh mid hi (p ++ c.name ∷ []) c.node → AreBuilt b new fresh p lo (es ++ c ∷ []) hi
built_push b new fresh p lo mid hi [] c h built = (hi, subst (λ k. Builds b new fresh k hi (p ++ c.name ∷ []) c.node) (sym h) built, refl)
built_push b new fresh p lo mid hi (e ∷ es) c h built = (h.0, h.1, built_push b new fresh p h.0 mid hi es c h.2 built)

-- ---- the entries together

module _ (b : Backup) (sound : IsSound b) (new : Nodes) (are : AreNew b new) (fresh : ℕ → List ℕ) where
  -- beneath a node stand old nodes and those from `lo` on
  pub old_or_above : (lo hi : ℕ) (p : Names) (n : ℕ) (q : Names) (m : ℕ) → Builds b new fresh lo hi p n → number_at (all b new) n q ≡ Some m → (m < first b) ⊎ (lo ≤ m)
  old_or_above lo hi p n q m built e = by_item (item_at b.now (p ++ q)) refl
    where
      by_same : (x : Item) → item_at b.now (p ++ q) ≡ Some x → (same : Bool) → is_same_at (prev b) b.now (p ++ q) ≡ same → (m < first b) ⊎ (lo ≤ m)
      by_same x is true same = inl (old_below b m sound.graph (base_there b sound (p ++ q) m (sym (built.shared q (ap is_some is) same) ∙ e)))
      by_same x is false changed = let o = built.own q x is changed in let here : o.0 ≡ m = cc (o.1, e) in inr (subst (λ k. lo ≤ k) here o.2)

      by_item : (o : Option Item) → item_at b.now (p ++ q) ≡ o → (m < first b) ⊎ (lo ≤ m)
      by_item None none = let gone = built.absent q none in absurd (cc (gone, e))
      by_item (Some x) is = by_same x is (is_same_at (prev b) b.now (p ++ q)) refl

  module _ (p : Names) where
    -- the entry of a name
    pub record Found (lo hi : ℕ) (x : List ℕ) (n : ℕ) : Type 0 where
      pub from : ℕ
      pub to : ℕ
      pub above : lo ≤ from
      pub within : to ≤ hi
      pub built : Builds b new fresh from to (p ++ x ∷ []) n

    pub found_entry : (lo : ℕ) (es : List Child) (hi : ℕ) (x : List ℕ) (n : ℕ) → AreBuilt b new fresh p lo es hi → child_named es x ≡ Some n → Found lo hi x n
    found_entry lo [] hi x n h e = absurd (cc e)
    found_entry lo (c ∷ es) hi x n h e = by_test (same_name c.name x) refl e (λ f. found_entry h.0 es hi x n h.2 f)
      where
        by_test : (t : Bool) → same_name c.name x ≡ t → cond t (Some c.node) (child_named es x) ≡ Some n → (child_named es x ≡ Some n → Found h.0 hi x n) → Found lo hi x n
        by_test true same e f =
            let name : c.name ≡ x = (same_bytes c.name x).0 same in
            let here : c.node ≡ n = cc e in
            record { from = lo; to = h.0; above = omega arith; within = built_rise b new fresh p h.0 es hi h.2; built = subst (λ k. Builds b new fresh lo h.0 (p ++ x ∷ []) k) here (subst (λ y. Builds b new fresh lo h.0 (p ++ y ∷ []) c.node) name h.1) }
        by_test false other e f = let r = f e in record { from = r.from; to = r.to; above = omega (arith, r.above, h.1.rising); within = r.within; built = r.built }

    -- a new node stands under one name
    pub once_among : (lo : ℕ) (es : List Child) (hi : ℕ) (x y : List ℕ) (i j m : ℕ) (q r : Names) → AreBuilt b new fresh p lo es hi → first b ≤ lo → lo ≤ m
        → child_named es x ≡ Some i → number_at (all b new) i q ≡ Some m → child_named es y ≡ Some j → number_at (all b new) j r ≡ Some m → x ∷ q ≡ y ∷ r
    once_among lo [] hi x y i j m q r h low l e f g k = absurd (cc e)
    once_among lo (c ∷ es) hi x y i j m q r h low l e f g k =
        by_tests (same_name c.name x) (same_name c.name y) refl refl
        (λ out. once_among h.0 es hi x y i j m q r h.2 (omega (arith, low, h.1.rising)) (later x i q out f) out f)
      where
        -- what stands beneath a later entry isn't before its numbers
        later : (x : List ℕ) (i : ℕ) (q : Names) → child_named es x ≡ Some i → number_at (all b new) i q ≡ Some m → h.0 ≤ m
        later x i q e f =
            let found = found_entry h.0 es hi x i h.2 e in
            ⊎_elim (λ old. absurd (omega (arith, old, low, l))) (λ above. omega (arith, above, found.above)) (old_or_above found.from found.to (p ++ x ∷ []) i q m found.built f)

        in_first : (x : List ℕ) (i : ℕ) (q : Names) → same_name c.name x ≡ true → child_named (c ∷ es) x ≡ Some i → number_at (all b new) i q ≡ Some m → (c.name ≡ x) × (number_at (all b new) c.node q ≡ Some m)
        in_first x i q same e f =
            let name : c.name ≡ x = (same_bytes c.name x).0 same in
            let here : i ≡ c.node = cc (e, finds_first c es x name) in
            (name, subst (λ k. number_at (all b new) k q ≡ Some m) here f)

        by_tests : (s t : Bool) → same_name c.name x ≡ s → same_name c.name y ≡ t → (child_named es x ≡ Some i → child_named es y ≡ Some j → number_at (all b new) j r ≡ Some m → x ∷ q ≡ y ∷ r) → x ∷ q ≡ y ∷ r
        by_tests true true s t rest =
            let a = in_first x i q s e f in
            let b = in_first y j r t g k in
            let path : q ≡ r = h.1.once q r m a.1 b.1 l in
            λ i. (sym a.0 ∙ b.0) i ∷ path i
        by_tests true false s t rest =
            let a = in_first x i q s e f in
            absurd (omega (arith, h.1.below q m a.1, later y j r (sym (finds_later c es y t) ∙ g) k))
        by_tests false true s t rest =
            let b = in_first y j r t g k in
            absurd (omega (arith, h.1.below r m b.1, later x i q (sym (finds_later c es x s) ∙ e) f))
        by_tests false false s t rest = rest (sym (finds_later c es x s) ∙ e) (sym (finds_later c es y t) ∙ g) k

    -- each new node stands under a name
    pub record Standing (es : List Child) (m : ℕ) : Type 0 where
      pub name : List ℕ
      pub node : ℕ
      pub path : Names
      pub entry : child_named es name ≡ Some node
      pub stands : number_at (all b new) node path ≡ Some m

    pub stands_among : (lo : ℕ) (es : List Child) (hi m : ℕ) → NamesRise es → AreBuilt b new fresh p lo es hi → lo ≤ m → m < hi → Standing es m
    unfolding IsStrictlySortedBy
    stands_among lo [] hi m rise h l k = absurd (omega (arith, h, l, k))
    stands_among lo (c ∷ es) hi m rise h l k =
        ⊎_elim (λ before. here before) (λ after. there (stands_among h.0 es hi m rise.1 h.2 after k)) (cases_lt m h.0)
      where
        here : m < h.0 → Standing (c ∷ es) m
        here before = let s = h.1.stands m l before in record { name = c.name; node = c.node; path = s.0; entry = finds_first c es c.name refl; stands = s.1 }

        there : Standing es m → Standing (c ∷ es) m
        there s = record { name = s.name; node = s.node; path = s.path; entry = finds_later c es s.name (later_name c es s.name rise (named_in es s.name s.node s.entry)) ∙ s.entry; stands = s.stands }

    -- an entry's node is there, below the next number
    pub entry_of : (lo : ℕ) (es : List Child) (hi q : ℕ) → AreBuilt b new fresh p lo es hi → 0 < times q es → (q < hi) × (is_some (node (all b new) q) ≡ true)
    entry_of lo [] hi q h t = absurd (omega (arith, t))
    entry_of lo (c ∷ es) hi q h t = by_node (nat_eq c.node q) refl (sum_by-cons (λ (e : Child). cond (e.node == q) 1 0) c es) (λ more. entry_of h.0 es hi q h.2 more)
      where
        by_node : (s : Bool) → nat_eq c.node q ≡ s → times q (c ∷ es) ≡ cond (nat_eq c.node q) 1 0 + times q es → (0 < times q es → (q < hi) × (is_some (node (all b new) q) ≡ true)) → (q < hi) × (is_some (node (all b new) q) ≡ true)
        by_node true e sum f =
            let same : c.node ≡ q = grind (arith, nat_tests) in
            let below = h.1.below [] c.node (number_here (all b new) c.node h.1.there) in
            (omega (arith, below, built_rise b new fresh p h.0 es hi h.2), subst (λ k. is_some (node (all b new) k) ≡ true) same h.1.there)
        by_node false e sum f = let none : ◌≡◌ {A = ℕ} (cond (nat_eq c.node q) 1 0) 0 = ap (λ b. cond b 1 0) e in f (omega (arith, t, sum, none))
