-- A store of one folder with one file, which is listed as a root so often. The tests are about it.
use Rattle.std.proofs.Common.{zero, suc, ◌≡◌, ◌≢◌, ℕ, ◌+◌, ◌-◌, ◌<◌, ◌≤◌, ◌^◌, Bool, true, false, cond, ◌==◌, Option, Some, None, is_some, List, [], ◌∷◌, refl, sym, ap, ◌∙◌, arith, subst, nat_eq, count_by, ◌⊎◌, ⊎_elim, inl, inr, replicate, ◌||◌}
use Rattle.std.specs.BTreeMap.{is_at}
use Rattle.std.specs.Ordering.{nat_cmp}
use Rattle.std.specs.Option.{option_map, unwrap_or}
use Rattle.std.specs.List.Sorted.{IsStrictlySortedBy}
use Rattle.std.specs.Set.{is_member}
use Rattle.std.proofs.lemmas.Bool.Decides.{nat_tests}
use Rattle.std.proofs.lemmas.List.Sums.{sum_by-cons}
use Rattle.tm_base.specs.Paths.{Names, same_name}
use Rattle.tm_base.proofs.Facts.{some_is}
use Rattle.tm_base.proofs.PathLemmas.{same_bytes}
use Rattle.tm_tree.specs.declared.attrs.Attrs.{Attrs}
use Rattle.tm_tree.specs.declared.node.Child.{Child}
use Rattle.tm_tree.specs.declared.node.LeafRow.TheVariants.{File}
use Rattle.tm_tree.specs.declared.node.NodeBody.TheVariants.{Folder, Leaf}
use Rattle.tm_tree.specs.declared.node.NodeRow.{NodeRow}
use Rattle.tm_graph.specs.Nodes.{Nodes, node, names, row_names, named, links_of, root_links, entries_of, stored_in, NamesRise, IsGraph, IsLinked}
use Rattle.tm_graph.specs.Trees.{number_at, child_of, and_then}
use Rattle.tm_identity.specs.Stores.{IsStore, IsUnderRoot}
use Rattle.tm_unique.specs.Counts.{IsSnapshot}

same_is : (x y : List ℕ) → same_name x y ≡ true → x ≡ y
same_is x y t = (same_bytes x y).0 t

joined : (x y : List ℕ) (p : Names) → x ≡ y → p ≡ [] → y ∷ p ≡ x ∷ []
joined x y p a b = cc

no_names : NamesRise []
unfolding IsStrictlySortedBy
no_names = tt

one_name : (c : Child) → NamesRise (c ∷ [])
unfolding IsStrictlySortedBy
one_name c = (tt, tt)

counted_twos : (k q : ℕ) → count_by (λ r. r == q) (replicate k 2) ≡ cond (2 == q) k 0
counted_twos zero q = elim (2 == q) as (λ b. ◌≡◌ {A = ℕ} 0 (cond b 0 0)) [ true ↦ refl | false ↦ refl ]
counted_twos (suc k) q =
    let more = sum_by-cons (λ (r : ℕ). cond (r == q) 1 0) 2 (replicate k 2) in
    let rest = counted_twos k q in
    elim (2 == q) as (λ b. count_by (λ r. r == q) (replicate k 2) ≡ cond b k 0 → count_by (λ r. r == q) (replicate (suc k) 2) ≡ cond b 1 0 + count_by (λ r. r == q) (replicate k 2) → count_by (λ r. r == q) (replicate (suc k) 2) ≡ cond b (suc k) 0) [
      | true ↦ λ e m. omega (arith, e, m)
      | false ↦ λ e m. omega (arith, e, m)
    ] rest more

all_twos : (k r : ℕ) → is_member nat_eq (replicate k 2) r ≡ true → r ≡ 2
all_twos zero r t = absurd (cc t)
all_twos (suc k) r t = by_test (nat_eq r 2) refl t (all_twos k r)
  where
    by_test : (b : Bool) → nat_eq r 2 ≡ b → (b || is_member nat_eq (replicate k 2) r) ≡ true → (is_member nat_eq (replicate k 2) r ≡ true → r ≡ 2) → r ≡ 2
    by_test true e t f = grind (arith, nat_tests)
    by_test false e t f = f t

module _ (inner outer : Attrs) (x : List ℕ) (k : ℕ) (some : 0 < k) (few : k ≤ 2 ^ 62) where
  abbrev pub file : NodeRow
  file = record { label = 1; links = 1; body = Leaf (File inner 1 5) }

  abbrev pub folder : NodeRow
  folder = record { label = 1; links = k; body = Folder outer (record { name = x; node = 1 } ∷ []) }

  abbrev pub nodes : Nodes
  nodes = (1, file) ∷ (2, folder) ∷ []

  each : (P : ℕ → Option NodeRow → Type 0) → P 1 (Some file) → P 2 (Some folder) → ((n : ℕ) → n ≢ 1 → n ≢ 2 → P n None) → (n : ℕ) → P n (node nodes n)
  each P one two none n =
      elim (is_at (nat_cmp n) 1) as (λ b. is_at (nat_cmp n) 1 ≡ b → P n (cond b (Some file) (cond (is_at (nat_cmp n) 2) (Some folder) None))) [
        | true ↦ λ e. subst (λ m. P m (Some file)) (sym (there 1 e)) one
        | false ↦ λ e. elim (is_at (nat_cmp n) 2) as (λ b. is_at (nat_cmp n) 2 ≡ b → P n (cond b (Some folder) None)) [
          | true ↦ λ f. subst (λ m. P m (Some folder)) (sym (there 2 f)) two
          | false ↦ λ f. none n (apart 1 e) (apart 2 f)
        ] refl
      ] refl
    where
      there : (m : ℕ) → is_at (nat_cmp n) m ≡ true → n ≡ m
      there m e = grind (arith, nat_tests)

      apart : (m : ℕ) → is_at (nat_cmp n) m ≡ false → n ≢ m
      apart m e = λ same. grind (arith, nat_tests)

  none_named : (q : ℕ) → q ≢ 1 → names q (Some folder) ≡ 0
  none_named q ne =
      let test : (1 == q) ≡ false = grind (arith, nat_tests) in
      let zero_is : ◌≡◌ {A = ℕ} (cond (1 == q) 1 0) 0 = ap (λ b. cond b 1 0) test in
      omega (arith, sum_by-cons (λ (c : Child). cond (c.node == q) 1 0) (record { name = x; node = 1 }) [], zero_is)

  named_is : (q : ℕ) → named nodes q ≡ names q (Some folder)
  named_is q = omega (arith, sum_by-cons (row_names q) file (folder ∷ []), sum_by-cons (row_names q) folder [])

  pub graph : IsGraph nodes
  unfolding IsStrictlySortedBy
  graph = record {
    in_order = ((refl, tt), (tt, tt));
    rises = each (λ n o. (row : NodeRow) → o ≡ Some row → NamesRise (entries_of row))
        (λ row e. subst (λ r. NamesRise (entries_of r)) (some_is file row e) no_names)
        (λ row e. subst (λ r. NamesRise (entries_of r)) (some_is folder row e) (one_name (record { name = x; node = 1 })))
        (λ n ne two row e. absurd (cc e));
    falls = each (λ n o. (q : ℕ) → n ≤ q → names q o ≡ 0) (λ q l. refl) (λ q l. none_named q (λ same. omega (arith, l, same))) (λ n ne two q l. refl);
    counted = each (λ n o. named nodes n ≤ unwrap_or (option_map (λ row. row.links) o) 0) (omega arith) (omega arith) (λ n ne two. omega (arith, named_is n, none_named n ne));
    few = each (λ n o. unwrap_or (option_map (λ row. row.links) o) 0 ≤ 2 ^ 62) (omega arith) few (λ n ne two. omega arith);
    low = each (λ n o. is_some o ≡ true → n ≤ 2 ^ 62) (λ t. omega arith) (λ t. omega arith) (λ n ne two t. absurd (cc t));
  }

  linked : IsLinked nodes
  linked = each (λ n o. is_some o ≡ true → 0 < unwrap_or (option_map (λ row. row.links) o) 0) (λ t. omega arith) (λ t. some) (λ n ne two t. absurd (cc t))

  rooted : (q : ℕ) → root_links nodes q ≡ count_by (λ r. r == q) (replicate k 2)
  rooted q = each (λ n o. unwrap_or (option_map (λ row. row.links) o) 0 - named nodes n ≡ cond (2 == n) k 0) refl (omega arith) (λ n ne two. let test : (2 == n) ≡ false = grind (arith, nat_tests) in omega (arith, ap (λ b. cond b k 0) test)) q ∙ sym (counted_twos k q)

  at_two : (r n : ℕ) (p : Names) → IsUnderRoot nodes (replicate k 2) r p n → number_at nodes 2 p ≡ Some n
  at_two r n p s = subst (λ m. number_at nodes m p ≡ Some n) (all_twos k r s.0) s.1

  -- the folder stands at the root, and the file in it
  place : (r n : ℕ) (p : Names) → IsUnderRoot nodes (replicate k 2) r p n → ((p ≡ []) × (n ≡ 2)) ⊎ ((p ≡ x ∷ []) × (n ≡ 1))
  place r n p s = at_root p (at_two r n p s)
    where
      beneath : (p : Names) → number_at nodes 1 p ≡ Some n → (p ≡ []) × (n ≡ 1)
      beneath [] e = (refl, sym (some_is 1 n e))
      beneath (y ∷ p) e = absurd (cc e)

      at_root : (p : Names) → number_at nodes 2 p ≡ Some n → ((p ≡ []) × (n ≡ 2)) ⊎ ((p ≡ x ∷ []) × (n ≡ 1))
      at_root [] e = inl (refl, sym (some_is 2 n e))
      at_root (y ∷ p) e = elim (same_name x y) as (λ b. same_name x y ≡ b → and_then (cond b (Some 1) None) (λ m. number_at nodes m p) ≡ Some n → ((y ∷ p ≡ []) × (n ≡ 2)) ⊎ ((y ∷ p ≡ x ∷ []) × (n ≡ 1))) [
        | true ↦ λ t f. let rest = beneath p f in inr (joined x y p (same_is x y t) rest.0, rest.1)
        | false ↦ λ t f. absurd (cc f)
      ] refl e

  pub store : IsStore nodes (replicate k 2)
  store = record {
    graph = graph;
    linked = linked;
    rooted = rooted;
    one_path = λ r s n p q a b. ⊎_elim
        (λ (u : (p ≡ []) × (n ≡ 2)). ⊎_elim (λ (w : (q ≡ []) × (n ≡ 2)). u.0 ∙ sym w.0) (λ (w : (q ≡ x ∷ []) × (n ≡ 1)). absurd (omega (arith, u.1, w.1))) (place s n q b))
        (λ (u : (p ≡ x ∷ []) × (n ≡ 1)). ⊎_elim (λ (w : (q ≡ []) × (n ≡ 2)). absurd (omega (arith, u.1, w.1))) (λ (w : (q ≡ x ∷ []) × (n ≡ 1)). u.0 ∙ sym w.0) (place s n q b))
        (place r n p a);
    one_node = λ r s m n p a b e. some_is m n (sym (at_two r m p a) ∙ at_two s n p b);
  }

  listed : (k : ℕ) → 0 < k → is_member nat_eq (replicate k 2) 2 ≡ true
  listed zero some = absurd (omega arith)
  listed (suc k) some = refl

  pub snapshot : IsSnapshot nodes 2
  snapshot = record { roots = replicate k 2; store = store; listed = listed k some }

  pub five : stored_in nodes ≡ 5
  five = refl

  -- rows that are made of these parts
  pub made : (rows : Nodes) (in_it it : NodeRow) (entries : List Child) → rows ≡ (1, in_it) ∷ (2, it) ∷ [] → in_it ≡ record { label = 1; links = 1; body = Leaf (File inner 1 5) }
      → it ≡ record { label = 1; links = k; body = Folder outer entries } → entries ≡ record { name = x; node = 1 } ∷ [] → rows ≡ nodes
  made rows in_it it entries a b c d = a ∙ (λ i. (1, b i) ∷ (2, c i) ∷ []) ∙ (λ i. (1, file) ∷ (2, record { label = 1; links = k; body = Folder outer (d i) }) ∷ [])
