-- A node's links are those of its identity.
use Rattle.std.proofs.Common.{◌≡◌, ◌≢◌, ℕ, ◌+◌, ◌<◌, ◌≤◌, Bool, true, false, cond, Option, Some, None, is_some, List, [], ◌∷◌, ◌++◌, map, filter, refl, sym, ap, ◌∙◌, arith, subst, nat_eq, ⊎_elim, count_by, ◌==◌, ◌↔◌, ◌||◌, length, if◌then◌else◌}
use Rattle.std.specs.Cmp.{nat_eq_equiv}
use Rattle.std.specs.List.{AllByRecursion}
use Rattle.std.specs.Option.{option_map, unwrap_or}
use Rattle.std.specs.Set.{is_member, distinct_count}
use Rattle.std.proofs.lemmas.Bool.{cases_eq}
use Rattle.std.proofs.lemmas.Bool.Decides.{nat_tests}
use Rattle.std.proofs.lemmas.List.Sums.{sum_by-cons}
use Rattle.std.proofs.lemmas.Map.Made.{length-from_keys}
use Rattle.tm_base.specs.Paths.{Names, parent_of}
use Rattle.tm_tree.specs.declared.node.NodeRow.{NodeRow}
use Rattle.tm_graph.specs.Nodes.{Nodes, node, names, row_names, named, links_of}
use Rattle.tm_tree.specs.declared.item.Labelled.{Labelled}
use Rattle.tm_tree.specs.Trees.{at}
use Rattle.tm_tree.specs.Copies.{LabelledTree}
use Rattle.tm_graph.specs.Trees.{and_then, number_at, rows_of}
use Rattle.tm_identity.specs.Identities.{has_label, label_of_item, holds, holders, links}
use Rattle.tm_identity.specs.Stores.{IsStore, IsUnderRoot, Labels, label_of, trees_of}
use Rattle.tm_graph.proofs.PlaceAt.{descends, rows_at, value_is}
use Rattle.tm_identity.proofs.Kept.{root_there}
use Rattle.tm_identity.proofs.Holders.{labels, long, all_found, each, Holds, holder, distinct, label_is, is_label, no_root, root_not_named, at_root_path}
use Rattle.tm_identity.proofs.Parents.{there_at, here, child_stands, folder_stands, child_named_by, named_once, split_last, parent_push, not_root, suc_not_0}

pub bool_same : (a b : Bool) → (a ≡ true → b ≡ true) → (b ≡ true → a ≡ true) → a ≡ b
bool_same true b f k = sym (f refl)
bool_same false true f k = k refl
bool_same false false f k = refl

module _ (v : ℕ → NodeRow → Labelled) (g : Nodes) (roots : List ℕ) (labels_read : Labels v g) (st : IsStore g roots) where
  -- ---- what trees hold

  labelled_is : (r : ℕ) (p : Names) → at (rows_of v g r) p ≡ and_then (number_at g r p) (λ n. option_map (v n) (node g n))
  labelled_is r p = rows_at g (descends g st.graph) v r p ∙ value_is v g r p

  pub label_there : (r n : ℕ) (p : Names) → IsUnderRoot g roots r p n → label_of_item (at (rows_of v g r) p) ≡ label_of g n
  label_there r n p s = ap label_of_item (labelled_is r p ∙ ap (λ o. and_then o (λ n. option_map (v n) (node g n))) s.1) ∙ by_node (node g n) refl
    where
      by_node : (o : Option NodeRow) → node g n ≡ o → label_of_item (option_map (v n) o) ≡ unwrap_or (option_map (λ row. row.label) o) 0
      by_node None e = refl
      by_node (Some row) e = labels_read n row e

  -- a tree that holds an identity has a node of its label there
  pub held_by : (r label : ℕ) (p : Names) → is_member nat_eq roots r ≡ true → holds (rows_of v g r) label p ≡ true → (n : ℕ) × IsUnderRoot g roots r p n × (label_of g n ≡ label)
  held_by r label p root h = by_number (number_at g r p) refl (sym (ap (λ o. has_label o label) (labelled_is r p)) ∙ h)
    where
      by_node : (n : ℕ) (o : Option NodeRow) → node g n ≡ o → has_label (option_map (v n) o) label ≡ true → unwrap_or (option_map (λ row. row.label) o) 0 ≡ label
      by_node n None e h = absurd (cc h)
      by_node n (Some row) e h = let same = labels_read n row e in grind (arith, nat_tests, h, same)

      by_number : (o : Option ℕ) → number_at g r p ≡ o → has_label (and_then o (λ n. option_map (v n) (node g n))) label ≡ true → (n : ℕ) × IsUnderRoot g roots r p n × (label_of g n ≡ label)
      by_number None e h = absurd (cc h)
      by_number (Some n) e h = (n, (root, e), by_node n (node g n) refl h)

  -- a tree that holds the identity of m has m there
  pub holds_it : (r m s : ℕ) (p : Names) → is_member nat_eq roots r ≡ true → IsUnderRoot g roots s p m → holds (rows_of v g r) (label_of g m) p ≡ true → IsUnderRoot g roots r p m
  holds_it r m s p root stands h = let n = held_by r (label_of g m) p root h in subst (λ k. IsUnderRoot g roots r p k) (st.one_node r s n.0 m p n.1 stands n.2) n.1

  pub held : (r m : ℕ) (p : Names) → IsUnderRoot g roots r p m → holds (rows_of v g r) (label_of g m) p ≡ true
  held r m p s = ap (λ o. has_label o (label_of g m)) (labelled_is r p ∙ ap (λ o. and_then o (λ n. option_map (v n) (node g n))) s.1) ∙ by_node (node g m) refl (there_at g roots st r m p s)
    where
      by_node : (o : Option NodeRow) → node g m ≡ o → is_some o ≡ true → has_label (option_map (v m) o) (unwrap_or (option_map (λ row. row.label) o) 0) ≡ true
      by_node None e t = absurd (cc t)
      by_node (Some row) e t = let same = labels_read m row e in grind (arith, nat_tests, same)

  pub identity_is_node : (r label : ℕ) (p : Names) → is_member nat_eq roots r ≡ true → (holds (rows_of v g r) label p ≡ true) ↔ ((n : ℕ) × IsUnderRoot g roots r p n × (label_of g n ≡ label))
  identity_is_node r label p root = (
    λ h. held_by r label p root h,
    λ n. ap (λ k. holds (rows_of v g r) k p) (sym n.2) ∙ held r n.0 p n.1,
  )

  -- ---- the holders

  abbrev member_of : List ℕ → ℕ → Type 0
  member_of rs r = is_member nat_eq rs r ≡ true

  holder_is : (lab k : ℕ) (p : Names) (rs : List ℕ) → is_member nat_eq (holders (trees_of v g rs) lab p) k ≡ true
      → (r : ℕ) × member_of rs r × (holds (rows_of v g r) lab p ≡ true) × (label_of_item (at (rows_of v g r) (parent_of p)) ≡ k)
  holder_is lab k p [] h = cc
  holder_is lab k p (r ∷ rs) h = by_test (holds (rows_of v g r) lab p) refl h (holder_is lab k p rs)
    where
      more : (q : ℕ) → member_of rs q → member_of (r ∷ rs) q
      more q m = grind (arith, m)

      mine : member_of (r ∷ rs) r
      mine = grind (arith, nat_tests)

      equal : (a b : ℕ) → nat_eq a b ≡ true → b ≡ a
      equal a b e = grind (arith, nat_tests)

      next : ((r : ℕ) × member_of rs r × (holds (rows_of v g r) lab p ≡ true) × (label_of_item (at (rows_of v g r) (parent_of p)) ≡ k))
          → (q : ℕ) × member_of (r ∷ rs) q × (holds (rows_of v g q) lab p ≡ true) × (label_of_item (at (rows_of v g q) (parent_of p)) ≡ k)
      next f = (f.0, more f.0 f.1, f.2, f.3)

      by_head : (b : Bool) → nat_eq k (label_of_item (at (rows_of v g r) (parent_of p))) ≡ b → holds (rows_of v g r) lab p ≡ true → (b || is_member nat_eq (holders (trees_of v g rs) lab p) k) ≡ true
          → (is_member nat_eq (holders (trees_of v g rs) lab p) k ≡ true → (r : ℕ) × member_of rs r × (holds (rows_of v g r) lab p ≡ true) × (label_of_item (at (rows_of v g r) (parent_of p)) ≡ k))
          → (q : ℕ) × member_of (r ∷ rs) q × (holds (rows_of v g q) lab p ≡ true) × (label_of_item (at (rows_of v g q) (parent_of p)) ≡ k)
      by_head true e t h f = (r, mine, t, equal _ _ e)
      by_head false e t h f = next (f h)

      by_test : (b : Bool) → holds (rows_of v g r) lab p ≡ b → is_member nat_eq (map (λ t. label_of_item (at t (parent_of p))) (cond b (rows_of v g r ∷ filter (λ t. holds t lab p) (trees_of v g rs)) (filter (λ t. holds t lab p) (trees_of v g rs)))) k ≡ true
          → (is_member nat_eq (holders (trees_of v g rs) lab p) k ≡ true → (r : ℕ) × member_of rs r × (holds (rows_of v g r) lab p ≡ true) × (label_of_item (at (rows_of v g r) (parent_of p)) ≡ k))
          → (q : ℕ) × member_of (r ∷ rs) q × (holds (rows_of v g q) lab p ≡ true) × (label_of_item (at (rows_of v g q) (parent_of p)) ≡ k)
      by_test true e h f = by_head _ refl e h f
      by_test false e h f = next (f h)

  is_holder : (lab : ℕ) (p : Names) (rs : List ℕ) (r : ℕ) → member_of rs r → holds (rows_of v g r) lab p ≡ true → is_member nat_eq (holders (trees_of v g rs) lab p) (label_of_item (at (rows_of v g r) (parent_of p))) ≡ true
  is_holder lab p [] r m h = cc
  is_holder lab p (s ∷ rs) r m h = ⊎_elim (λ e. first e (holds (rows_of v g s) lab p) (subst (λ q. holds (rows_of v g q) lab p ≡ true) e h)) (λ ne. later (holds (rows_of v g s) lab p) (is_holder lab p rs r (among ne) h)) (cases_eq r s)
    where
      among : r ≢ s → is_member nat_eq rs r ≡ true
      among ne = grind (arith, nat_tests, m)

      same : (a b : ℕ) → a ≡ b → nat_eq a b ≡ true
      same a b e = grind (arith, nat_tests)

      first : r ≡ s → (b : Bool) → b ≡ true → is_member nat_eq (map (λ t. label_of_item (at t (parent_of p))) (cond b (rows_of v g s ∷ filter (λ t. holds t lab p) (trees_of v g rs)) (filter (λ t. holds t lab p) (trees_of v g rs)))) (label_of_item (at (rows_of v g r) (parent_of p))) ≡ true
      first e true t = ap (λ b. b || is_member nat_eq (holders (trees_of v g rs) lab p) (label_of_item (at (rows_of v g r) (parent_of p)))) (same _ _ (ap (λ q. label_of_item (at (rows_of v g q) (parent_of p))) e))
      first e false t = cc

      later : (b : Bool) → is_member nat_eq (holders (trees_of v g rs) lab p) (label_of_item (at (rows_of v g r) (parent_of p))) ≡ true
          → is_member nat_eq (map (λ t. label_of_item (at t (parent_of p))) (cond b (rows_of v g s ∷ filter (λ t. holds t lab p) (trees_of v g rs)) (filter (λ t. holds t lab p) (trees_of v g rs)))) (label_of_item (at (rows_of v g r) (parent_of p))) ≡ true
      later true h = either (nat_eq _ _) (is_member nat_eq (holders (trees_of v g rs) lab p) (label_of_item (at (rows_of v g r) (parent_of p)))) h
        where
          either : (a b : Bool) → b ≡ true → (a || b) ≡ true
          either true b h = refl
          either false b h = h
      later false h = h

  -- ---- as many folders hold it as entries name it

  module _ (m : ℕ) (q : Names) (x : List ℕ) where
    as_many : (r : ℕ) → IsUnderRoot g roots r (q ++ x ∷ []) m → distinct_count nat_eq (holders (trees_of v g roots) (label_of g m) (q ++ x ∷ [])) ≡ named g m
    as_many r s =
        let found = all_found g st.graph.in_order in
        let all = each {P = λ row. node g row.0 ≡ Some row.1} {Q = λ row. 0 < row_names m row.1 → Holds g roots st m q x row.0} g (λ row e l. holder g roots st m q x r s row.0 (subst (λ o. 0 < names m o) (sym e) l)) found in
        let once = each {P = λ row. node g row.0 ≡ Some row.1} {Q = λ row. row_names m row.1 ≤ 1} g (λ row e. subst (λ o. names m o ≤ 1) e (named_once g roots st row.0 m)) found in
        let same = λ (k : ℕ). bool_same (is_member nat_eq (labels g m g) k) (is_member nat_eq (holders (trees_of v g roots) (label_of g m) (q ++ x ∷ [])) k)
        (λ h. let f = label_is g roots st m q x k g all h in
        let stands = child_stands g roots st f.1.0 f.0 m q x f.1.1 f.1.2 in
        let is = is_holder (label_of g m) (q ++ x ∷ []) roots f.1.0 f.1.1.0 (held f.1.0 m (q ++ x ∷ []) stands) in
        let its = ap (λ (p : Names). label_of_item (at (rows_of v g f.1.0) p)) (parent_push q x) ∙ label_there f.1.0 f.0 q f.1.1 ∙ sym f.2 in
        subst (λ n. is_member nat_eq (holders (trees_of v g roots) (label_of g m) (q ++ x ∷ [])) n ≡ true) its is)
        (λ h. let t = holder_is (label_of g m) k (q ++ x ∷ []) roots h in
        let stands = holds_it t.0 m r (q ++ x ∷ []) t.1 s t.2 in
        let f = folder_stands g roots st t.0 m q x stands in
        let is = is_label g roots st m q x f.0 g (child_named_by g roots st f.0 m x f.2) in
        let its = sym (label_there t.0 f.0 q f.1) ∙ sym (ap (λ (p : Names). label_of_item (at (rows_of v g t.0) p)) (parent_push q x)) ∙ t.3 in
        subst (λ n. is_member nat_eq (labels g m g) n ≡ true) its is) in
        sym (length-from_keys nat_eq_equiv (labels g m g) (holders (trees_of v g roots) (label_of g m) (q ++ x ∷ [])) (distinct g roots st m q x g st.graph.in_order all) same) ∙ long g m g once

    pub links_inside : (r : ℕ) → IsUnderRoot g roots r (q ++ x ∷ []) m → links (trees_of v g roots) (label_of g m) (q ++ x ∷ []) ≡ links_of g m
    links_inside r s =
        ap (λ b. if b then count_by (λ t. holds t (label_of g m) (q ++ x ∷ [])) (trees_of v g roots) else distinct_count nat_eq (holders (trees_of v g roots) (label_of g m) (q ++ x ∷ []))) (not_root q x)
        ∙ as_many r s ∙ omega (arith, no_root g roots st m q x r s, st.graph.counted m)

  -- ---- a root

  all_members : (rs : List ℕ) → ((r : ℕ) → member_of rs r → member_of roots r) → AllByRecursion (λ r. member_of roots r) rs
  all_members [] f = tt
  all_members (r ∷ rs) f = (f r mine, all_members rs (λ q m. f q (more q m)))
    where
      mine : member_of (r ∷ rs) r
      mine = grind (arith, nat_tests)

      more : (q : ℕ) → member_of rs q → member_of (r ∷ rs) q
      more q m = grind (arith, m)

  count_roots : (m : ℕ) → IsUnderRoot g roots m [] m → (rs : List ℕ) → AllByRecursion (λ r. member_of roots r) rs → count_by (λ t. holds t (label_of g m) []) (trees_of v g rs) ≡ count_by (λ r. r == m) rs
  count_roots m s [] all = refl
  count_roots m s (r ∷ rs) all =
      sum_by-cons (λ (t : LabelledTree). cond (holds t (label_of g m) []) 1 0) (rows_of v g r) (trees_of v g rs)
      ∙ step (holds (rows_of v g r) (label_of g m) []) (r == m) same (count_roots m s rs all.1) ∙ sym (sum_by-cons (λ (r : ℕ). cond (r == m) 1 0) r rs)
    where
      step : (a b : Bool) → a ≡ b → count_by (λ t. holds t (label_of g m) []) (trees_of v g rs) ≡ count_by (λ r. r == m) rs → cond a 1 0 + count_by (λ t. holds t (label_of g m) []) (trees_of v g rs) ≡ cond b 1 0 + count_by (λ r. r == m) rs
      step a b e f = rw (e, f) refl

      its : (a b : ℕ) → Some a ≡ Some b → (a == b) ≡ true
      its a b e = let h : a ≡ b = cc in grind (arith, nat_tests)

      equal : (a b : ℕ) → (a == b) ≡ true → a ≡ b
      equal a b e = grind (arith, nat_tests)

      stands : IsUnderRoot g roots r [] r
      stands = (all.0, here g roots st r (root_there g roots st r all.0))

      same : holds (rows_of v g r) (label_of g m) [] ≡ (r == m)
      same = bool_same _ _
          (λ h. its r m (sym stands.1 ∙ (holds_it r m m [] all.0 s h).1))
          (λ h. subst (λ n. holds (rows_of v g r) (label_of g n) [] ≡ true) (equal r m h) (held r r [] stands))

  pub links_root : (r m : ℕ) → IsUnderRoot g roots r [] m → links (trees_of v g roots) (label_of g m) [] ≡ links_of g m
  links_root r m s =
      let own : IsUnderRoot g roots m [] m = subst (λ k. IsUnderRoot g roots k [] m) (at_root_path g roots st r m s) s in
      count_roots m own roots (all_members roots (λ r h. h)) ∙ sym (st.rooted m) ∙ omega (arith, root_not_named g roots st m own, st.graph.counted m)

  pub links_counted : (r n : ℕ) (p : Names) → IsUnderRoot g roots r p n → links (trees_of v g roots) (label_of g n) p ≡ links_of g n
  links_counted r n [] s = links_root r n s
  links_counted r n (y ∷ p) s =
      let split = split_last (y ∷ p) (suc_not_0 (length p)) in
      subst (λ (p : Names). links (trees_of v g roots) (label_of g n) p ≡ links_of g n) (sym split.2) (links_inside n split.0 split.1 r (subst (λ (p : Names). IsUnderRoot g roots r p n) split.2 s))
