-- What stays of a graph stands where it stood.
use Rattle.std.proofs.Common.{zero, suc, ◌≡◌, ◌≢◌, ℕ, ◌+◌, ◌-◌, ◌<◌, Bool, true, false, cond, Option, Some, None, is_some, List, [], ◌∷◌, ◌++◌, refl, sym, ap, ◌∙◌, arith, subst, nat_eq, count_by, ◌==◌, if◌then◌else◌, inl, inr, ◌⊎◌, ◌||◌}
use Rattle.std.specs.List.{flat_map, AllByRecursion}
use Rattle.std.specs.Option.{option_map, unwrap_or}
use Rattle.std.specs.Set.{is_member}
use Rattle.std.proofs.lemmas.Bool.{cases_eq}
use Rattle.std.proofs.lemmas.Bool.Decides.{nat_tests}
use Rattle.std.proofs.lemmas.List.Sums.{sum_by-cons}
use Rattle.tm_base.specs.Paths.{Names}
use Rattle.tm_tree.specs.declared.node.Child.{Child}
use Rattle.tm_tree.specs.declared.node.NodeRow.{NodeRow}
use Rattle.tm_graph.specs.Nodes.{Nodes, node, entries_of, names, times, root_links, IsGraph, with_links}
use Rattle.tm_graph.specs.Losing.{lost, IsGone, after_loss, less, is_spent}
use Rattle.tm_graph.proofs.Left.{node-left, left_is_graph}
use Rattle.tm_graph.proofs.Climbs.{there, root_links-left, linked-left}
use Rattle.tm_graph.specs.Trees.{child_of, and_then, value_at, number_at, number, under, rows_with, rows_to}
use Rattle.tm_graph.proofs.WaysFound.{child_there, named_there}
use Rattle.tm_identity.specs.Stores.{IsStore, IsUnderRoot, label_of}
use Rattle.tm_identity.specs.Removals.{TreesStay}

-- h has of each of its nodes what g has, but for links
abbrev pub IsPart : Nodes → Nodes → Type 0
IsPart h g = (n : ℕ) (row : NodeRow) → node h n ≡ Some row → (links : ℕ) × (node g n ≡ Some (with_links row links))

-- where v reads of them in h what w reads of them in g, what stands beneath a node of h is the same
module _ {X : Type 0} (v w : ℕ → NodeRow → X) (h g : Nodes) (is : IsGraph h) (part : IsPart h g) (alike : (n : ℕ) (row other : NodeRow) → node h n ≡ Some row → node g n ≡ Some other → v n row ≡ w n other) where
  pub same_value : (p : Names) (n : ℕ) → is_some (node h n) ≡ true → value_at v h n p ≡ value_at w g n p
  same_value [] n t = elim (node h n) as (λ o. node h n ≡ o → is_some o ≡ true → option_map (v n) o ≡ option_map (w n) (node g n)) [
    | None ↦ λ e t. cc
    | Some row ↦ λ e t. sym (ap (option_map (w n)) (part n row e).1 ∙ ap Some (sym (alike n row _ e (part n row e).1)))
  ] refl t
  same_value (x ∷ p) n t = elim (node h n) as (λ o. node h n ≡ o → is_some o ≡ true → and_then (child_of o x) (λ m. value_at v h m p) ≡ and_then (child_of (node g n) x) (λ m. value_at w g m p)) [
    | None ↦ λ e t. cc
    | Some row ↦ λ e t.
        onward (child_of (node h n) x) (child_of (Some row) x) (ap (λ o. child_of o x) e) (λ m f. same_value p m (child_there h n m x is f))
        ∙ sym (ap (λ o. and_then (child_of o x) (λ m. value_at w g m p)) (part n row e).1)
  ] refl t
    where
      onward : (a o : Option ℕ) → a ≡ o → ((m : ℕ) → a ≡ Some m → value_at v h m p ≡ value_at w g m p) → and_then o (λ m. value_at v h m p) ≡ and_then o (λ m. value_at w g m p)
      onward a None e f = refl
      onward a (Some m) e f = f m e

  each_there : (entries : List Child) → ((q : ℕ) → 0 < times q entries → is_some (node h q) ≡ true) → AllByRecursion (λ child. is_some (node h child.node) ≡ true) entries
  each_there [] f = tt
  each_there (child ∷ entries) f = (
    f child.node (here (sum_by-cons (λ (c : Child). cond (nat_eq c.node child.node) 1 0) child entries)),
    each_there entries (λ q l. f q (omega (arith, l, sum_by-cons (λ (c : Child). cond (nat_eq c.node q) 1 0) child entries))),
  )
    where
      here : times child.node (child ∷ entries) ≡ cond (nat_eq child.node child.node) 1 0 + times child.node entries → 0 < times child.node (child ∷ entries)
      here e = grind (arith, nat_tests, e)

  same_children : (a b : ℕ → List (Names × X)) (entries : List Child) → AllByRecursion (λ child. a child.node ≡ b child.node) entries → flat_map (λ child. under child.name (a child.node)) entries ≡ flat_map (λ child. under child.name (b child.node)) entries
  same_children a b [] f = refl
  same_children a b (child ∷ entries) f = λ i. under child.name (f.0 i) ++ same_children a b entries f.1 i

  all_of : {P Q : Child → Type 0} (entries : List Child) → ((child : Child) → P child → Q child) → AllByRecursion P entries → AllByRecursion Q entries
  all_of [] f a = tt
  all_of (child ∷ entries) f a = (f child a.0, all_of entries f a.1)

  pub same_rows : (depth n : ℕ) → is_some (node h n) ≡ true → rows_to v depth h n ≡ rows_to w depth g n
  same_rows zero n t = refl
  same_rows (suc depth) n t = elim (node h n) as (λ o. node h n ≡ o → is_some o ≡ true → rows_with v o n (rows_to v depth h) ≡ rows_with w (node g n) n (rows_to w depth g)) [
    | None ↦ λ e t. cc
    | Some row ↦ λ e t.
        let children = each_there (entries_of row) (λ q l. named_there h n q is (subst (λ o. 0 < names q o) (sym e) l)) in
        let same = same_children (rows_to v depth h) (rows_to w depth g) (entries_of row) (all_of (entries_of row) (λ child t. same_rows depth child.node t) children) in
        let first : v n row ≡ w n (with_links row (part n row e).0) = alike n row _ e (part n row e).1 in
        (λ i. ([], first i) ∷ same i) ∙ sym (ap (λ o. rows_with w o n (rows_to w depth g)) (part n row e).1)
  ] refl t

-- ---- removal

part_left : (g : Nodes) (root : ℕ) (gone : List ℕ) → IsGraph g → IsGone g root gone → IsPart (after_loss g root gone) g
part_left g root gone is goes n row e = by_node (node g n) (sym (node-left g root gone n is goes) ∙ e)
  where
    by_node : (o : Option NodeRow) → less (lost g root gone n) o ≡ Some row → (links : ℕ) × (o ≡ Some (with_links row links))
    by_node None e = cc
    by_node (Some old) e = by_spent (is_spent old.links (lost g root gone n)) e
      where
        by_spent : (b : Bool) → cond b None (Some (with_links old (old.links - lost g root gone n))) ≡ Some row → (links : ℕ) × (Some old ≡ Some (with_links row links))
        by_spent true e = cc
        by_spent false e = (old.links, ap (λ o. option_map (λ (r : NodeRow). with_links r old.links) o) e)

pub stands_there : (g : Nodes) (n m : ℕ) (p : Names) → IsGraph g → is_some (node g n) ≡ true → number_at g n p ≡ Some m → is_some (node g m) ≡ true
stands_there g n m [] is t e = subst (λ k. is_some (node g k) ≡ true) (by_node (node g n) e) t
  where
    by_node : (o : Option NodeRow) → option_map (number n) o ≡ Some m → n ≡ m
    by_node None e = cc
    by_node (Some row) e = cc
stands_there g n m (x ∷ p) is t e = by_child (child_of (node g n) x) refl e (λ k here. stands_there g k m p is (child_there g n k x is here))
  where
    by_child : (o : Option ℕ) → child_of (node g n) x ≡ o → and_then o (λ k. number_at g k p) ≡ Some m → ((k : ℕ) → child_of (node g n) x ≡ Some k → number_at g k p ≡ Some m → is_some (node g m) ≡ true) → is_some (node g m) ≡ true
    by_child None is e f = cc
    by_child (Some k) is e f = f k is e

pub counted_member : (rs : List ℕ) (s : ℕ) → is_member nat_eq rs s ≡ true → 0 < count_by (λ r. r == s) rs
counted_member [] s m = cc
counted_member (r ∷ rs) s m = by_head (cases_eq s r) (counted_member rs s) (sum_by-cons (λ (r : ℕ). cond (r == s) 1 0) r rs)
  where
    by_head : (s ≡ r) ⊎ (s ≢ r) → (is_member nat_eq rs s ≡ true → 0 < count_by (λ r. r == s) rs) → count_by (λ r. r == s) (r ∷ rs) ≡ cond (r == s) 1 0 + count_by (λ r. r == s) rs → 0 < count_by (λ r. r == s) (r ∷ rs)
    by_head (inl e) f c = grind (arith, nat_tests, c)
    by_head (inr ne) f c = let rest : is_member nat_eq rs s ≡ true = grind (arith, nat_tests, m) in omega (arith, c, f rest)

pub member_counted : (rs : List ℕ) (s : ℕ) → 0 < count_by (λ r. r == s) rs → is_member nat_eq rs s ≡ true
member_counted [] s m = absurd (omega (arith, m))
member_counted (r ∷ rs) s m = by_head (cases_eq s r) (member_counted rs s) (sum_by-cons (λ (r : ℕ). cond (r == s) 1 0) r rs)
  where
    by_head : (s ≡ r) ⊎ (s ≢ r) → (0 < count_by (λ r. r == s) rs → is_member nat_eq rs s ≡ true) → count_by (λ r. r == s) (r ∷ rs) ≡ cond (r == s) 1 0 + count_by (λ r. r == s) rs → (nat_eq s r || is_member nat_eq rs s) ≡ true
    by_head (inl e) f c = grind (arith, nat_tests)
    by_head (inr ne) f c = let none : ◌≡◌ {A = ℕ} (cond (r == s) 1 0) 0 = grind (arith, nat_tests) in let rest = f (omega (arith, c, m, none)) in grind (arith, rest)

pub root_there : (g : Nodes) (roots : List ℕ) → IsStore g roots → (s : ℕ) → is_member nat_eq roots s ≡ true → is_some (node g s) ≡ true
root_there g roots st s m = there g s (omega (arith, st.rooted s, counted_member roots s m))

module _ (g : Nodes) (roots others : List ℕ) (root : ℕ) (gone : List ℕ) (st : IsStore g roots) (goes : IsGone g root gone)
    (fewer : (q : ℕ) → count_by (λ r. r == q) roots ≡ count_by (λ r. r == q) others + (if q == root then 1 else 0)) where
  abbrev new : Nodes
  new = after_loss g root gone

  has_root : 0 < root_links g root
  has_root = let one : ◌≡◌ {A = ℕ} (if root == root then 1 else 0) 1 = grind (arith, nat_tests) in omega (arith, st.rooted root, fewer root, one)

  is_graph : IsGraph new
  is_graph = left_is_graph g root gone st.graph has_root goes

  rooted_left : (q : ℕ) → root_links new q ≡ count_by (λ r. r == q) others
  rooted_left q = omega (arith, root_links-left g root gone st.graph has_root goes q, st.rooted q, fewer q)

  was_root : (s : ℕ) → is_member nat_eq others s ≡ true → is_member nat_eq roots s ≡ true
  was_root s m = member_counted roots s (omega (arith, fewer s, counted_member others s m))

  stays : (s : ℕ) → is_member nat_eq others s ≡ true → is_some (node new s) ≡ true
  stays s m = there new s (omega (arith, rooted_left s, counted_member others s m))

  part : IsPart new g
  part = part_left g root gone st.graph goes

  pub same_number : (n : ℕ) (p : Names) → is_some (node new n) ≡ true → number_at new n p ≡ number_at g n p
  same_number n p t = same_value number number new g is_graph part (λ n row other e f. refl) p n t

  stood : (r n : ℕ) (p : Names) → IsUnderRoot new others r p n → IsUnderRoot g roots r p n
  stood r n p h = (was_root r h.0, sym (same_number r p (stays r h.0)) ∙ h.1)

  same_label : (m : ℕ) → is_some (node new m) ≡ true → label_of new m ≡ label_of g m
  same_label m t = elim (node new m) as (λ o. node new m ≡ o → is_some o ≡ true → unwrap_or (option_map (λ (row : NodeRow). row.label) o) 0 ≡ label_of g m) [
    | None ↦ λ e t. cc
    | Some row ↦ λ e t. sym (ap (λ o. unwrap_or (option_map (λ (row : NodeRow). row.label) o) 0) (part m row e).1)
  ] refl t

  pub store_left : IsStore new others
  store_left = record {
    graph = is_graph;
    linked = linked-left g root gone st.graph goes st.linked;
    rooted = rooted_left;
    one_path = λ r s n p q h k. st.one_path r s n p q (stood r n p h) (stood s n q k);
    one_node = λ r s m n p h k e. st.one_node r s m n p (stood r m p h) (stood s n p k)
        (sym (same_label m (stands_there new r m p is_graph (stays r h.0) h.1)) ∙ e ∙ same_label n (stands_there new s n p is_graph (stays s k.0) k.1));
  }

  pub trees_left : TreesStay g new others
  trees_left v w alike s m = sym (same_rows w v new g is_graph part (λ n row other e f. sym (alike n other row f e)) (suc s) s (stays s m))
