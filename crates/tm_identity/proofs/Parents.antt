-- Who names a node, and where it stands.
use Rattle.std.proofs.Common.{suc, ◌≡◌, ◌≢◌, ℕ, ◌-◌, ◌<◌, ◌≤◌, true, false, cond, Option, Some, None, is_some, List, [], ◌∷◌, ◌++◌, refl, sym, ap, ◌∙◌, arith, nat_eq, ⊎_elim, ◌==◌, length, take, length-append}
use Rattle.std.specs.declared.cmp.Ordering.TheVariants.{Less, Equal}
use Rattle.std.specs.Ordering.{nat_cmp, is_eq, ordering_reverse}
use Rattle.std.specs.Cmp.{tied_itself}
use Rattle.std.specs.Cmp.Lexicographic.{slice_cmp, nat_list_cmp_total}
use Rattle.std.specs.List.{AllByRecursion}
use Rattle.std.specs.Option.{option_map}
use Rattle.std.proofs.lemmas.Bool.{cases_eq, cases_lt}
use Rattle.std.proofs.lemmas.Bool.Decides.{nat_tests}
use Rattle.std.proofs.lemmas.List.Sums.{sum_by-cons}
use Rattle.std.proofs.Math.Seq.{take-append_seam}
use Rattle.tm_base.specs.Paths.{Names, same_name, parent_of, is_root}
use Rattle.tm_tree.specs.declared.node.Child.{Child}
use Rattle.tm_tree.specs.declared.node.NodeRow.{NodeRow}
use Rattle.tm_graph.specs.Nodes.{Nodes, node, entries_of, names, times, IsGraph}
use Rattle.tm_graph.specs.Walks.{child_named}
use Rattle.tm_graph.specs.Reached.{Reached, at_root, beneath}
use Rattle.tm_graph.proofs.Climbs.{there, all_reached}
use Rattle.tm_graph.specs.Trees.{child_of, and_then, number_at, number}
use Rattle.tm_graph.proofs.ChildLemmas.{RiseEach, rise_each}
use Rattle.tm_graph.proofs.WaysFound.{child_there, times_named}
use Rattle.tm_identity.specs.Stores.{IsStore, IsUnderRoot}
use Rattle.tm_graph.proofs.PlaceAt.{name_is}
use Rattle.tm_identity.proofs.Kept.{member_counted, stands_there, root_there}

-- ---- the names of a child

-- the first entry has this name, or another
pub head_name : (child : Child) (entries : List Child) (x : List ℕ) (o : Option ℕ) → slice_cmp nat_cmp child.name x ≡ Less → child_named entries x ≡ o → child_named (child ∷ entries) x ≡ o
head_name child entries x o less e = ap (λ b. cond b (Some child.node) (child_named entries x)) other ∙ e
  where
    other : same_name child.name x ≡ false
    other = name_is x child.name ∙ ap is_eq (nat_list_cmp_total.antisymm x child.name ∙ ap ordering_reverse less)

pub own_name : (child : Child) (entries : List Child) → child_named (child ∷ entries) child.name ≡ Some child.node
own_name child entries = ap (λ b. cond b (Some child.node) (child_named entries child.name)) same
  where
    same : same_name child.name child.name ≡ true
    same = name_is child.name child.name ∙ ap is_eq (tied_itself nat_list_cmp_total child.name)

both : (P : List ℕ → Type 0) (child : Child) (entries : List Child) → AllByRecursion (λ child. P child.name) entries → AllByRecursion (λ other. slice_cmp nat_cmp child.name other.name ≡ Less) entries → AllByRecursion (λ other. P other.name × (slice_cmp nat_cmp child.name other.name ≡ Less)) entries
both P child [] a b = tt
both P child (c ∷ entries) a b = ((a.0, b.0), both P child entries a.1 b.1)

-- a node that is named has a name, which is one of those
pub name_of : (P : List ℕ → Type 0) (m : ℕ) (entries : List Child) → RiseEach entries → AllByRecursion (λ child. P child.name) entries → 0 < times m entries → (x : List ℕ) × P x × (child_named entries x ≡ Some m)
name_of P m [] rise h l = absurd (omega (arith, l))
name_of P m (child ∷ entries) rise h l = ⊎_elim
    (λ e. (child.name, h.0, own_name child entries ∙ ap Some e))
    (λ ne. let more = name_of (λ x. P x × (slice_cmp nat_cmp child.name x ≡ Less)) m entries rise.1 (both P child entries h.1 rise.0) (fewer ne) in
    (more.0, more.1.0, head_name child entries more.0 (Some m) more.1.1 more.2))
    (cases_eq child.node m)
  where
    fewer : child.node ≢ m → 0 < times m entries
    fewer ne = let s = sum_by-cons (λ (c : Child). cond (nat_eq c.node m) 1 0) child entries in grind (arith, nat_tests, s, l)

-- a node that is named twice has two names
pub two_names : (P : List ℕ → Type 0) (m : ℕ) (entries : List Child) → RiseEach entries → AllByRecursion (λ child. P child.name) entries → 1 < times m entries
    → (x y : List ℕ) × P x × P y × (child_named entries x ≡ Some m) × (child_named entries y ≡ Some m) × (slice_cmp nat_cmp x y ≡ Less)
two_names P m [] rise h l = absurd (omega (arith, l))
two_names P m (child ∷ entries) rise h l = ⊎_elim
    (λ e. let other = name_of (λ x. P x × (slice_cmp nat_cmp child.name x ≡ Less)) m entries rise.1 (both P child entries h.1 rise.0) (one_less e) in
    (child.name, other.0, h.0, other.1.0, own_name child entries ∙ ap Some e, head_name child entries other.0 (Some m) other.1.1 other.2, other.1.1))
    (λ ne. let more = two_names (λ x. P x × (slice_cmp nat_cmp child.name x ≡ Less)) m entries rise.1 (both P child entries h.1 rise.0) (fewer ne) in
    (more.0, more.1, more.2.0, more.3.0, head_name child entries more.0 (Some m) more.2.1 more.4, head_name child entries more.1 (Some m) more.3.1 more.5, more.6))
    (cases_eq child.node m)
  where
    fewer : child.node ≢ m → 1 < times m entries
    fewer ne = let s = sum_by-cons (λ (c : Child). cond (nat_eq c.node m) 1 0) child entries in grind (arith, nat_tests, s, l)

    one_less : child.node ≡ m → 0 < times m entries
    one_less e = let s = sum_by-cons (λ (c : Child). cond (nat_eq c.node m) 1 0) child entries in grind (arith, nat_tests, s, l)

pub any_name : (entries : List Child) → AllByRecursion (λ child. Unit {0}) entries
any_name [] = tt
any_name (child ∷ entries) = (tt, any_name entries)

-- ---- one name more

pub number_at-push : (g : Nodes) → IsGraph g → (q : Names) (n : ℕ) (x : List ℕ) → is_some (node g n) ≡ true → number_at g n (q ++ x ∷ []) ≡ and_then (number_at g n q) (λ m. and_then (child_of (node g m) x) (λ k. number_at g k []))
number_at-push g is [] n x t = by_node (node g n) t
  where
    by_node : (o : Option NodeRow) → is_some o ≡ true → and_then (child_of (node g n) x) (λ k. number_at g k []) ≡ and_then (option_map (number n) o) (λ m. and_then (child_of (node g m) x) (λ k. number_at g k []))
    by_node None t = cc
    by_node (Some row) t = refl
number_at-push g is (y ∷ q) n x t = by_child (child_of (node g n) y) refl (λ k here. number_at-push g is q k x (child_there g n k y is here))
  where
    by_child : (o : Option ℕ) → child_of (node g n) y ≡ o → ((k : ℕ) → child_of (node g n) y ≡ Some k → number_at g k (q ++ x ∷ []) ≡ and_then (number_at g k q) (λ m. and_then (child_of (node g m) x) (λ k. number_at g k [])))
        → and_then o (λ m. number_at g m (q ++ x ∷ [])) ≡ and_then (and_then o (λ m. number_at g m q)) (λ m. and_then (child_of (node g m) x) (λ k. number_at g k []))
    by_child None e f = refl
    by_child (Some k) e f = f k e

pub suc_not_0 : (n : ℕ) → (suc n == 0) ≡ false
suc_not_0 n = grind (arith, nat_tests)

pub split_last : (p : Names) → is_root p ≡ false → (q : Names) × (x : List ℕ) × (p ≡ q ++ x ∷ [])
split_last [] h = cc
split_last (x ∷ []) h = ([], x, refl)
split_last (x ∷ y ∷ p) h = let more = split_last (y ∷ p) (suc_not_0 (length p)) in (x ∷ more.0, more.1, ap (λ (r : Names). x ∷ r) more.2)

pub parent_push : (q : Names) (x : List ℕ) → parent_of (q ++ x ∷ []) ≡ q
parent_push q x =
    let long : length (q ++ x ∷ []) - 1 ≡ length q = omega (arith, length-append q (x ∷ [])) in
    ap (λ n. take n (q ++ x ∷ [])) long ∙ take-append_seam q (x ∷ [])

pub not_root : (q : Names) (x : List ℕ) → is_root (q ++ x ∷ []) ≡ false
not_root [] x = suc_not_0 0
not_root (y ∷ q) x = suc_not_0 (length (q ++ x ∷ []))

last_same : (q : Names) (x y : List ℕ) → q ++ x ∷ [] ≡ q ++ y ∷ [] → x ≡ y
last_same [] x y e = cc
last_same (z ∷ q) x y e = last_same q x y (tails e)
  where
    tails : z ∷ (q ++ x ∷ []) ≡ z ∷ (q ++ y ∷ []) → q ++ x ∷ [] ≡ q ++ y ∷ []
    tails e = cc

-- ---- folders and what stands in them

module _ (g : Nodes) (roots : List ℕ) (st : IsStore g roots) where
  pub there_at : (r f : ℕ) (q : Names) → IsUnderRoot g roots r q f → is_some (node g f) ≡ true
  there_at r f q s = stands_there g r f q st.graph (root_there g roots st r s.0) s.1

  pub here : (m : ℕ) → is_some (node g m) ≡ true → number_at g m [] ≡ Some m
  here m t = by_node (node g m) t
    where
      by_node : (o : Option NodeRow) → is_some o ≡ true → option_map (number m) o ≡ Some m
      by_node None t = cc
      by_node (Some row) t = refl

  -- a child stands in its folder
  pub child_stands : (r f m : ℕ) (q : Names) (x : List ℕ) → IsUnderRoot g roots r q f → child_of (node g f) x ≡ Some m → IsUnderRoot g roots r (q ++ x ∷ []) m
  child_stands r f m q x s e = (
    s.0,
    number_at-push g st.graph q r x (root_there g roots st r s.0) ∙ ap (λ o. and_then o (λ m. and_then (child_of (node g m) x) (λ k. number_at g k []))) s.1
        ∙ ap (λ o. and_then o (λ k. number_at g k [])) e ∙ here m (child_there g f m x st.graph e),
  )

  -- what stands in a folder is its child
  pub folder_stands : (r m : ℕ) (q : Names) (x : List ℕ) → IsUnderRoot g roots r (q ++ x ∷ []) m → (f : ℕ) × IsUnderRoot g roots r q f × (child_of (node g f) x ≡ Some m)
  folder_stands r m q x s = by_folder (number_at g r q) refl (sym (number_at-push g st.graph q r x (root_there g roots st r s.0)) ∙ s.1)
    where
      by_child : (f : ℕ) (o : Option ℕ) → number_at g r q ≡ Some f → child_of (node g f) x ≡ o → and_then o (λ k. number_at g k []) ≡ Some m → (f : ℕ) × IsUnderRoot g roots r q f × (child_of (node g f) x ≡ Some m)
      by_child f None e c h = cc
      by_child f (Some k) e c h = (f, (s.0, e), c ∙ ap Some (same (here k (child_there g f k x st.graph c)) h))
        where
          same : number_at g k [] ≡ Some k → number_at g k [] ≡ Some m → k ≡ m
          same a b = cc

      by_folder : (o : Option ℕ) → number_at g r q ≡ o → and_then o (λ m. and_then (child_of (node g m) x) (λ k. number_at g k [])) ≡ Some m → (f : ℕ) × IsUnderRoot g roots r q f × (child_of (node g f) x ≡ Some m)
      by_folder None e h = cc
      by_folder (Some f) e h = by_child f (child_of (node g f) x) e refl h

  -- a folder that names a node has it as a child
  pub named_child : (f m : ℕ) → 0 < names m (node g f) → (x : List ℕ) × (child_of (node g f) x ≡ Some m)
  named_child f m h = by_node (node g f) refl h
    where
      by_node : (o : Option NodeRow) → node g f ≡ o → 0 < names m o → (x : List ℕ) × (child_of (node g f) x ≡ Some m)
      by_node None e h = absurd (omega (arith, h))
      by_node (Some row) e h = let n = name_of (λ _. Unit {0}) m (entries_of row) (rise_each (entries_of row) (st.graph.rises f row e)) (any_name (entries_of row)) h in (n.0, ap (λ o. child_of o n.0) e ∙ n.2)

  pub child_named_by : (f m : ℕ) (x : List ℕ) → child_of (node g f) x ≡ Some m → 0 < names m (node g f)
  child_named_by f m x e = by_node (node g f) e
    where
      by_node : (o : Option NodeRow) → child_of o x ≡ Some m → 0 < names m o
      by_node None e = cc
      by_node (Some row) e = times_named (entries_of row) x m e

  -- each node that is reached stands somewhere
  stands_reached : (n : ℕ) → Reached g n → (r : ℕ) × (p : Names) × IsUnderRoot g roots r p n
  stands_reached n (at_root q h) = (q, [], (member_counted roots q (omega (arith, h, st.rooted q)), here q (there g q (omega (arith, h)))))
  stands_reached n (beneath f q reached h) =
      let up = stands_reached f reached in
      let child = named_child f q h in
      (up.0, up.1 ++ child.0 ∷ [], child_stands up.0 f q up.1 child.0 up.2 child.1)

  pub stands_somewhere : (n : ℕ) → is_some (node g n) ≡ true → (r : ℕ) × (p : Names) × IsUnderRoot g roots r p n
  stands_somewhere n t = stands_reached n (all_reached g st.graph st.linked n t)

  -- no folder names a node twice
  pub named_once : (f m : ℕ) → names m (node g f) ≤ 1
  named_once f m = ⊎_elim (λ twice. absurd (by_node (node g f) refl twice)) (λ l. l) (cases_lt 1 (names m (node g f)))
    where
      less_itself : (x y : List ℕ) → x ≡ y → slice_cmp nat_cmp x y ≡ Less → ⊥
      less_itself x y e l = differ (sym (tied_itself nat_list_cmp_total x) ∙ ap (slice_cmp nat_cmp x) e ∙ l)
        where
          differ : Equal ≡ Less → ⊥
          differ e = cc

      by_node : (o : Option NodeRow) → node g f ≡ o → 1 < names m o → ⊥
      by_node None e l = omega (arith, l)
      by_node (Some row) e l =
          let two = two_names (λ _. Unit {0}) m (entries_of row) (rise_each (entries_of row) (st.graph.rises f row e)) (any_name (entries_of row)) l in
          let up = stands_somewhere f (ap is_some e) in
          let first = child_stands up.0 f m up.1 two.0 up.2 (ap (λ o. child_of o two.0) e ∙ two.4) in
          let second = child_stands up.0 f m up.1 two.1 up.2 (ap (λ o. child_of o two.1) e ∙ two.5) in
          less_itself two.0 two.1 (last_same up.1 two.0 two.1 (st.one_path up.0 up.0 m (up.1 ++ two.0 ∷ []) (up.1 ++ two.1 ∷ []) first second)) two.6
