-- Nodes with new ones after them.
use Rattle.std.proofs.Common.{zero, suc, ◌≡◌, ℕ, ◌+◌, ◌-◌, ◌<◌, ◌≤◌, true, false, cond, Option, Some, None, is_some, List, [], ◌∷◌, ◌++◌, length, refl, sym, ap, ◌∙◌, arith, subst, ⊎_elim, ◌⊎◌, inl, inr}
use Rattle.std.specs.BTreeMap.{is_at}
use Rattle.std.specs.List.{slice_get}
use Rattle.std.specs.Option.{option_map}
use Rattle.std.specs.Ordering.{nat_cmp}
use Rattle.std.proofs.lemmas.Bool.Decides.{nat_tests}
use Rattle.std.proofs.lemmas.Option.{slice_get_within, get_or_from_slice_get}
use Rattle.tm_base.specs.Paths.{Names}
use Rattle.tm_tree.specs.declared.node.NodeRow.{NodeRow}
use Rattle.tm_graph.specs.Nodes.{Nodes, node, names, times, entries_of, IsGraph, Descends}
use Rattle.tm_graph.specs.Trees.{child_of, and_then, value_at, number_at, number}
use Rattle.tm_graph.specs.Walks.{child_named}
use Rattle.tm_graph.proofs.Greatest.{to_greatest}
use Rattle.tm_graph.proofs.PlaceAt.{or_else}
use Rattle.tm_graph.proofs.WaysFound.{child_there, times_named}
use Rattle.tm_copy.specs.Building.{Backup, first, next, all, IsNewNode, AreNew}
use Rattle.tm_base.proofs.Facts.{some_there as some_is}

pub node-append : (t u : Nodes) (q : ℕ) → node (t ++ u) q ≡ or_else (node t q) (node u q)
node-append [] u q = refl
node-append (row ∷ t) u q = elim (is_at (nat_cmp q) row.0) as (λ b. cond b (Some row.1) (node (t ++ u) q) ≡ or_else (cond b (Some row.1) (node t q)) (node u q)) [ true ↦ refl | false ↦ node-append t u q ]

-- what is there stays
pub node_stays : (t u : Nodes) (q : ℕ) (row : NodeRow) → node t q ≡ Some row → node (t ++ u) q ≡ Some row
node_stays t u q row e = node-append t u q ∙ ap (λ o. or_else o (node u q)) e

pub there_stays : (t u : Nodes) (q : ℕ) → is_some (node t q) ≡ true → is_some (node (t ++ u) q) ≡ true
there_stays t u q h = let s = some_is (node t q) h in ap is_some (node_stays t u q s.0 s.1)

pub there_after : (t u : Nodes) (q : ℕ) → is_some (node u q) ≡ true → is_some (node (t ++ u) q) ≡ true
there_after t u q h = ap is_some (node-append t u q) ∙ by_node (node t q)
  where
    by_node : (o : Option NodeRow) → is_some (or_else o (node u q)) ≡ true
    by_node None = h
    by_node (Some row) = refl

-- ---- places

pub place_of : (new : Nodes) (m : ℕ) (row : NodeRow) → node new m ≡ Some row → (i : ℕ) × (slice_get new i ≡ Some (m, row))
place_of [] m row e = absurd (cc e)
place_of (x ∷ new) m row e =
    let rest = place_of new m row in
    elim (is_at (nat_cmp m) x.0) as (λ b. is_at (nat_cmp m) x.0 ≡ b → cond b (Some x.1) (node new m) ≡ Some row → (i : ℕ) × (slice_get (x ∷ new) i ≡ Some (m, row))) [
      | true ↦ λ hit e. (0, pair (same x.0 hit) e)
      | false ↦ λ off e. let r = rest e in (suc r.0, r.1)
    ] refl e
  where
    same : (n : ℕ) → is_at (nat_cmp m) n ≡ true → n ≡ m
    same n hit = grind (arith, nat_tests)

    pair : x.0 ≡ m → Some x.1 ≡ Some row → Some x ≡ Some (m, row)
    pair e f = let rows : x.1 ≡ row = cc f in λ i. Some (e i, rows i)

pub found_at : (new : Nodes) (i : ℕ) (x : ℕ × NodeRow) → slice_get new i ≡ Some x → is_some (node new x.0) ≡ true
found_at [] i x e = absurd (cc e)
found_at (y ∷ new) zero x e = let same : y ≡ x = cc e in subst (λ (z : ℕ × NodeRow). is_some (node (y ∷ new) z.0) ≡ true) same (ap (λ b. is_some (cond b (Some y.1) (node new y.0))) itself)
  where
    itself : is_at (nat_cmp y.0) y.0 ≡ true
    itself = grind (arith, nat_tests)
found_at (y ∷ new) (suc i) x e = elim (is_at (nat_cmp x.0) y.0) as (λ b. is_some (cond b (Some y.1) (node new x.0)) ≡ true) [ true ↦ refl | false ↦ found_at new i x e ]

module _ (b : Backup) (new : Nodes) (are : AreNew b new) where
  pub record New (m : ℕ) (row : NodeRow) : Type 0 where
    pub from : first b ≤ m
    pub to : m < next b new
    pub is : IsNewNode b (m, row)

  pub new_is : (m : ℕ) (row : NodeRow) → node new m ≡ Some row → New m row
  new_is m row e =
      let p = place_of new m row e in
      let within = slice_get_within new p.0 (m, row) p.1 in
      let numbered : m ≡ first b + p.0 = are.numbered p.0 (m, row) p.1 in
      record {
        from = omega arith;
        to = omega (arith, within);
        is = subst (IsNewNode b) (get_or_from_slice_get new p.0 (m, row) (m, row) p.1) (are.each p.0 (m, row) within);
      }

  pub new_there : (m : ℕ) → first b ≤ m → m < next b new → is_some (node new m) ≡ true
  new_there m from to =
      let i : ℕ = m - first b in
      let within : i < length new = omega arith in
      let got = some_is (slice_get new i) (some_get new i within) in
      let same : got.0.0 ≡ m = omega (arith, are.numbered i got.0 got.1) in
      subst (λ k. is_some (node new k) ≡ true) same (found_at new i got.0 got.1)
    where
      some_get : (xs : Nodes) (i : ℕ) → i < length xs → is_some (slice_get xs i) ≡ true
      some_get [] i l = absurd (omega (arith, l))
      some_get (x ∷ xs) zero l = refl
      some_get (x ∷ xs) (suc i) l = some_get xs i (omega (arith, l))

  pub none_next : (k : ℕ) → next b new ≤ k → node new k ≡ None
  none_next k l = by_node (node new k) refl
    where
      by_node : (o : Option NodeRow) → node new k ≡ o → node new k ≡ None
      by_node None e = e
      by_node (Some row) e = absurd (let n = new_is k row e in omega (arith, n.to, l))

  -- the node that comes next
  pub node_next : (row : NodeRow) → node (new ++ (next b new, row) ∷ []) (next b new) ≡ Some row
  node_next row = node-append new ((next b new, row) ∷ []) (next b new) ∙ ap (λ o. or_else o (node ((next b new, row) ∷ []) (next b new))) (none_next (next b new) (omega arith)) ∙ here (next b new)
    where
      here : (n : ℕ) → cond (is_at (nat_cmp n) n) (Some row) None ≡ Some row
      here n = let t : is_at (nat_cmp n) n ≡ true = grind (arith, nat_tests) in ap (λ b. cond b (Some row) None) t

-- ---- children are there

abbrev pub Closed : Nodes → Type 0
Closed t = (n m : ℕ) (name : List ℕ) → child_of (node t n) name ≡ Some m → is_some (node t m) ≡ true

-- old nodes are below the first new one
pub old_below : (b : Backup) (m : ℕ) → IsGraph b.graph → is_some (node b.graph m) ≡ true → m < first b
old_below b m is t = omega (arith, to_greatest b.graph m is.in_order t)

module _ (b : Backup) (new : Nodes) (is : IsGraph b.graph) (are : AreNew b new) where
  -- a node is an old one or a new one
  pub which : (n : ℕ) (row : NodeRow) → node (all b new) n ≡ Some row → (node b.graph n ≡ Some row) ⊎ (node new n ≡ Some row)
  which n row e = by_node (node b.graph n) (sym (node-append b.graph new n) ∙ e)
    where
      by_node : (o : Option NodeRow) → or_else o (node new n) ≡ Some row → (o ≡ Some row) ⊎ (node new n ≡ Some row)
      by_node None h = inr h
      by_node (Some x) h = inl h

  new_child : (n m : ℕ) (row : NodeRow) (name : List ℕ) → node new n ≡ Some row → child_named (entries_of row) name ≡ Some m → is_some (node (all b new) m) ≡ true
  new_child n m row name e c =
      let new_row = new_is b new are n row e in
      let named = times_named (entries_of row) name m c in
      ⊎_elim (λ old. there_stays b.graph new m old)
      (λ from. there_after b.graph new m (new_there b new are m from (omega (arith, new_row.to, new_row.is.lower m named))))
      (new_row.is.known m named)

  pub closed : Closed (all b new)
  closed n m name c = by_node (node (all b new) n) refl c
    where
      by_node : (o : Option NodeRow) → node (all b new) n ≡ o → child_of o name ≡ Some m → is_some (node (all b new) m) ≡ true
      by_node None e c = absurd (cc c)
      by_node (Some row) e c = ⊎_elim
          (λ old. there_stays b.graph new m (child_there b.graph n m name is (ap (λ o. child_of o name) old ∙ c)))
          (λ made. new_child n m row name made c)
          (which n row e)

  pub descends : Descends (all b new)
  descends = record {
    rises = λ n row e. ⊎_elim (λ old. is.rises n row old) (λ made. (new_is b new are n row made).is.rises) (which n row e);
    falls = λ n q l. falls n q l;
  }
    where
      by_count : (k : ℕ) (n q : ℕ) → n ≤ q → (0 < k → q < n) → k ≡ 0
      by_count zero n q l f = refl
      by_count (suc k) n q l f = absurd (omega (arith, l, f (omega arith)))

      falls : (n q : ℕ) → n ≤ q → names q (node (all b new) n) ≡ 0
      falls n q l = by_node (node (all b new) n) refl
        where
          by_node : (o : Option NodeRow) → node (all b new) n ≡ o → names q o ≡ 0
          by_node None e = refl
          by_node (Some row) e = ⊎_elim
              (λ old. sym (ap (names q) old) ∙ is.falls n q l)
              (λ made. by_count (times q (entries_of row)) n q l (λ some. (new_is b new are n row made).is.lower q some))
              (which n row e)

  -- a new node is no old one
  pub new_at : (m : ℕ) (row : NodeRow) → node new m ≡ Some row → node (all b new) m ≡ Some row
  new_at m row e = node-append b.graph new m ∙ ap (λ o. or_else o (node new m)) (by_node (node b.graph m) refl) ∙ e
    where
      by_node : (o : Option NodeRow) → node b.graph m ≡ o → node b.graph m ≡ None
      by_node None none = none
      by_node (Some old) h = absurd (omega (arith, old_below b m is (ap is_some h), (new_is b new are m row e).from))

-- ---- what stands beneath stays

module _ {X : Type 0} (v w : ℕ → NodeRow → X) (t u : Nodes) (shut : Closed t) (alike : (m : ℕ) (row : NodeRow) → node t m ≡ Some row → v m row ≡ w m row) where
  by_child : (q : Names) (o : Option ℕ) → ((m : ℕ) → o ≡ Some m → value_at w (t ++ u) m q ≡ value_at v t m q) → and_then o (λ m. value_at w (t ++ u) m q) ≡ and_then o (λ m. value_at v t m q)
  by_child q None f = refl
  by_child q (Some m) f = f m refl

  pub value_stays : (q : Names) (n : ℕ) → is_some (node t n) ≡ true → value_at w (t ++ u) n q ≡ value_at v t n q
  value_stays [] n h =
      let s = some_is (node t n) h in
      ap (option_map (w n)) (node_stays t u n s.0 s.1) ∙ ap Some (sym (alike n s.0 s.1)) ∙ sym (ap (option_map (v n)) s.1)
  value_stays (x ∷ q) n h =
      let s = some_is (node t n) h in
      ap (λ o. and_then (child_of o x) (λ m. value_at w (t ++ u) m q)) (node_stays t u n s.0 s.1 ∙ sym s.1)
      ∙ by_child q (child_of (node t n) x) (λ m c. value_stays q m (shut n m x c))

pub number_stays : (t u : Nodes) → Closed t → (q : Names) (n : ℕ) → is_some (node t n) ≡ true → number_at (t ++ u) n q ≡ number_at t n q
number_stays t u shut q n h = value_stays number number t u shut (λ m row e. refl) q n h
