-- Links of nodes that keep the rules.
use Rattle.std.proofs.Common.{zero, suc, ◌≡◌, ⊎_elim, ℕ, ◌+◌, ◌*◌, ◌^◌, ◌<◌, ◌≤◌, ◌==◌, Bool, true, false, cond, Option, Some, None, is_some, List, [], ◌∷◌, length, slice_get, count_by, refl, sym, ap, ◌∙◌, arith, subst}
use Rattle.std.specs.Map.{values_of}
use Rattle.std.specs.Option.{option_map, unwrap_or}
use Rattle.std.proofs.lemmas.Bool.{cases_lt}
use Rattle.std.proofs.lemmas.Bool.Decides.{nat_tests}
use Rattle.std.proofs.lemmas.List.Sums.{sum_by-cons, count_by-le-length}
use Rattle.tm_base.specs.Limits.{max_nodes, max_snapshots}
use Rattle.tm_base.proofs.Facts.{some_there}
use Rattle.tm_tree.specs.declared.node.NodeRow.{NodeRow}
use Rattle.tm_graph.specs.Nodes.{Nodes, node, entries_of, names, times, named, links_of, row_names, IsGraph}
use Rattle.tm_identity.specs.Stores.{IsStore}
use Rattle.tm_store_records.specs.declared.snapshot.Snapshot.{Snapshot}
use Rattle.tm_store_records.specs.Found.{roots_of}
use Rattle.tm_store_records.specs.Rules.{IsGoodSnapshot, is_folder_node}
use Rattle.tm_store_records.specs.Located.{AllRise}
use Rattle.tm_store_records.proofs.NextKeyLemmas.{Sorted}
use Rattle.tm_store_records.proofs.Placed.{place_of}
use Rattle.tm_store_records.proofs.Graphing.{AllGood, kept, one_path, one_node}

-- a list of places below a number
pub short_list : {X : Type 0} (xs : List X) (n : ℕ) → ((i : ℕ) (x : X) → slice_get xs i ≡ Some x → i < n) → length xs ≤ n
short_list [] n h = omega arith
short_list (x ∷ xs) zero h = absurd (let low = h 0 x refl in omega (arith, low))
short_list (x ∷ xs) (suc n) h = let rest = short_list xs n (λ i y is. let low = h (suc i) y is in omega (arith, low)) in omega (arith, rest)

-- a number that is named is named by a node
pub record NamedBy (q : ℕ) (es : Nodes) : Type 0 where
  pub place : ℕ
  pub entry : ℕ × NodeRow
  pub is : slice_get es place ≡ Some entry
  pub names_it : 0 < times q (entries_of entry.1)

pub named_by : (q : ℕ) (es : Nodes) → 0 < named es q → NamedBy q es
named_by q [] h = absurd (omega (arith, h))
named_by q (e ∷ es) h = ⊎_elim
    (λ (here : 0 < row_names q e.1). record { place = 0; entry = e; is = refl; names_it = here })
    (λ (none : row_names q e.1 ≤ 0). let rest = named_by q es (omega (arith, h, none, sum_by-cons (row_names q) e.1 (values_of es))) in record { place = suc rest.place; entry = rest.entry; is = rest.is; names_it = rest.names_it })
    (cases_lt 0 (row_names q e.1))

-- a root is a snapshot's
pub record RootOf (q : ℕ) (snapshots : List Snapshot) : Type 0 where
  pub place : ℕ
  pub snapshot : Snapshot
  pub is : slice_get snapshots place ≡ Some snapshot
  pub root : snapshot.root ≡ q

pub root_of : (q : ℕ) (snapshots : List Snapshot) → 0 < count_by (λ r. r == q) (roots_of snapshots) → RootOf q snapshots
root_of q [] h = absurd (omega (arith, h))
root_of q (s ∷ snapshots) h = by_test (s.root == q) refl (λ more. root_of q snapshots more)
  where
    by_test : (b : Bool) → (s.root == q) ≡ b → (0 < count_by (λ r. r == q) (roots_of snapshots) → RootOf q snapshots) → RootOf q (s ∷ snapshots)
    by_test true t rest = record { place = 0; snapshot = s; is = refl; root = grind (arith, nat_tests) }
    by_test false t rest =
        let none : ◌≡◌ {A = ℕ} (cond (s.root == q) 1 0) 0 = ap (λ b. cond b 1 0) t in
        let more = rest (omega (arith, h, none, sum_by-cons (λ (r : ℕ). cond (r == q) 1 0) s.root (roots_of snapshots))) in
        record { place = suc more.place; snapshot = more.snapshot; is = more.is; root = more.root }

-- snapshots that keep the rules, each by itself
abbrev pub AllSnapshotsGood : Nodes → List Snapshot → ℕ → Type 0
AllSnapshotsGood g snapshots number = (place : ℕ) (s : Snapshot) → slice_get snapshots place ≡ Some s → IsGoodSnapshot g snapshots number place s

module _ (g : Nodes) (snapshots : List Snapshot) (number : ℕ) (sorted : Sorted g) (good : AllGood g (roots_of snapshots) number) (good_snapshots : AllSnapshotsGood g snapshots number)
    (rise : AllRise g) (most : number ≤ 2 ^ 40) (short : (place : ℕ) (e : ℕ × NodeRow) → slice_get g place ≡ Some e → length (entries_of e.1) < 2 ^ 32) where
  few_nodes : length g ≤ max_nodes
  few_nodes = short_list g max_nodes (λ i e is. (good i e is).few)

  few_snapshots : length snapshots ≤ max_snapshots
  few_snapshots = short_list snapshots max_snapshots (λ i s is. (good_snapshots i s is).few)

  each_few : (q : ℕ) (es : Nodes) → ((place : ℕ) (e : ℕ × NodeRow) → slice_get es place ≡ Some e → length (entries_of e.1) < 2 ^ 32) → named es q ≤ length es * 2 ^ 32
  each_few q [] h = omega arith
  each_few q (e ∷ es) h =
      let rest = each_few q es (λ i f is. h (suc i) f is) in
      let here = h 0 e refl in
      let times_few : row_names q e.1 ≤ length (entries_of e.1) = count_by-le-length (λ child. child.node == q) (entries_of e.1) in
      omega (arith, rest, here, times_few, sum_by-cons (row_names q) e.1 (values_of es))

  named_few : (q : ℕ) → named g q ≤ 2 ^ 50
  named_few q = let few = each_few q g short in let long = few_nodes in omega (arith, few, long)

  roots_few : (q : ℕ) → count_by (λ r. r == q) (roots_of snapshots) ≤ max_snapshots
  roots_few q = let few = count_by-le-length (λ r. r == q) (roots_of snapshots) in omega (arith, few, few_snapshots, length_roots snapshots)
    where
      length_roots : (ss : List Snapshot) → length (roots_of ss) ≡ length ss
      length_roots [] = refl
      length_roots (s ∷ ss) = ap suc (length_roots ss)

  -- what nothing is there for is named by nothing
  none_named : (q : ℕ) → node g q ≡ None → named g q ≡ 0
  none_named q none = ⊎_elim
      (λ (h : 0 < named g q).
      let by = named_by q g h in
      let there = ((good by.place by.entry by.is).children q by.names_it).1 in
      absurd (let bad : false ≡ true = sym (ap (λ (o : Option NodeRow). is_some o) none) ∙ there in cc))
      (λ (h : named g q ≤ 0). omega (arith, h))
      (cases_lt 0 (named g q))

  none_rooted : (q : ℕ) → node g q ≡ None → count_by (λ r. r == q) (roots_of snapshots) ≡ 0
  none_rooted q none = ⊎_elim
      (λ (h : 0 < count_by (λ r. r == q) (roots_of snapshots)).
      let by = root_of q snapshots h in
      let folder : is_folder_node (node g q) ≡ true = subst (λ k. is_folder_node (node g k) ≡ true) by.root (good_snapshots by.place by.snapshot by.is).root in
      absurd (let bad : false ≡ true = sym (ap (λ (o : Option NodeRow). is_folder_node o) none) ∙ folder in cc))
      (λ (h : count_by (λ r. r == q) (roots_of snapshots) ≤ 0). omega (arith, h))
      (cases_lt 0 (count_by (λ r. r == q) (roots_of snapshots)))

  -- links are those of entries and of roots
  links_are : (q : ℕ) → links_of g q ≡ named g q + count_by (λ r. r == q) (roots_of snapshots)
  links_are q = by_node (node g q) refl
    where
      by_node : (o : Option NodeRow) → node g q ≡ o → unwrap_or (option_map (λ row. row.links) (node g q)) 0 ≡ named g q + count_by (λ r. r == q) (roots_of snapshots)
      by_node None e = ap (λ (o : Option NodeRow). unwrap_or (option_map (λ row. row.links) o) 0) e ∙ (let a = none_named q e in let b = none_rooted q e in omega (arith, a, b))
      by_node (Some row) e = ap (λ (o : Option NodeRow). unwrap_or (option_map (λ row. row.links) o) 0) e ∙ (kept g (roots_of snapshots) number sorted good q row e).rules.counted

  falls : (n q : ℕ) → n ≤ q → names q (node g n) ≡ 0
  falls n q le = by_node (node g n) refl
    where
      by_node : (o : Option NodeRow) → node g n ≡ o → names q o ≡ 0
      by_node None e = refl
      by_node (Some row) e = ⊎_elim
          (λ (h : 0 < times q (entries_of row)). let low = ((kept g (roots_of snapshots) number sorted good n row e).rules.children q h).0 in absurd (omega (arith, low, le)))
          (λ (h : times q (entries_of row) ≤ 0). omega (arith, h))
          (cases_lt 0 (times q (entries_of row)))

  pub graph_is : IsGraph g
  graph_is = record {
    in_order = sorted;
    rises = λ n row e. (let there = place_of g n row e in rise there.0 (n, row) there.1);
    falls = falls;
    counted = λ q. (let all = links_are q in omega (arith, all));
    few = λ q. (let all = links_are q in let a = named_few q in let b = roots_few q in omega (arith, all, a, b));
    low = λ q t. (let row = some_there (node g q) t in let high = (kept g (roots_of snapshots) number sorted good q row.0 row.1).rules.most in omega (arith, high, most));
  }

  pub store_is : IsStore g (roots_of snapshots)
  store_is = record {
    graph = graph_is;
    linked = λ q t. (let row = some_there (node g q) t in let rules = (kept g (roots_of snapshots) number sorted good q row.0 row.1).rules in
        let links : links_of g q ≡ row.0.links = ap (λ (o : Option NodeRow). unwrap_or (option_map (λ row. row.links) o) 0) row.1 in
        let least = rules.linked in omega (arith, links, least));
    rooted = λ q. (let all = links_are q in omega (arith, all));
    one_path = one_path g (roots_of snapshots) number sorted good;
    one_node = one_node g (roots_of snapshots) number sorted good;
  }
