-- What the rules of a store say of its nodes and snapshots.
use Rattle.std.proofs.Common.{suc, ◌≡◌, ℕ, ◌-◌, ◌*◌, ◌^◌, ◌<◌, ◌≤◌, ◌==◌, true, Option, Some, None, is_some, List, [], ◌∷◌, length, refl, sym, ap, arith, subst}
use Rattle.std.specs.Prelude.{slice_get}
use Rattle.std.specs.Map.{values_of}
use Rattle.std.specs.Option.{option_map, unwrap_or}
use Rattle.std.proofs.lemmas.List.Sums.{sum_by-cons, count_by-le-length}
use Rattle.tm_base.specs.Limits.{max_nodes, max_snapshots}
use Rattle.tm_tree.specs.declared.node.NodeRow.{NodeRow}
use Rattle.tm_records.specs.declared.record.Record.{Record}
use Rattle.tm_graph.specs.Nodes.{Nodes, node, entries_of, named, links_of, row_names, greatest, key_of}
use Rattle.tm_graph.proofs.Taken.{Sorted}
use Rattle.tm_graph.proofs.Same.{sorted-mapped}
use Rattle.tm_identity.specs.Stores.{IsStore, label_of}
use Rattle.tm_store_records.specs.declared.snapshot.Snapshot.{Snapshot}
use Rattle.tm_store_records.specs.Heads.{heads_of}
use Rattle.tm_store_records.specs.Found.{nodes_in, snapshots_in, roots_of, snapshot_key, node_key}
use Rattle.tm_store_records.specs.Held.{Held, IsWhole}
use Rattle.tm_store_records.proofs.Noding.{NodesAreFound, nodes_sorted, nodes_rise, nodes_short}
use Rattle.tm_store_records.proofs.Graphing.{AllGood, kept}
use Rattle.tm_store_records.proofs.Linking.{AllSnapshotsGood, store_is, short_list}

-- twice as many nodes as there may be are few enough for what is only planned
pub wide : {n : ℕ} → n ≤ max_nodes → n ≤ 2 * max_nodes
wide few = omega (arith, few)

abbrev pub AreShort : Nodes → Type 0
AreShort g = (place : ℕ) (e : ℕ × NodeRow) → slice_get g place ≡ Some e → length (entries_of e.1) < 2 ^ 32

-- nodes and snapshots that keep the rules
pub record IsOld (g : Nodes) (snapshots : List Snapshot) (next : ℕ) : Type 0 where
  pub sorted : Sorted g
  pub good : AllGood g (roots_of snapshots) next
  pub good_snapshots : AllSnapshotsGood g snapshots next
  pub short : AreShort g
  pub store : IsStore g (roots_of snapshots)

pub heads_sorted : (h : Held) → IsWhole h → Sorted (heads_of h.image.records)
heads_sorted h whole = sorted-mapped (λ _ (r : Record). record { meta = r.meta; size = r.length }) h.image.records whole.sound.rising

pub old_is : (h : Held) → IsWhole h → NodesAreFound → IsOld h.nodes h.snapshots h.number
old_is h whole found =
    let heads = heads_of h.image.records in
    let sorted = heads_sorted h whole in
    let good = λ (place : ℕ) (e : ℕ × NodeRow) (is : slice_get (nodes_in heads) place ≡ Some e). (whole.good (node_key e.0)).node_rules place e is refl in
    let good_snapshots = λ (place : ℕ) (s : Snapshot) (is : slice_get (snapshots_in heads) place ≡ Some s). (whole.good (snapshot_key s.number)).snapshot place s is refl in
    let read : IsOld (nodes_in heads) (snapshots_in heads) h.number = record {
      sorted = nodes_sorted heads sorted;
      good = good;
      good_snapshots = good_snapshots;
      short = nodes_short found heads;
      store = store_is (nodes_in heads) (snapshots_in heads) h.number (nodes_sorted heads sorted) good good_snapshots (nodes_rise found heads) whole.fits.most (nodes_short found heads);
    } in
    subst (λ (x : Nodes × List Snapshot). IsOld x.0 x.1 h.number) (λ i. (sym whole.nodes_are i, sym whole.snapshots_are i)) read

module _ (g : Nodes) (snapshots : List Snapshot) (next : ℕ) (old : IsOld g snapshots next) where
  -- numbers of nodes and links are low
  pub greatest_low : greatest g ≤ max_nodes * (next - 1)
  greatest_low = by_last (slice_get g (length g - 1)) refl
    where
      by_last : (o : Option (ℕ × NodeRow)) → slice_get g (length g - 1) ≡ o → key_of o ≤ max_nodes * (next - 1)
      by_last None e = omega arith
      by_last (Some e) is = (old.good (length g - 1) e is).most

  pub few_nodes : length g ≤ max_nodes
  few_nodes = short_list g max_nodes (λ i e is. (old.good i e is).few)

  pub few_snapshots : length snapshots ≤ max_snapshots
  few_snapshots = short_list snapshots max_snapshots (λ i s is. (old.good_snapshots i s is).few)

  pub label_low : (n : ℕ) → is_some (node g n) ≡ true → label_of g n < next
  label_low n t = by_node (node g n) refl t
    where
      by_node : (o : Option NodeRow) → node g n ≡ o → is_some o ≡ true → unwrap_or (option_map (λ row. row.label) o) 0 < next
      by_node None e t = cc
      by_node (Some row) e t = let rules = (kept g (roots_of snapshots) next old.sorted old.good n row e).rules in rules.label_most

-- entries of nodes name one no more often than there are entries
pub named_few : (q : ℕ) (es : Nodes) → AreShort es → named es q ≤ length es * 2 ^ 32
named_few q [] h = omega arith
named_few q (e ∷ es) h =
    let rest = named_few q es (λ i f is. h (suc i) f is) in
    let here = h 0 e refl in
    let times_few : row_names q e.1 ≤ length (entries_of e.1) = count_by-le-length (λ child. child.node == q) (entries_of e.1) in
    omega (arith, rest, here, times_few, sum_by-cons (row_names q) e.1 (values_of es))

pub links_few : (g : Nodes) (snapshots : List Snapshot) (next : ℕ) (old : IsOld g snapshots next) (q : ℕ) → links_of g q ≤ 2 ^ 51
links_few g snapshots next old q =
    let few = named_few q g old.short in
    let long = few_nodes g snapshots next old in
    let roots = count_by-le-length (λ r. r == q) (roots_of snapshots) in
    let rooted = old.store.rooted q in
    let counted = old.store.graph.counted q in
    let size = length_roots snapshots in
    let few_roots = few_snapshots g snapshots next old in
    omega (arith, few, long, roots, rooted, counted, size, few_roots)
  where
    length_roots : (ss : List Snapshot) → length (roots_of ss) ≡ length ss
    length_roots [] = refl
    length_roots (s ∷ ss) = ap suc (length_roots ss)
