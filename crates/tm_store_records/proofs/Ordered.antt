-- What is read of an image is in order.
use Rattle.std.proofs.Common.{zero, suc, ◌≡◌, ℕ, ◌+◌, ◌-◌, ◌^◌, ◌<◌, ◌≤◌, Bool, true, false, cond, Option, Some, None, List, [], ◌∷◌, slice_get, refl, sym, ap, ◌∙◌, arith, subst}
use Rattle.std.specs.Prelude.{nat_le, nat_lt}
use Rattle.std.specs.Ordering.{nat_cmp}
use Rattle.std.specs.List.{All, cons_option}
use Rattle.std.specs.List.Sorted.{IsStrictlySortedBy}
use Rattle.std.specs.Map.{keys_of}
use Rattle.std.specs.Option.{option_map}
use Rattle.std.proofs.lemmas.Bool.Decides.{nat_tests}
use Rattle.tm_base.proofs.Facts.{both_true}
use Rattle.tm_records.specs.Records.{Records}
use Rattle.tm_nodes.specs.declared.snapshot.SnapshotRow.{SnapshotRow}
use Rattle.tm_nodes.specs.Records.{snapshot_of}
use Rattle.tm_store_records.specs.declared.snapshot.Snapshot.{Snapshot}
use Rattle.tm_store_records.specs.Heads.{RecordHead, RecordHeads, heads_of}
use Rattle.tm_store_records.specs.Found.{is_snapshot_key, numbered_snapshot, snapshot_in, node_in, snapshots_in, nodes_in}
use Rattle.tm_store_records.specs.Drafts.{IsOrdered}
use Rattle.tm_store_records.proofs.NextKeyLemmas.{Sorted, tail_sorted}
use Rattle.tm_store_records.proofs.Placed.{rises}
use Rattle.tm_store_records.proofs.Reading.{heads_sorted, keys_are}
use Rattle.tm_store_records.proofs.Noding.{given, NodesAreFound, read_from, nodes_sorted, nodes_rise, nodes_short}

-- ---- the record of a snapshot

pub record IsSnapshotOf (s : Snapshot) (key : ℕ) : Type 0 where
  pub key_is : key ≡ 2 ^ 40 + s.number
  pub low : key < 2 ^ 62

at_least : (a b : ℕ) → nat_le a b ≡ true → a ≤ b
at_least a b t = grind (arith, nat_tests)

below : (a b : ℕ) → nat_lt a b ≡ true → a < b
below a b t = grind (arith, nat_tests)

pub snapshot_from : (head : ℕ × RecordHead) (s : Snapshot) → snapshot_in head ≡ Some s → IsSnapshotOf s head.0
snapshot_from head s is = by_key (is_snapshot_key head.0) refl is
  where
    number_of : (o : Option SnapshotRow) → option_map (numbered_snapshot (head.0 - 2 ^ 40)) o ≡ Some s → head.0 - 2 ^ 40 ≡ s.number
    number_of None h = absurd (cc h)
    number_of (Some row) h = let same : numbered_snapshot (head.0 - 2 ^ 40) row ≡ s = cc in ap (λ (x : Snapshot). x.number) same

    by_key : (b : Bool) → is_snapshot_key head.0 ≡ b → cond b (option_map (numbered_snapshot (head.0 - 2 ^ 40)) (snapshot_of head.1.meta)) None ≡ Some s → IsSnapshotOf s head.0
    by_key true t h =
        let bounds = both_true (nat_le (2 ^ 40) head.0) (nat_lt head.0 (2 ^ 62)) t in
        let least : 2 ^ 40 ≤ head.0 = at_least (2 ^ 40) head.0 bounds.0 in
        let most : head.0 < 2 ^ 62 = below head.0 (2 ^ 62) bounds.1 in
        record { key_is = (let number = number_of (snapshot_of head.1.meta) h in omega (arith, number, least)); low = most }
    by_key false t h = absurd (cc h)

-- ---- numbers rise

pub snapshots_rise : (heads : RecordHeads) (i j : ℕ) (s t : Snapshot) → Sorted heads → i < j → slice_get (snapshots_in heads) i ≡ Some s → slice_get (snapshots_in heads) j ≡ Some t → s.number < t.number
snapshots_rise [] i j s t sorted lt a b = absurd (cc a)
snapshots_rise (head ∷ heads) i j s t sorted lt a b = by_value (snapshot_in head) refl i j lt a b (λ k l low c d. snapshots_rise heads k l s t (tail_sorted head heads sorted) low c d)
  where
    -- the first is below all others
    first : (l : ℕ) → snapshot_in head ≡ Some s → slice_get (snapshots_in heads) l ≡ Some t → s.number < t.number
    first l e d =
        let from = given snapshot_in heads l t d in
        let less = rises (head ∷ heads) 0 (suc from.place) head from.from sorted refl from.stands (omega arith) in
        let here = (snapshot_from head s e).key_is in
        let there = (snapshot_from from.from t from.is).key_is in
        omega (arith, less, here, there)

    by_value : (o : Option Snapshot) → snapshot_in head ≡ o → (k l : ℕ) → k < l → slice_get (cons_option o (snapshots_in heads)) k ≡ Some s → slice_get (cons_option o (snapshots_in heads)) l ≡ Some t
        → ((m n : ℕ) → m < n → slice_get (snapshots_in heads) m ≡ Some s → slice_get (snapshots_in heads) n ≡ Some t → s.number < t.number) → s.number < t.number
    by_value None e k l low c d rest = rest k l low c d
    by_value (Some x) e zero zero low c d rest = absurd (omega (arith, low))
    by_value (Some x) e zero (suc l) low c d rest = let same : x ≡ s = cc in first l (e ∙ ap (λ (v : Snapshot). Some v) same) d
    by_value (Some x) e (suc k) zero low c d rest = absurd (omega (arith, low))
    by_value (Some x) e (suc k) (suc l) low c d rest = rest k l (omega (arith, low)) c d

-- ---- keys are of 64 bits

key_low : {X : Type 0} (es : List (ℕ × X)) (i : ℕ) (e : ℕ × X) → All (λ k. k < 2 ^ 64) (keys_of es) → slice_get es i ≡ Some e → e.0 < 2 ^ 64
key_low [] i e small is = absurd (cc is)
key_low {X} (f ∷ es) zero e small is = let same : f ≡ e = cc in subst (λ (x : ℕ × X). x.0 < 2 ^ 64) same (small 0 0 (omega arith))
key_low (f ∷ es) (suc i) e small is = key_low es i e (λ k d lt. small (suc k) d (omega arith)) is

pub ordered : NodesAreFound → (records : Records) → IsStrictlySortedBy nat_cmp (keys_of records) → All (λ k. k < 2 ^ 64) (keys_of records)
    → IsOrdered (snapshots_in (heads_of records)) (nodes_in (heads_of records))
ordered found records sorted small =
    let heads = heads_of records in
    let heads_sorted : Sorted heads = heads_sorted records sorted in
    let heads_small : All (λ k. k < 2 ^ 64) (keys_of heads) = subst (λ (ks : List ℕ). All (λ k. k < 2 ^ 64) ks) (sym (keys_are records)) small in
    record {
      snapshots_rise = λ i j s t lt a b. snapshots_rise heads i j s t heads_sorted lt a b;
      nodes_rise = nodes_sorted heads heads_sorted;
      names_rise = nodes_rise found heads;
      snapshots_low = λ i s is. (let from = given snapshot_in heads i s is in let read = snapshot_from from.from s from.is in let key = read.key_is in let low = read.low in omega (arith, key, low));
      nodes_low = λ i e is. (let from = given node_in heads i e is in let read = read_from from.from e from.is in let key = read.key in let low = key_low heads from.place from.from heads_small from.stands in omega (arith, key, low));
      entries_few = nodes_short found heads;
    }
