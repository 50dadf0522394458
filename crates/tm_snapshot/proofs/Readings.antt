-- What records stand for, number by number.
use Rattle.std.proofs.Common.{◌≡◌, ℕ, ◌-◌, ◌^◌, ◌<◌, ◌≤◌, Bool, true, false, cond, Option, Some, None, List, [], ◌∷◌, map, refl, sym, ap, ◌∙◌, arith}
use Rattle.std.specs.List.{cons_option}
use Rattle.std.specs.Option.{option_map, option_and_then}
use Rattle.std.proofs.lemmas.Bool.Decides.{nat_tests}
use Rattle.tm_tree.specs.declared.node.NodeRow.{NodeRow}
use Rattle.tm_records.specs.declared.record.Record.{Record}
use Rattle.tm_records.specs.Records.{Records, at}
use Rattle.tm_graph.specs.Nodes.{node}
use Rattle.tm_graph.proofs.Taken.{Sorted, at as entry}
use Rattle.tm_graph.proofs.Same.{sorted-mapped, at-mapped}
use Rattle.tm_nodes.specs.declared.snapshot.SnapshotRow.{SnapshotRow}
use Rattle.tm_nodes.specs.Records.{machine_of, snapshot_of, node_of}
use Rattle.tm_store_records.specs.declared.snapshot.Snapshot.{Snapshot}
use Rattle.tm_store_records.specs.Heads.{RecordHead, RecordHeads, heads_of, head_at}
use Rattle.tm_store_records.specs.Found.{is_snapshot_key, is_node_key, snapshot_key, node_key, numbered_snapshot, machine_in, snapshots_in, nodes_in}
use Rattle.tm_snapshot.proofs.Numbered.{rows, rows_at, rows_sorted}

abbrev pub head_of : Record → RecordHead
head_of r = record { meta = r.meta; size = r.length }

pub head_is : (R : Records) (k : ℕ) → head_at k (heads_of R) ≡ option_map head_of (at k R)
head_is R k = at-mapped (λ _ r. head_of r) R k

pub heads_rise : (R : Records) → Sorted R → Sorted (heads_of R)
heads_rise R s = sorted-mapped (λ _ r. head_of r) R s

-- ---- keys

pub node_test : (k : ℕ) → is_node_key k ≡ true → 2 ^ 62 ≤ k
node_test k t = grind (arith, nat_tests)

pub snapshot_test : (k : ℕ) → is_snapshot_key k ≡ true → 2 ^ 40 ≤ k
snapshot_test k t = grind (arith, nat_tests)

pub is_node : (n : ℕ) → is_node_key (node_key n) ≡ true
is_node n = grind (arith, nat_tests)

pub is_snapshot : (n : ℕ) → n < 2 ^ 61 → is_snapshot_key (snapshot_key n) ≡ true
is_snapshot n low = let high : snapshot_key n < 2 ^ 62 = omega (arith, low) in grind (arith, nat_tests)

-- ---- nodes

abbrev pub read_row : RecordHead → Option NodeRow
read_row head = node_of head.meta head.size

abbrev pub row_in : Option Record → Option NodeRow
row_in o = option_and_then (λ r. node_of r.meta r.length) o

pub nodes_rise : (R : Records) → Sorted R → Sorted (nodes_in (heads_of R))
nodes_rise R s = rows_sorted (2 ^ 62) is_node_key read_row node_test (heads_of R) (heads_rise R s)

pub node_read : (R : Records) (n : ℕ) → Sorted R → node (nodes_in (heads_of R)) n ≡ row_in (at (node_key n) R)
node_read R n s =
    rows_at (2 ^ 62) is_node_key read_row node_test (heads_of R) n (heads_rise R s)
    ∙ ap (λ b. cond b (option_and_then read_row (head_at (node_key n) (heads_of R))) None) (is_node n)
    ∙ ap (λ (o : Option RecordHead). option_and_then read_row o) (head_is R (node_key n))
    ∙ by_record (at (node_key n) R)
  where
    by_record : (o : Option Record) → option_and_then read_row (option_map head_of o) ≡ row_in o
    by_record None = refl
    by_record (Some r) = refl

-- ---- snapshots

abbrev pub read_snapshot : RecordHead → Option SnapshotRow
read_snapshot head = snapshot_of head.meta

abbrev pub snapshot_rows : RecordHeads → List (ℕ × SnapshotRow)
snapshot_rows heads = rows (2 ^ 40) is_snapshot_key read_snapshot snapshot_test heads

abbrev pub numbers : List (ℕ × SnapshotRow) → List Snapshot
numbers rows = map (λ e. numbered_snapshot e.0 e.1) rows

pub snapshots_are_rows : (heads : RecordHeads) → snapshots_in heads ≡ numbers (snapshot_rows heads)
snapshots_are_rows [] = refl
snapshots_are_rows (e ∷ heads) = by_test (is_snapshot_key e.0) (snapshot_of e.1.meta) (snapshots_are_rows heads)
  where
    by_test : (b : Bool) (o : Option SnapshotRow) → snapshots_in heads ≡ numbers (snapshot_rows heads)
        → cons_option (cond b (option_map (numbered_snapshot (e.0 - 2 ^ 40)) o) None) (snapshots_in heads) ≡ numbers (cons_option (cond b (option_map (λ row. (e.0 - 2 ^ 40, row)) o) None) (snapshot_rows heads))
    by_test true None rest = rest
    by_test true (Some row) rest = ap (λ (ss : List Snapshot). numbered_snapshot (e.0 - 2 ^ 40) row ∷ ss) rest
    by_test false o rest = rest

abbrev pub snapshot_row_in : Option Record → Option SnapshotRow
snapshot_row_in o = option_and_then (λ r. snapshot_of r.meta) o

pub snapshot_rows_rise : (R : Records) → Sorted R → Sorted (snapshot_rows (heads_of R))
snapshot_rows_rise R s = rows_sorted (2 ^ 40) is_snapshot_key read_snapshot snapshot_test (heads_of R) (heads_rise R s)

pub snapshot_read : (R : Records) (n : ℕ) → Sorted R → entry (snapshot_rows (heads_of R)) n ≡ cond (is_snapshot_key (snapshot_key n)) (snapshot_row_in (at (snapshot_key n) R)) None
snapshot_read R n s =
    rows_at (2 ^ 40) is_snapshot_key read_snapshot snapshot_test (heads_of R) n (heads_rise R s)
    ∙ ap (λ (o : Option RecordHead). cond (is_snapshot_key (snapshot_key n)) (option_and_then read_snapshot o) None) (head_is R (snapshot_key n))
    ∙ ap (λ (o : Option SnapshotRow). cond (is_snapshot_key (snapshot_key n)) o None) (by_record (at (snapshot_key n) R))
  where
    by_record : (o : Option Record) → option_and_then read_snapshot (option_map head_of o) ≡ snapshot_row_in o
    by_record None = refl
    by_record (Some r) = refl

-- ---- the machine

pub machine_same : (R S : Records) → at 1 S ≡ at 1 R → machine_in (heads_of S) ≡ machine_in (heads_of R)
machine_same R S same =
    ap (λ (o : Option RecordHead). option_and_then (λ h. machine_of h.meta) o) (head_is S 1 ∙ ap (option_map head_of) same ∙ sym (head_is R 1))
