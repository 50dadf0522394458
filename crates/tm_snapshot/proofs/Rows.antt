-- The rows of the grown graph, and the records that old ones have.
use Rattle.std.proofs.Common.{◌≡◌, ⊎_elim, ℕ, ◌+◌, ◌^◌, ◌<◌, ◌≤◌, ◌==◌, ◌&&◌, Bool, true, false, cond, Option, Some, None, is_some, length, refl, sym, ap, ◌∙◌, arith, subst}
use Rattle.std.specs.Prelude.{nat_le}
use Rattle.std.specs.Option.{option_map, unwrap_or}
use Rattle.std.proofs.lemmas.Bool.{cases_lt}
use Rattle.std.proofs.lemmas.Bool.Decides.{nat_tests}
use Rattle.tm_base.proofs.Facts.{some_is}
use Rattle.tm_tree.specs.declared.node.NodeRow.{NodeRow}
use Rattle.tm_records.specs.declared.record.Record.{Record}
use Rattle.tm_records.specs.Records.{Records, at}
use Rattle.tm_graph.specs.Nodes.{Nodes, node, entries_of, times}
use Rattle.tm_graph.specs.Growing.{relinked}
use Rattle.tm_graph.proofs.Growing.{none_or_there}
use Rattle.tm_graph.proofs.WaysFound.{named_there}
use Rattle.tm_nodes.specs.Nodes.{IsNode}
use Rattle.tm_nodes.specs.Records.{node_of, snapshot_of}
use Rattle.tm_store_records.specs.Heads.{RecordHead}
use Rattle.tm_store_records.specs.Built.{all_nodes}
use Rattle.tm_store_records.specs.Found.{node_key, is_node_key, is_snapshot_key}
use Rattle.tm_store_records.specs.Rules.{is_record, reads_node, most_of}
use Rattle.tm_snapshot.proofs.Finishing.{Finishing, joining, parts}
use Rattle.tm_snapshot.proofs.Olds.{IsOld, old_is}
use Rattle.tm_snapshot.proofs.Joined.{new_number, old_low}
use Rattle.tm_snapshot.proofs.Adding.{is_graph, node_after, was, comes}
use Rattle.tm_snapshot.proofs.Readings.{is_node, snapshot_test, head_of, head_is, row_in, node_read}

-- ---- what is asked of a key

first_false : {X : Type 0} (b : Bool) (x y : X) → b ≡ false → cond b x y ≡ y
first_false b x y e = ap (λ t. cond t x y) e

first_true : {X : Type 0} (b : Bool) (x y : X) → b ≡ true → cond b x y ≡ x
first_true b x y e = ap (λ t. cond t x y) e

pub record_of_node : (n : ℕ) (head : RecordHead) → is_record (node_key n) head ≡ reads_node head
record_of_node n head =
    first_false (node_key n == 1) _ _ (not_one n) ∙ first_false (is_snapshot_key (node_key n)) _ _ (not_snapshot n) ∙ first_true (is_node_key (node_key n)) _ _ (is_node n)
  where
    not_one : (n : ℕ) → (node_key n == 1) ≡ false
    not_one n = grind (arith, nat_tests)

    not_snapshot : (n : ℕ) → is_snapshot_key (node_key n) ≡ false
    not_snapshot n = grind (arith, nat_tests)

pub record_of_snapshot : (k : ℕ) (head : RecordHead) → is_snapshot_key k ≡ true → is_record k head ≡ (is_some (snapshot_of head.meta) && (head.size == 0))
record_of_snapshot k head t = first_false (k == 1) _ _ (not_one (snapshot_test k t)) ∙ first_true (is_snapshot_key k) _ _ t
  where
    not_one : 2 ^ 40 ≤ k → (k == 1) ≡ false
    not_one le = grind (arith, nat_tests)

-- a record that is kept at a node's key, of this row
pub record NodeRecord (R : Records) (n : ℕ) (row : NodeRow) : Type 0 where
  pub record_at : Record
  pub stands : at (node_key n) R ≡ Some record_at
  pub is : IsNode record_at.meta record_at.length row
  pub few : nat_le record_at.length (most_of row.body) ≡ true

module _ (f : Finishing) where
  open f use {h, built, may, found}
  open parts f use {g, new, root, last, after, R}

  pub old : IsOld h.nodes h.snapshots h.number
  old = old_is h may.whole found

  -- ---- rows

  pub record OldRow (n : ℕ) (row : NodeRow) : Type 0 where
    pub first : NodeRow
    pub was_there : node g n ≡ Some first
    pub row_is : row ≡ relinked g new root n first

  pub record NewRow (n : ℕ) (row : NodeRow) : Type 0 where
    pub first : NodeRow
    pub is_there : node new n ≡ Some first
    pub row_is : row ≡ relinked g new root n first

  record AnyRow (n : ℕ) (row : NodeRow) : Type 0 where
    pub first : NodeRow
    pub among : node (all_nodes h built) n ≡ Some first
    pub row_is : row ≡ relinked g new root n first

  any_row : (n : ℕ) (row : NodeRow) → node after n ≡ Some row → AnyRow n row
  any_row n row e = by_node (node (all_nodes h built) n) refl (sym (node_after (joining f) n) ∙ e)
    where
      by_node : (o : Option NodeRow) → node (all_nodes h built) n ≡ o → option_map (relinked g new root n) o ≡ Some row → AnyRow n row
      by_node None is h = absurd (cc h)
      by_node (Some first) is h = record { first = first; among = is; row_is = sym (some_is (relinked g new root n first) row h) }

  none_low : (n : ℕ) → n ≤ last → is_some (node new n) ≡ true → ⊥
  none_low n le t = let above = (new_number (joining f) n t).0 in omega (arith, above, le)

  pub old_row : (n : ℕ) (row : NodeRow) → n ≤ last → node after n ≡ Some row → OldRow n row
  old_row n row le e =
      let any = any_row n row e in
      ⊎_elim
      (λ none. absurd (none_low n le (ap (λ (o : Option NodeRow). is_some o) (sym (comes (joining f) n none) ∙ any.among))))
      (λ there. record { first = any.first; was_there = sym (was (joining f) n there) ∙ any.among; row_is = any.row_is })
      (none_or_there (node g n))

  pub new_row : (n : ℕ) (row : NodeRow) → last < n → node after n ≡ Some row → NewRow n row
  new_row n row lt e =
      let any = any_row n row e in
      ⊎_elim
      (λ none. record { first = any.first; is_there = sym (comes (joining f) n none) ∙ any.among; row_is = any.row_is })
      (λ there. absurd (let low = old_low (joining f) n there in omega (arith, low, lt)))
      (none_or_there (node g n))

  pub numbered_after : (n : ℕ) → is_some (node after n) ≡ true → n ≤ last + length new
  numbered_after n t = ⊎_elim
      (λ (lt : last < n). by_node (node after n) refl t lt)
      (λ (le : n ≤ last). omega (arith, le))
      (cases_lt last n)
    where
      by_node : (o : Option NodeRow) → node after n ≡ o → is_some o ≡ true → last < n → n ≤ last + length new
      by_node None e t lt = cc
      by_node (Some row) e t lt =
          let is = new_row n row lt e in
          let high = (new_number (joining f) n (ap (λ (o : Option NodeRow). is_some o) is.is_there)).1 in omega (arith, high)

  pub named_after : (n q : ℕ) (row : NodeRow) → node after n ≡ Some row → 0 < times q (entries_of row) → is_some (node after q) ≡ true
  named_after n q row e l = named_there after n q (is_graph (joining f)) (subst (λ o. 0 < unwrap_or (option_map (λ (r : NodeRow). times q (entries_of r)) o) 0) (sym e) l)

  -- ---- old records

  reads : (n : ℕ) (r : Record) → at (node_key n) R ≡ Some r → reads_node (head_of r) ≡ true
  reads n r is = sym (record_of_node n (head_of r)) ∙ (may.whole.good (node_key n)).reads (head_of r) (head_is R (node_key n) ∙ ap (option_map head_of) is)

  -- a node's key has a record only where the node is there
  pub record_there : (n : ℕ) (r : Record) → at (node_key n) R ≡ Some r → is_some (node g n) ≡ true
  record_there n r is =
      ap (λ (x : Nodes). is_some (node x n)) may.whole.nodes_are ∙ ap (λ (o : Option NodeRow). is_some o) (node_read R n may.whole.sound.rising ∙ ap row_in is)
      ∙ by_row (node_of r.meta r.length) (reads n r is)
    where
      by_row : (o : Option NodeRow) → unwrap_or (option_map (λ row. nat_le r.length (most_of row.body)) o) false ≡ true → is_some o ≡ true
      by_row None h = h
      by_row (Some row) h = refl

  pub old_record : (n : ℕ) (row : NodeRow) → node g n ≡ Some row → NodeRecord R n row
  old_record n row e = by_record (at (node_key n) R) refl (sym (node_read R n may.whole.sound.rising) ∙ ap (λ (x : Nodes). node x n) (sym may.whole.nodes_are) ∙ e)
    where
      by_record : (o : Option Record) → at (node_key n) R ≡ o → row_in o ≡ Some row → NodeRecord R n row
      by_record None is h = absurd (cc h)
      by_record (Some r) is h = record {
        record_at = r;
        stands = is;
        is = (found r.length r.meta row).0 h;
        few = sym (ap (λ (o : Option NodeRow). unwrap_or (option_map (λ row. nat_le r.length (most_of row.body)) o) false) h) ∙ reads n r is;
      }
