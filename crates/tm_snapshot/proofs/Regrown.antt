-- The records after a finished backup stand for the grown graph and the snapshot.
use Rattle.std.proofs.Common.{◌≡◌, ◌≢◌, ◌⊎◌, inl, inr, ⊎_elim, ℕ, ◌+◌, ◌<◌, ◌≤◌, ◌==◌, true, false, cond, Option, Some, None, is_some, List, length, refl, sym, ap, ◌∙◌, arith, subst}
use Rattle.std.specs.Prelude.{slice_get}
use Rattle.std.specs.List.{AllByRecursion}
use Rattle.std.specs.Option.{option_map, unwrap_or}
use Rattle.std.proofs.lemmas.Option.{slice_get_within}
use Rattle.std.proofs.lemmas.Bool.{cases_lt, cases_eq}
use Rattle.std.proofs.lemmas.Bool.Decides.{nat_tests}
use Rattle.tm_world.specs.declared.bytes.Blob.{Blob}
use Rattle.tm_tree.specs.declared.node.NodeRow.{NodeRow}
use Rattle.tm_records.specs.declared.record.Body.{Body}
use Rattle.tm_records.specs.declared.record.Body.TheVariants.{Kept}
use Rattle.tm_records.specs.declared.record.Record.{Record}
use Rattle.tm_records.specs.Records.{at}
use Rattle.tm_records.specs.Puts.{put_record}
use Rattle.tm_graph.specs.Nodes.{node, entries_of, times, named, links_of, with_links}
use Rattle.tm_graph.specs.Growing.{relinked, gain}
use Rattle.tm_graph.proofs.Taken.{Sorted, at as entry}
use Rattle.tm_graph.proofs.Growing.{none_or_there}
use Rattle.tm_nodes.specs.Laws.{IsReadAgain}
use Rattle.tm_nodes.specs.Headers.{snapshot_text, IsSnapshotRow}
use Rattle.tm_nodes.specs.Nodes.{node_text, IsNodeOfSize}
use Rattle.tm_nodes.specs.Records.{node_of, snapshot_of}
use Rattle.tm_store_records.specs.Built.{snapshot_built}
use Rattle.tm_store_records.specs.Found.{node_key}
use Rattle.tm_store_records.proofs.NextKeyLemmas.{le_true}
use Rattle.tm_store_records.proofs.Placed.{at_place}
use Rattle.tm_store_records.proofs.Linking.{named_by}
use Rattle.tm_snapshot.specs.Puts.{body_is_file}
use Rattle.tm_snapshot.specs.Growth.{puts_of}
use Rattle.tm_snapshot.proofs.Finishing.{Finishing, joining, parts}
use Rattle.tm_snapshot.proofs.Putting.{sorted_puts}
use Rattle.tm_snapshot.proofs.Joined.{new_sorted, new_number, old_low}
use Rattle.tm_snapshot.proofs.Adding.{node_after, was, comes, there_after, root_is_there}
use Rattle.tm_snapshot.proofs.PutKeyLemmas.{new_body, wanted, node_wanted, node_record, at_after}
use Rattle.tm_snapshot.proofs.Blobs.{no_blob, placed_blob, blobs_new}
use Rattle.tm_snapshot.proofs.Each.{more_of}
use Rattle.tm_snapshot.proofs.Rows.{old_row, new_row, numbered_after, named_after, old_record, record_there}

abbrev pub NodesReadAgain : Type 0
NodesReadAgain = (size : ℕ) → IsReadAgain (λ meta. node_of meta size) node_text (IsNodeOfSize size)

abbrev pub SnapshotsReadAgain : Type 0
SnapshotsReadAgain = IsReadAgain snapshot_of snapshot_text IsSnapshotRow

kept_record : (o : Option Record) (r : Record) (text : List ℕ) → o ≡ Some r → r.meta ≡ text → Some (put_record Kept text o) ≡ Some r
kept_record o r text is spelled = ap (λ (x : Option Record). Some (put_record Kept text x)) is ∙ ap (λ (t : List ℕ). Some (record { meta = t; length = r.length; blocks = r.blocks })) (sym spelled)

module _ (f : Finishing) where
  open f use {h, built, date, volume, id, mark, may}
  open parts f use {g, new, root, last, after, R, S}

  abbrev want : ℕ → Option Record
  want k = wanted after last built.blobs (snapshot_built h built date volume id mark) R k

  -- ---- what the puts are asked

  absent : (n : ℕ) → node after n ≡ None → at (node_key n) R ≡ None
  absent n none = by_record (at (node_key n) R) refl
    where
      by_record : (o : Option Record) → at (node_key n) R ≡ o → at (node_key n) R ≡ None
      by_record None e = e
      by_record (Some r) e =
          let there = record_there f n r e in
          let among = ap (λ (o : Option NodeRow). is_some o) (was (joining f) n there) ∙ there in
          let here = there_after (joining f) n among in
          absurd (let bad : false ≡ true = sym (ap (λ (o : Option NodeRow). is_some o) none) ∙ here in cc)

  bare : (n : ℕ) (row : NodeRow) → last < n → node after n ≡ Some row → body_is_file row.body ≡ false → entry built.blobs n ≡ None
  bare n row lt e t =
      let is = new_row f n row lt e in
      no_blob new built.blobs (new_sorted h built may.is_built) may.is_built.files n is.first is.is_there (sym (ap (λ (r : NodeRow). body_is_file r.body) is.row_is) ∙ t)

  files : (n : ℕ) (row : NodeRow) → last < n → node after n ≡ Some row → body_is_file row.body ≡ true → (i : ℕ) × (b : ℕ × Blob) × (slice_get built.blobs i ≡ Some b) × (b.0 ≡ n)
  files n row lt e t =
      let is = new_row f n row lt e in
      placed_blob new built.blobs (new_sorted h built may.is_built) may.is_built.files n is.first is.is_there (sym (ap (λ (r : NodeRow). body_is_file r.body) is.row_is) ∙ t)

  pub new_there : (n : ℕ) → is_some (node new n) ≡ true → (is_some (node after n) ≡ true) × (last < n)
  new_there n t =
      let above = (new_number (joining f) n t).0 in
      let none : node g n ≡ None = ⊎_elim (λ gone. gone) (λ there. absurd (let low = old_low (joining f) n there in omega (arith, low, above))) (none_or_there (node g n)) in
      let among = ap (λ (o : Option NodeRow). is_some o) (comes (joining f) n none) ∙ t in
      (there_after (joining f) n among, omega (arith, above))

  blobs_are : AllByRecursion (λ b. (is_some (node after b.0) ≡ true) × (last < b.0) × (entry built.blobs b.0 ≡ Some b.1)) built.blobs
  blobs_are = more_of built.blobs (λ b is. (let here = new_there b.0 is.0 in (here.0, here.1, is.1))) (blobs_new new built.blobs (new_sorted h built may.is_built) may.is_built.files)

  -- an old node that gains nothing has the record that it had
  same_record : (n : ℕ) (row : NodeRow) → n ≤ last → node after n ≡ Some row → gain new root n ≡ 0 → at (node_key n) R ≡ node_wanted after last built.blobs (snapshot_built h built date volume id mark) R n
  same_record n row le e none =
      let was_row = old_row f n row le e in
      let first = was_row.first in
      let kept = old_record f n first was_row.was_there in
      let links : links_of g n ≡ first.links = ap (λ (o : Option NodeRow). unwrap_or (option_map (λ (r : NodeRow). r.links) o) 0) was_row.was_there in
      let number : links_of g n + gain new root n ≡ first.links = omega (arith, links, none) in
      let same : row ≡ first = was_row.row_is ∙ ap (with_links first) number in
      let text : node_text row ≡ node_text first = ap node_text same in
      kept.stands ∙ sym (kept_record (at (node_key n) R) kept.record_at (node_text row) kept.stands (kept.is.spelled ∙ sym text))
      ∙ ap (λ (b : Body). Some (put_record b (node_text row) (at (node_key n) R))) (sym (ap (λ b. cond b Kept (new_body (entry built.blobs n))) (le_true n last le)))
      ∙ ap (option_map (node_record after last built.blobs (snapshot_built h built date volume id mark) R n)) (sym e)

  stays : (n : ℕ) → n ≤ last → is_some (node after n) ≡ true
      → (n ≡ root) ⊎ ((m : ℕ) × (row : NodeRow) × (m < length new) × (node after (last + 1 + m) ≡ Some row) × (0 < times n (entries_of row))) ⊎ (at (node_key n) R ≡ node_wanted after last built.blobs (snapshot_built h built date volume id mark) R n)
  stays n le t = ⊎_elim
      (λ (here : n ≡ root). inl here)
      (λ (other : n ≢ root). inr (⊎_elim (λ (l : 0 < named new n). inl (by_name l)) (λ (none : named new n ≤ 0). inr (by_node (node after n) refl t (no_gain other none))) (cases_lt 0 (named new n))))
      (cases_eq n root)
    where
      no_gain : n ≢ root → named new n ≤ 0 → gain new root n ≡ 0
      no_gain other none = let test : (n == root) ≡ false = grind (arith, nat_tests) in let zero_more : ◌≡◌ {A = ℕ} (cond (n == root) 1 0) 0 = ap (λ b. cond b 1 0) test in omega (arith, none, zero_more)

      by_node : (o : Option NodeRow) → node after n ≡ o → is_some o ≡ true → gain new root n ≡ 0 → at (node_key n) R ≡ node_wanted after last built.blobs (snapshot_built h built date volume id mark) R n
      by_node None e t none = cc
      by_node (Some row) e t none = same_record n row le e none

      by_name : 0 < named new n → (m : ℕ) × (row : NodeRow) × (m < length new) × (node after (last + 1 + m) ≡ Some row) × (0 < times n (entries_of row))
      by_name l =
          let by = named_by n new l in
          let number = may.is_built.numbered by.place by.entry by.is in
          let here : node new by.entry.0 ≡ Some by.entry.1 = at_place new by.place by.entry (new_sorted h built may.is_built) by.is in
          let above = (new_there by.entry.0 (ap (λ (o : Option NodeRow). is_some o) here)).1 in
          let among = none_row by.entry.0 by.entry.1 above here in
          (by.place, relinked g new root by.entry.0 by.entry.1, slice_get_within new by.place by.entry by.is, subst (λ k. node after k ≡ Some (relinked g new root by.entry.0 by.entry.1)) number among, by.names_it)
        where
          none_row : (k : ℕ) (row : NodeRow) → last < k → node new k ≡ Some row → node after k ≡ Some (relinked g new root k row)
          none_row k row above here = ⊎_elim
              (λ gone. node_after (joining f) k ∙ ap (option_map (relinked g new root k)) (comes (joining f) k gone ∙ here))
              (λ there. absurd (let low = old_low (joining f) k there in omega (arith, low, above)))
              (none_or_there (node g k))

  -- each key has what is wanted
  pub stands_after : (k : ℕ) → at k S ≡ want k
  stands_after = at_after after last built.blobs (snapshot_built h built date volume id mark) R may.whole.fits.most (length new)
      (numbered_after f) (named_after f)
      (root_is_there (joining f))
      bare files blobs_are absent stays

  pub sorted_after : Sorted S
  sorted_after = sorted_puts (puts_of h built date volume id mark) R may.whole.sound.rising
