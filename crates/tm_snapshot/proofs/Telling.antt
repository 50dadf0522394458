-- The room that the commit of a finished backup needs is told by what was built.
use Rattle.std.proofs.Common.{suc, ◌≡◌, ◌≢◌, ⊎_elim, ℕ, ◌+◌, ◌-◌, ◌^◌, ◌<◌, ◌≤◌, Option, Some, None, List, [], ◌∷◌, ◌++◌, length, map, refl, sym, ap, ◌∙◌, arith, subst}
use Rattle.std.specs.Prelude.{slice_get}
use Rattle.std.specs.List.{All, AllByRecursion, sum_by}
use Rattle.std.specs.Map.{values_of}
use Rattle.std.proofs.lemmas.Bool.{cases_lt, cases_eq}
use Rattle.std.proofs.lemmas.List.Sums.{sum_by-cons}
use Rattle.tm_base.proofs.Facts.{some_is}
use Rattle.tm_world.specs.declared.bytes.Blob.{Blob}
use Rattle.tm_chain.specs.Blob.{blob_len}
use Rattle.tm_tree.specs.declared.node.NodeRow.{NodeRow}
use Rattle.tm_records.specs.declared.record.Body.{Body}
use Rattle.tm_records.specs.declared.record.Body.TheVariants.{Kept}
use Rattle.tm_records.specs.declared.record.Record.{Record}
use Rattle.tm_records.specs.Records.{Records, at}
use Rattle.tm_records.specs.Puts.{put_record}
use Rattle.tm_table.specs.Text.{table_text}
use Rattle.tm_graph.specs.Nodes.{Nodes, node, links_of, with_links}
use Rattle.tm_graph.specs.Growing.{gain}
use Rattle.tm_graph.proofs.Taken.{at as entry}
use Rattle.tm_identity.specs.Stored.{node_length}
use Rattle.tm_image.specs.Layout.{blocks_for}
use Rattle.tm_image.specs.Seen.{IsKept}
use Rattle.tm_image.specs.Room.{need_of, table_len}
use Rattle.tm_image.specs.Commit.{released_by}
use Rattle.tm_nodes.specs.Headers.{machine_text, snapshot_text}
use Rattle.tm_nodes.specs.Nodes.{node_text}
use Rattle.tm_store_records.specs.Built.{all_nodes}
use Rattle.tm_store_records.specs.Found.{snapshot_key, node_key}
use Rattle.tm_store_records.specs.Laws.{TableIsTold, TextIsTold}
use Rattle.tm_store_records.specs.Room.{row_of_snapshot, record_len, snapshot_len, node_len, store_len, store_blocks}
use Rattle.tm_store_records.proofs.Placed.{at_place, place_of}
use Rattle.tm_snapshot.specs.Completing.{need_after}
use Rattle.tm_snapshot.specs.Growth.{AreGrown, puts_of}
use Rattle.tm_snapshot.proofs.Finishing.{Finishing, parts}
use Rattle.tm_snapshot.proofs.Each.{all_of_each}
use Rattle.tm_snapshot.proofs.Joined.{all_at}
use Rattle.tm_snapshot.proofs.Metas.{snapshot_meta_short, same_len}
use Rattle.tm_snapshot.proofs.Fitting.{meta_short, releases, value_at_key}
use Rattle.tm_snapshot.proofs.PutKeyLemmas.{new_body}
use Rattle.tm_snapshot.proofs.Regrown.{sorted_after}
use Rattle.tm_snapshot.proofs.Rereading.{own_record, meta_is, body_old, body_new, node_stands, none_stands}
use Rattle.tm_snapshot.proofs.Snapping.{snapshot_stands, other_stands, row_rules}

-- what holds at each place holds of each value
each_value : (P : Record → Type 0) (S : Records) → ((i : ℕ) (e : ℕ × Record) → slice_get S i ≡ Some e → P e.1) → AllByRecursion P (values_of S)
each_value P [] f = tt
each_value P (e ∷ S) f = (f 0 e refl, each_value P S (λ i x is. f (suc i) x is))

-- ---- links are no part of a table's length

same_node_len : (row : NodeRow) (links : ℕ) → node_len (with_links row links) ≡ node_len row
same_node_len row links = ap (λ n. record_len n (node_length row)) (same_len row links)

pub same_lens : (links : ℕ → ℕ) (nodes : Nodes) → sum_by node_len (values_of {K = ℕ} (map (λ e. (e.0, with_links e.1 (links e.0))) nodes)) ≡ sum_by node_len (values_of nodes)
same_lens links [] = refl
same_lens links (e ∷ nodes) =
    sum_by-cons node_len (with_links e.1 (links e.0)) (values_of (map (λ e. (e.0, with_links e.1 (links e.0))) nodes))
    ∙ (λ i. same_node_len e.1 (links e.0) i + same_lens links nodes i)
    ∙ sym (sum_by-cons node_len e.1 (values_of nodes))

no_blocks : 0 ≡ blob_len 0
no_blocks = refl

module _ (f : Finishing) where
  open f use {h, built, date, volume, id, mark, may}
  open parts f use {last, after, R, S, s}

  -- ---- each record can be spelled

  IsFull : Record → Type 0
  IsFull r = length r.blocks ≡ blob_len r.length

  blob_full : (i : ℕ) (b : ℕ × Blob) → slice_get built.blobs i ≡ Some b → length b.1.blocks ≡ blob_len b.1.length
  blob_full i b is = all_at (λ (x : ℕ × Blob). length x.1.blocks ≡ blob_len x.1.length) built.blobs i b may.is_built.filled is

  kept_full : (n : ℕ) (text : List ℕ) (o : Option Record) → at (node_key n) R ≡ o → length (put_record Kept text o).blocks ≡ blob_len (put_record Kept text o).length
  kept_full n text None e = no_blocks
  kept_full n text (Some r) e = (value_at_key IsKept R (node_key n) r may.whole.sound.each e).many

  new_full : (n : ℕ) (text : List ℕ) (o : Option Blob) (old : Option Record) → entry built.blobs n ≡ o → length (put_record (new_body o) text old).blocks ≡ blob_len (put_record (new_body o) text old).length
  new_full n text None old e = no_blocks
  new_full n text (Some b) old e = let place = place_of built.blobs n b e in blob_full place.0 (n, b) place.1

  node_full : (n : ℕ) (row : NodeRow) → length (own_record f n row).blocks ≡ blob_len (own_record f n row).length
  node_full n row = ⊎_elim
      (λ (lt : last < n). subst (λ (b : Body). length (put_record b (node_text row) (at (node_key n) R)).blocks ≡ blob_len (put_record b (node_text row) (at (node_key n) R)).length)
      (sym (body_new f n lt)) (new_full n (node_text row) (entry built.blobs n) (at (node_key n) R) refl))
      (λ (le : n ≤ last). subst (λ (b : Body). length (put_record b (node_text row) (at (node_key n) R)).blocks ≡ blob_len (put_record b (node_text row) (at (node_key n) R)).length)
      (sym (body_old f n le)) (kept_full n (node_text row) (at (node_key n) R) refl))
      (cases_lt last n)

  kept_node : (n : ℕ) (r : Record) → at (node_key n) S ≡ Some r → IsKept r
  kept_node n r is = by_node (node after n) refl
    where
      by_node : (o : Option NodeRow) → node after n ≡ o → IsKept r
      by_node None e = absurd (let bad : None ≡ Some r = sym (none_stands f n e) ∙ is in cc)
      by_node (Some row) e =
          let its : IsKept (own_record f n row) = record {
            meta = subst (λ (text : List ℕ). length text < 2 ^ 32) (sym (meta_is f n row)) (meta_short f n row e);
            many = node_full n row;
          } in
          subst (λ (x : Record). IsKept x) (some_is (own_record f n row) r (sym (node_stands f n row e) ∙ is)) its

  kept_at : (k : ℕ) (r : Record) → at k S ≡ Some r → IsKept r
  kept_at k r is = ⊎_elim
      (λ (here : k ≡ snapshot_key h.number).
      let its : IsKept (record { meta = snapshot_text (row_of_snapshot s); length = 0; blocks = [] }) = record { meta = snapshot_meta_short (row_of_snapshot s) (row_rules f); many = no_blocks } in
      subst (λ (x : Record). IsKept x) (some_is _ r (sym (snapshot_stands f) ∙ subst (λ q. at q S ≡ Some r) here is)) its)
      (λ (other : k ≢ snapshot_key h.number). ⊎_elim
      (λ (low : k < 2 ^ 62). value_at_key IsKept R k r may.whole.sound.each (sym (other_stands f k other low) ∙ is))
      (λ (high : 2 ^ 62 ≤ k). let number : node_key (k - 2 ^ 62) ≡ k = omega (arith, high) in kept_node (k - 2 ^ 62) r (subst (λ q. at q S ≡ Some r) (sym number) is))
      (cases_lt k (2 ^ 62)))
      (cases_eq k (snapshot_key h.number))

  all_kept : All IsKept (values_of S)
  all_kept = all_of_each IsKept (values_of S) (each_value IsKept S (λ i e is. kept_at e.0 e.1 (at_place S i e (sorted_after f) is)))

  -- ---- the table

  module _ (text_is_told : TextIsTold) (is : AreGrown h built date volume id mark S) where
    text_len : length (table_text S) ≡ store_len h.machine (h.snapshots ++ s ∷ []) (all_nodes h built)
    text_len =
        text_is_told S (h.number + 1) h.machine (sorted_after f) all_kept is.good is.machine_is
        ∙ (λ i. store_len h.machine (is.snapshots_are i) (is.nodes_are i))
        ∙ ap (λ n. record_len (length (machine_text h.machine)) 0 + sum_by snapshot_len (h.snapshots ++ s ∷ []) + n) (same_lens (λ q. links_of h.nodes q + gain built.nodes built.root q) (all_nodes h built))

    pub table_told : table_len S ≡ store_blocks h.machine (h.snapshots ++ s ∷ []) (all_nodes h built)
    table_told = ap blocks_for text_len

    pub need_told : TableIsTold → need_of (table_len R) (table_len S) (released_by [] (puts_of h built date volume id mark) R) ≡ need_after h built date volume id mark
    need_told table_is_told = λ i. need_of (table_is_told h may.whole i) (table_told i) (releases f i)
