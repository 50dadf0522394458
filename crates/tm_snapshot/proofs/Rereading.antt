-- What is put is read again.
use Rattle.std.proofs.Common.{◌≡◌, ⊎_elim, ℕ, ◌^◌, ◌<◌, ◌≤◌, Bool, true, false, cond, Option, Some, None, is_some, List, [], refl, sym, ap, ◌∙◌, arith, subst}
use Rattle.std.specs.Prelude.{nat_le}
use Rattle.std.specs.Option.{option_map, unwrap_or}
use Rattle.std.proofs.lemmas.Bool.{cases_lt}
use Rattle.tm_base.specs.Limits.{max_file_bytes}
use Rattle.tm_world.specs.declared.bytes.Blob.{Blob}
use Rattle.tm_chain.specs.Blob.{bytes_in}
use Rattle.tm_tree.specs.declared.node.LeafRow.TheVariants.{File, Link}
use Rattle.tm_tree.specs.declared.node.NodeBody.{NodeBody}
use Rattle.tm_tree.specs.declared.node.NodeBody.TheVariants.{Folder, Leaf}
use Rattle.tm_tree.specs.declared.node.NodeRow.{NodeRow}
use Rattle.tm_records.specs.declared.record.Body.{Body}
use Rattle.tm_records.specs.declared.record.Body.TheVariants.{Kept, Empty, New}
use Rattle.tm_records.specs.declared.record.Record.{Record}
use Rattle.tm_records.specs.Records.{at}
use Rattle.tm_records.specs.Puts.{put_record}
use Rattle.tm_graph.specs.Nodes.{node, links_of}
use Rattle.tm_graph.specs.Growing.{relinked}
use Rattle.tm_graph.proofs.Taken.{at as entry}
use Rattle.tm_graph.proofs.Same.{same_nodes}
use Rattle.tm_identity.specs.Stored.{body_length}
use Rattle.tm_nodes.specs.Nodes.{node_text, IsNodeRow, IsNodeOfSize, HasNodeSize}
use Rattle.tm_nodes.specs.Records.{node_of}
use Rattle.tm_store_records.specs.Heads.{heads_of}
use Rattle.tm_store_records.specs.Held.{files_of}
use Rattle.tm_store_records.specs.Built.{snapshot_built, all_nodes, files_built, bytes_of_blob, built_length}
use Rattle.tm_store_records.specs.Found.{node_key, nodes_in}
use Rattle.tm_store_records.specs.Rules.{most_of}
use Rattle.tm_store_records.proofs.NextKeyLemmas.{le_true, le_false, lt_true, lt_false}
use Rattle.tm_snapshot.specs.Puts.{body_is_file}
use Rattle.tm_snapshot.proofs.Finishing.{Finishing, joining, parts}
use Rattle.tm_snapshot.proofs.Joined.{is_new, new_sorted}
use Rattle.tm_snapshot.proofs.Adding.{is_graph, there_after}
use Rattle.tm_snapshot.proofs.Readings.{row_in, node_read, nodes_rise}
use Rattle.tm_snapshot.proofs.PutKeyLemmas.{body_at, new_body, node_record, wanted_node}
use Rattle.tm_snapshot.proofs.Blobs.{no_blob, blob_size, has_blob, any_size, size_of}
use Rattle.tm_snapshot.proofs.Rows.{OldRow, NewRow, old_row, new_row, old_record}
use Rattle.tm_snapshot.proofs.Regrown.{NodesReadAgain, stands_after, sorted_after}

zero_le : (n : ℕ) → nat_le 0 n ≡ true
zero_le n = le_true 0 n (omega arith)

file_fits : (body : NodeBody) (size : ℕ) → built_length body ≡ Some size → body_length body ≤ max_file_bytes → nat_le size (most_of body) ≡ true
file_fits (Folder attrs entries) size e low = absurd (cc e)
file_fits (Leaf (File attrs stamp own)) size e low = let same : own ≡ size = cc in le_true size max_file_bytes (omega (arith, same, low))
file_fits (Leaf (Link attrs stamp target)) size e low = absurd (cc e)

-- no bytes
no_bytes : (bytes : ℕ → List ℕ) → bytes_in [] bytes 0 0 ≡ []
unfolding bytes_in
no_bytes bytes = refl

abbrev bytes_of_record : (ℕ → List ℕ) → Option Record → List ℕ
bytes_of_record bytes o = unwrap_or (option_map (λ r. bytes_in r.blocks bytes 0 r.length) o) []

module _ (f : Finishing) where
  open f use {h, built, date, volume, id, mark, may}
  open parts f use {g, new, root, last, after, R, S}

  abbrev pub own_record : ℕ → NodeRow → Record
  own_record n row = node_record after last built.blobs (snapshot_built h built date volume id mark) R n row

  pub body_old : (n : ℕ) → n ≤ last → body_at last built.blobs n ≡ Kept
  body_old n le = ap (λ b. cond b Kept (new_body (entry built.blobs n))) (le_true n last le)

  pub body_new : (n : ℕ) → last < n → body_at last built.blobs n ≡ new_body (entry built.blobs n)
  body_new n lt = ap (λ b. cond b Kept (new_body (entry built.blobs n))) (le_false n last lt)

  -- ---- each row has a record that keeps the rules

  pub record RowFits (n : ℕ) (row : NodeRow) : Type 0 where
    pub rules : IsNodeOfSize (own_record n row).length row
    pub few : nat_le (own_record n row).length (most_of row.body) ≡ true

  links_low : (n : ℕ) (row : NodeRow) → node after n ≡ Some row → row.links < 2 ^ 64
  links_low n row e =
      let few = (is_graph (joining f)).few n in
      let links : links_of after n ≡ row.links = ap (λ (o : Option NodeRow). unwrap_or (option_map (λ (r : NodeRow). r.links) o) 0) e in
      omega (arith, few, links)

  old_rules : (n : ℕ) (row : NodeRow) → node after n ≡ Some row → (is : OldRow f n row) → IsNodeRow row
  old_rules n row e is =
      let kept = old_record f n is.first is.was_there in
      let links : (relinked g new root n is.first).links ≡ row.links = ap (λ (r : NodeRow). r.links) (sym is.row_is) in
      let low = links_low n row e in
      subst (λ (r : NodeRow). IsNodeRow r) (sym is.row_is) (record { label = kept.is.rules.rules.label; links = omega (arith, links, low); attrs = kept.is.rules.rules.attrs; tail = kept.is.rules.rules.tail })

  new_rules : (n : ℕ) (row : NodeRow) → node after n ≡ Some row → (is : NewRow f n row) → IsNodeRow row
  new_rules n row e is =
      let one = is_new (joining f) n is.first is.is_there in
      let links : (relinked g new root n is.first).links ≡ row.links = ap (λ (r : NodeRow). r.links) (sym is.row_is) in
      let low = links_low n row e in
      let most = may.whole.fits.most in
      let label = one.label in
      subst (λ (r : NodeRow). IsNodeRow r) (sym is.row_is) (record { label = omega (arith, label, most); links = omega (arith, links, low); attrs = one.attrs; tail = one.tail })

  fits_of : (n size : ℕ) (first row : NodeRow) → IsNodeRow row → row ≡ relinked g new root n first → (own_record n row).length ≡ size → HasNodeSize size first.body → nat_le size (most_of first.body) ≡ true → RowFits n row
  fits_of n size first row rules is length_is has few = record {
    rules = record { rules = rules; size_is = subst (λ (k : ℕ). HasNodeSize k row.body) (sym length_is) (subst (λ (r : NodeRow). HasNodeSize size r.body) (sym is) has) };
    few = ap (λ k. nat_le k (most_of row.body)) length_is ∙ ap (λ (r : NodeRow). nat_le size (most_of r.body)) is ∙ few;
  }

  pub fits_after : (n : ℕ) (row : NodeRow) → node after n ≡ Some row → RowFits n row
  fits_after n row e = ⊎_elim
      (λ (lt : last < n). fresh lt (new_row f n row lt e))
      (λ (le : n ≤ last).
      let is = old_row f n row le e in
      let kept = old_record f n is.first is.was_there in
      fits_of n kept.record_at.length is.first row (old_rules n row e is) is.row_is
      (ap (λ (b : Body). (put_record b (node_text row) (at (node_key n) R)).length) (body_old n le) ∙ ap (λ (o : Option Record). (put_record Kept (node_text row) o).length) kept.stands)
      kept.is.rules.size_is kept.few)
      (cases_lt last n)
    where
      fresh : last < n → (is : NewRow f n row) → RowFits n row
      fresh lt is = by_test (body_is_file is.first.body) refl
        where
          long : (o : Option Blob) → entry built.blobs n ≡ o → (own_record n row).length ≡ (put_record (new_body o) (node_text row) (at (node_key n) R)).length
          long o here = ap (λ (b : Body). (put_record b (node_text row) (at (node_key n) R)).length) (body_new n lt ∙ ap new_body here)

          by_test : (b : Bool) → body_is_file is.first.body ≡ b → RowFits n row
          by_test true t =
              let blob = has_blob new built.blobs (new_sorted h built may.is_built) may.is_built.files n is.first is.is_there t in
              let size = blob_size new built.blobs (new_sorted h built may.is_built) may.is_built.files n is.first blob.0 is.is_there blob.1 in
              let one = is_new (joining f) n is.first is.is_there in
              fits_of n blob.0.length is.first row (new_rules n row e is) is.row_is (long (Some blob.0) blob.1) (size_of is.first.body blob.0.length size) (file_fits is.first.body blob.0.length size one.size)
          by_test false t =
              let none = no_blob new built.blobs (new_sorted h built may.is_built) may.is_built.files n is.first is.is_there t in
              fits_of n 0 is.first row (new_rules n row e is) is.row_is (long None none) (any_size is.first.body 0 t) (zero_le (most_of is.first.body))

  -- ---- a node's key has its record

  pub node_stands : (n : ℕ) (row : NodeRow) → node after n ≡ Some row → at (node_key n) S ≡ Some (own_record n row)
  node_stands n row e =
      stands_after f (node_key n)
      ∙ wanted_node after last built.blobs (snapshot_built h built date volume id mark) R may.whole.fits.most n
      ∙ ap (option_map (own_record n)) e

  pub none_stands : (n : ℕ) → node after n ≡ None → at (node_key n) S ≡ None
  none_stands n e =
      stands_after f (node_key n)
      ∙ wanted_node after last built.blobs (snapshot_built h built date volume id mark) R may.whole.fits.most n
      ∙ ap (option_map (own_record n)) e

  -- the meta is the row's text
  pub meta_is : (n : ℕ) (row : NodeRow) → (own_record n row).meta ≡ node_text row
  meta_is n row = by_body (body_at last built.blobs n) (at (node_key n) R)
    where
      by_body : (b : Body) (o : Option Record) → (put_record b (node_text row) o).meta ≡ node_text row
      by_body Kept None = refl
      by_body Kept (Some r) = refl
      by_body Empty o = refl
      by_body (New blob) o = refl

  pub row_read : NodesReadAgain → (n : ℕ) (row : NodeRow) → node after n ≡ Some row → node_of (own_record n row).meta (own_record n row).length ≡ Some row
  row_read again n row e = ap (λ (text : List ℕ). node_of text (own_record n row).length) (meta_is n row) ∙ again (own_record n row).length row (fits_after n row e).rules

  pub nodes_are : NodesReadAgain → nodes_in (heads_of S) ≡ after
  nodes_are again = same_nodes (nodes_in (heads_of S)) after (nodes_rise S (sorted_after f))
      (is_graph (joining f)).in_order
      (λ n. node_read S n (sorted_after f) ∙ by_node n (node after n) refl)
    where
      by_node : (n : ℕ) (o : Option NodeRow) → node after n ≡ o → row_in (at (node_key n) S) ≡ node after n
      by_node n None e = ap row_in (none_stands n e) ∙ sym e
      by_node n (Some row) e = ap row_in (node_stands n row e) ∙ row_read again n row e ∙ sym e

  -- ---- bytes

  pub files_are : (bytes : ℕ → List ℕ) (n : ℕ) → is_some (node (all_nodes h built) n) ≡ true → files_of S bytes n ≡ files_built h built bytes n
  files_are bytes n t = by_node (node after n) refl (there_after (joining f) n t)
    where
      by_blob : (row : NodeRow) (o : Option Blob) → bytes_of_record bytes (Some (put_record (new_body o) (node_text row) (at (node_key n) R))) ≡ unwrap_or (option_map (bytes_of_blob bytes) o) []
      by_blob row None = no_bytes bytes
      by_blob row (Some b) = refl

      by_record : (row : NodeRow) (o : Option Record) → bytes_of_record bytes (Some (put_record Kept (node_text row) o)) ≡ bytes_of_record bytes o
      by_record row None = no_bytes bytes
      by_record row (Some r) = refl

      by_number : (row : NodeRow) → bytes_of_record bytes (Some (own_record n row)) ≡ files_built h built bytes n
      by_number row = ⊎_elim
          (λ (lt : last < n). ap (λ (b : Body). bytes_of_record bytes (Some (put_record b (node_text row) (at (node_key n) R)))) (body_new n lt) ∙ by_blob row (entry built.blobs n)
          ∙ sym (ap (λ b. cond b (unwrap_or (option_map (bytes_of_blob bytes) (entry built.blobs n)) []) (files_of R bytes n)) (lt_true last n lt)))
          (λ (le : n ≤ last). ap (λ (b : Body). bytes_of_record bytes (Some (put_record b (node_text row) (at (node_key n) R)))) (body_old n le) ∙ by_record row (at (node_key n) R)
          ∙ sym (ap (λ b. cond b (unwrap_or (option_map (bytes_of_blob bytes) (entry built.blobs n)) []) (files_of R bytes n)) (lt_false last n le)))
          (cases_lt last n)

      by_node : (o : Option NodeRow) → node after n ≡ o → is_some o ≡ true → files_of S bytes n ≡ files_built h built bytes n
      by_node None e t = cc
      by_node (Some row) e t = ap (bytes_of_record bytes) (node_stands n row e) ∙ by_number row
