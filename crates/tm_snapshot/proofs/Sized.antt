-- The sizes of the store that a finished backup makes are told by what was built.
use Rattle.std.proofs.Common.{◌≡◌, ⊎_elim, ℕ, ◌+◌, ◌*◌, ◌≤◌, true, cond, Option, Some, None, is_some, List, [], ◌∷◌, ◌++◌, length, refl, sym, ap, ◌∙◌, arith, subst, length-append}
use Rattle.std.specs.Prelude.{nat_lt}
use Rattle.std.specs.List.{sum_by}
use Rattle.std.proofs.lemmas.List.{length-map}
use Rattle.std.specs.Option.{option_map, option_and_then, unwrap_or}
use Rattle.tm_base.specs.Limits.{max_nodes}
use Rattle.tm_world.specs.declared.bytes.Blob.{Blob}
use Rattle.tm_tree.specs.declared.rows.Mark.{Mark}
use Rattle.tm_tree.specs.declared.node.LeafRow.TheVariants.{File, Link}
use Rattle.tm_tree.specs.declared.node.NodeBody.{NodeBody}
use Rattle.tm_tree.specs.declared.node.NodeBody.TheVariants.{Folder, Leaf}
use Rattle.tm_tree.specs.declared.node.NodeRow.{NodeRow}
use Rattle.tm_tree.specs.Items.{bytes_of}
use Rattle.tm_tree.specs.States.{StoreState, Snapshot as StoredSnapshot}
use Rattle.tm_graph.specs.declared.built.Built.{Built}
use Rattle.tm_graph.specs.Nodes.{Nodes, node, greatest, links_of, with_links}
use Rattle.tm_graph.specs.Growing.{grown, relinked, gain}
use Rattle.tm_graph.proofs.Growing.{none_or_there}
use Rattle.tm_graph.proofs.Taken.{at as entry}
use Rattle.tm_identity.specs.Stored.{body_length, node_length, Lengths}
use Rattle.tm_identity.specs.Stores.{IsStore}
use Rattle.tm_image.specs.Layout.{blocks_for}
use Rattle.tm_nodes.specs.Headers.{machine_text}
use Rattle.tm_store_records.specs.declared.snapshot.Snapshot.{Snapshot}
use Rattle.tm_store_records.specs.Found.{roots_of}
use Rattle.tm_store_records.specs.Held.{Held, IsWhole, files_of}
use Rattle.tm_store_records.specs.Built.{IsBuilt, snapshot_built, all_nodes, store_completed, bytes_of_blob, files_built, built_length}
use Rattle.tm_store_records.specs.Laws.{HeldFiles, SizesAreTold}
use Rattle.tm_store_records.specs.Room.{record_len, snapshot_len, store_blocks}
use Rattle.tm_store_records.specs.Sizes.{store_of, table_blocks, node_count, HasSizes}
use Rattle.tm_store_records.specs.States.{labelled_on, item_on}
use Rattle.tm_store_records.proofs.Noding.{NodesAreFound}
use Rattle.tm_store_records.proofs.NextKeyLemmas.{lt_true}
use Rattle.tm_store_records.proofs.Storing.{length-bytes_in}
use Rattle.tm_snapshot.specs.Completing.{count_after}
use Rattle.tm_snapshot.specs.Sizes.{AreCompletedSizes}
use Rattle.tm_snapshot.proofs.Finishing.{Joining}
use Rattle.tm_snapshot.proofs.Olds.{IsOld, old_is, few_nodes}
use Rattle.tm_snapshot.proofs.Joined.{new_sorted, new_number}
use Rattle.tm_snapshot.proofs.Adding.{was, comes, part, is_store}
use Rattle.tm_snapshot.proofs.Blobs.{blob_length}
use Rattle.tm_snapshot.proofs.Filed.{old_bytes, snapshots_are}
use Rattle.tm_snapshot.proofs.Telling.{same_lens}

-- an item has as many bytes as its node says, where the file's are so many
items_long : (bytes : List ℕ) (body : NodeBody) → length bytes ≡ body_length body → length (bytes_of (item_on bytes body)) ≡ body_length body
items_long bytes (Folder attrs entries) long = refl
items_long bytes (Leaf (File attrs stamp size)) long = long
items_long bytes (Leaf (Link attrs stamp target)) long = refl

blob_long : (bytes : ℕ → List ℕ) (blob : Blob) → length (bytes_of_blob bytes blob) ≡ blob.length
blob_long bytes blob = length-bytes_in (record { meta = []; length = blob.length; blocks = blob.blocks }) bytes

-- a blob that is as long as its file has the bytes that the node says, and what is no file has none
built_long : (bytes : ℕ → List ℕ) (body : NodeBody) (o : Option Blob) → option_map (λ b. b.length) o ≡ built_length body → length (unwrap_or (option_map (bytes_of_blob bytes) o) []) ≡ body_length body
built_long bytes (Folder attrs entries) None e = refl
built_long bytes (Folder attrs entries) (Some blob) e = absurd (cc e)
built_long bytes (Leaf (File attrs stamp size)) None e = absurd (cc e)
built_long bytes (Leaf (File attrs stamp size)) (Some blob) e = let same : blob.length ≡ size = cc in blob_long bytes blob ∙ same
built_long bytes (Leaf (Link attrs stamp target)) None e = refl
built_long bytes (Leaf (Link attrs stamp target)) (Some blob) e = absurd (cc e)

roots_push : (ss : List Snapshot) (s : Snapshot) → roots_of (ss ++ s ∷ []) ≡ roots_of ss ++ s.root ∷ []
roots_push [] s = refl
roots_push (x ∷ ss) s = ap (λ (rs : List ℕ). x.root ∷ rs) (roots_push ss s)

module _ (h : Held) (built : Built) (whole : IsWhole h) (is_built : IsBuilt h built) (found : NodesAreFound) (most : length built.nodes ≤ max_nodes) where
  abbrev g : Nodes
  g = h.nodes

  abbrev new : Nodes
  new = built.nodes

  abbrev all : Nodes
  all = all_nodes h built

  abbrev after : Nodes
  after = grown g new built.root

  old : IsOld h.nodes h.snapshots h.number
  old = old_is h whole found

  few : count_after h built ≤ 2 * max_nodes
  few = let many = few_nodes g h.snapshots h.number old in omega (arith, many, most)

  abbrev joins : Joining
  joins = record { h = h; built = built; is_built = is_built; old = old; few = few; most = whole.fits.most }

  -- ---- files are as long as their nodes say

  module _ (files_told : HeldFiles) (bytes : ℕ → List ℕ) where
    abbrev files : ℕ → List ℕ
    files = files_built h built bytes

    new_bytes : (n : ℕ) → is_some (node new n) ≡ true → files n ≡ unwrap_or (option_map (bytes_of_blob bytes) (entry built.blobs n)) []
    new_bytes n t = by_test (lt_true (greatest g) n (let above = (new_number joins n t).0 in omega (arith, above)))
      where
        by_test : nat_lt (greatest g) n ≡ true → files n ≡ unwrap_or (option_map (bytes_of_blob bytes) (entry built.blobs n)) []
        by_test e = ap (λ b. cond b (unwrap_or (option_map (bytes_of_blob bytes) (entry built.blobs n)) []) (files_of h.image.records bytes n)) e

    old_long : (n : ℕ) (row : NodeRow) → node g n ≡ Some row → length (files n) ≡ node_length row
    old_long n row e = ap (λ (b : List ℕ). length b) (old_bytes h built whole is_built few found bytes n (ap (λ (o : Option NodeRow). is_some o) e)) ∙ files_told h bytes n row whole e

    new_long : (n : ℕ) (row : NodeRow) → node new n ≡ Some row → length (files n) ≡ node_length row
    new_long n row e =
        ap (λ (b : List ℕ). length b) (new_bytes n (ap (λ (o : Option NodeRow). is_some o) e))
        ∙ built_long bytes row.body (entry built.blobs n) (blob_length new built.blobs (new_sorted h built is_built) is_built.files n ∙ sized n row e)
      where
        sized : (n : ℕ) (row : NodeRow) → node new n ≡ Some row → option_and_then (λ (r : NodeRow). built_length r.body) (node new n) ≡ built_length row.body
        sized n row e = ap (λ (o : Option NodeRow). option_and_then (λ (r : NodeRow). built_length r.body) o) e

    any_long : (n : ℕ) (row : NodeRow) → node all n ≡ Some row → length (files n) ≡ node_length row
    any_long n row e = ⊎_elim
        (λ none. new_long n row (sym (comes joins n none) ∙ e))
        (λ there. old_long n row (sym (was joins n there) ∙ e))
        (none_or_there (node g n))

    all_long : Lengths (labelled_on files) after
    all_long n row e =
        let its = part joins n row e in
        items_long (files n) row.body (any_long n (with_links row its.0) its.1)

    -- ---- the store

    module _ (date : ℕ) (volume : List ℕ) (id : ℕ) (mark : Mark) (told : SizesAreTold) where
      abbrev ss : List Snapshot
      ss = h.snapshots ++ snapshot_built h built date volume id mark ∷ []

      store : IsStore after (roots_of ss)
      store = subst (λ (rs : List ℕ). IsStore after rs) (sym (roots_push h.snapshots (snapshot_built h built date volume id mark))) (is_store joins)

      sizes : HasSizes h.machine ss after (store_of h.machine (h.number + 1) files after ss)
      sizes = told h.machine (h.number + 1) files after ss store all_long

      same_store : store_of h.machine (h.number + 1) files after ss ≡ store_completed h built date volume id mark bytes
      same_store = ap (λ (stored : List StoredSnapshot). record { machine = h.machine; number = h.number + 1; snapshots = stored })
          (snapshots_are h built whole is_built few found bytes files (λ n t. refl) date volume id mark)

      same_blocks : store_blocks h.machine ss after ≡ store_blocks h.machine ss all
      same_blocks = ap (λ n. blocks_for (record_len (length (machine_text h.machine)) 0 + sum_by snapshot_len ss + n)) (same_lens (λ q. links_of g q + gain new built.root q) all)

      same_nodes : length after ≡ count_after h built
      same_nodes = length-map all (λ e. (e.0, relinked g new built.root e.0 e.1)) ∙ length-append g new

      pub completed_sized : AreCompletedSizes h built date volume id mark bytes
      completed_sized = record {
        table = ap (λ (s : StoreState). table_blocks s) (sym same_store) ∙ sizes.table ∙ same_blocks;
        nodes = ap (λ (s : StoreState). node_count s) (sym same_store) ∙ sizes.nodes ∙ same_nodes;
      }
