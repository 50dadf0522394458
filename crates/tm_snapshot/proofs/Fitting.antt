-- A commit can put the records of a finished backup, and releases nothing.
use Rattle.std.proofs.Common.{zero, suc, ◌≡◌, ◌≢◌, inl, inr, ℕ, ◌+◌, ◌^◌, ◌<◌, ◌≤◌, true, false, Option, Some, None, is_some, List, [], ◌∷◌, ◌++◌, length, map, refl, sym, ap, ◌∙◌, arith, subst, length-append}
use Rattle.std.specs.Prelude.{slice_get}
use Rattle.std.specs.List.{All, AllByRecursion, sum_by}
use Rattle.std.specs.Map.{values_of}
use Rattle.std.specs.Option.{option_map, unwrap_or, IsSome}
use Rattle.std.proofs.lemmas.List.Sums.{sum_by-append}
use Rattle.tm_base.specs.Limits.{max_nodes}
use Rattle.tm_base.proofs.Facts.{some_there}
use Rattle.tm_world.specs.declared.bytes.Blob.{Blob}
use Rattle.tm_chain.specs.Blob.{blob_len}
use Rattle.tm_tree.specs.declared.node.NodeRow.{NodeRow}
use Rattle.tm_records.specs.declared.record.Body.{Body}
use Rattle.tm_records.specs.declared.record.Body.TheVariants.{Kept, Empty, New}
use Rattle.tm_records.specs.declared.record.Record.{Record}
use Rattle.tm_records.specs.declared.record.Put.{Put}
use Rattle.tm_records.specs.Records.{Records, at}
use Rattle.tm_records.specs.Puts.{CanPut, with_puts, brought}
use Rattle.tm_blockmap.specs.Counts.{times as often}
use Rattle.tm_graph.specs.Nodes.{Nodes, node, entries_of, names}
use Rattle.tm_graph.specs.Growing.{relinked}
use Rattle.tm_identity.proofs.Parents.{named_once}
use Rattle.tm_image.specs.Reads.{data_len}
use Rattle.tm_image.specs.Commit.{IsPut, IsFilled, released_by}
use Rattle.tm_nodes.specs.Nodes.{node_text, IsNodeRow}
use Rattle.tm_store_records.specs.Found.{snapshot_key, node_key, roots_of}
use Rattle.tm_store_records.specs.Room.{row_of_snapshot}
use Rattle.tm_store_records.proofs.Placed.{place_of}
use Rattle.tm_snapshot.specs.Puts.{node_put, snapshot_put, root_puts, tree_puts, file_puts, body_is_file}
use Rattle.tm_snapshot.specs.Growth.{ArePuts, HaveRecords, puts_of, records_after}
use Rattle.tm_snapshot.proofs.Finishing.{Finishing, joining, parts}
use Rattle.tm_snapshot.proofs.Each.{all_of_each, all_before, all_puts_are, all_files, more_of}
use Rattle.tm_snapshot.proofs.Joined.{all_at, new_sorted, old_low}
use Rattle.tm_snapshot.proofs.Adding.{is_graph, is_store, root_is_there}
use Rattle.tm_snapshot.proofs.Blobs.{blobs_new, blobs_sorted}
use Rattle.tm_snapshot.proofs.Metas.{few_entries, node_meta_short, snapshot_meta_short}
use Rattle.tm_snapshot.proofs.Rows.{old_row, named_after, old_record, record_there}
use Rattle.tm_snapshot.proofs.Regrown.{new_there}
use Rattle.tm_snapshot.proofs.Rereading.{fits_after}
use Rattle.tm_snapshot.proofs.Snapping.{no_record_yet, row_rules, snapshot_stands}
use Rattle.tm_snapshot.proofs.Weighing.{Quiet, NoData, with_puts_append, quiet_puts, bare_puts, bare_first, file_lens, blob_lens, files_bring, none_bring}
use Rattle.tm_snapshot.proofs.Putting.{sorted_puts}

-- a put can be made alone of both its parts
put_of : (R : Records) (g : Nodes) (n : ℕ) (row : NodeRow) (b : Body) → node g n ≡ Some row → n ≤ 2 ^ 62 → length (node_text row) < 2 ^ 32 → CanPut b (at (node_key n) R) → IsFilled b → IsPut R (node_put g n b)
put_of R g n row b e low short can filled = record {
  can = can;
  key = omega (arith, low);
  meta = subst (λ (o : Option NodeRow). length (unwrap_or (option_map node_text o) []) < 2 ^ 32) (sym e) short;
  filled = filled;
}

some_is_some : (o : Option Record) (r : Record) → o ≡ Some r → IsSome o
some_is_some None r e = cc
some_is_some (Some x) r e = search

-- the values of entries are those at places
pub value_at_key : (P : Record → Type 0) (R : Records) (k : ℕ) (r : Record) → All P (values_of R) → at k R ≡ Some r → P r
value_at_key P R k r all is = let place = place_of R k r is in all_at P (values_of R) place.0 r all (values_at R place.0 (k, r) place.1)
  where
    values_at : (R : Records) (i : ℕ) (e : ℕ × Record) → slice_get R i ≡ Some e → slice_get (values_of R) i ≡ Some e.1
    values_at [] i e is = absurd (cc is)
    values_at (x ∷ R) zero e is = let same : x ≡ e = cc in ap (λ (y : ℕ × Record). Some y.1) same
    values_at (x ∷ R) (suc i) e is = values_at R i e is

module _ (f : Finishing) where
  open f use {h, built, date, volume, id, mark, may}
  open parts f use {g, new, root, last, after, R, s}

  -- ---- rows

  row_rules_after : (n : ℕ) (row : NodeRow) → node after n ≡ Some row → IsNodeRow row
  row_rules_after n row e = (fits_after f n row e).rules.rules

  number_low : (n : ℕ) (row : NodeRow) → node after n ≡ Some row → n ≤ 2 ^ 62
  number_low n row e = (is_graph (joining f)).low n (ap (λ (o : Option NodeRow). is_some o) e)

  entries_few : (n : ℕ) (row : NodeRow) → node after n ≡ Some row → length (entries_of row) ≤ max_nodes
  entries_few n row e =
      let store = is_store (joining f) in
      let few = few_entries after (entries_of row)
      (λ m. subst (λ (o : Option NodeRow). names m o ≤ 1) e (named_once after (roots_of h.snapshots ++ root ∷ []) store n m))
      (λ q l. named_after f n q row e l) in
      let count = may.few in
      omega (arith, few, count, size (g ++ new), length-append g new)
    where
      size : (nodes : Nodes) → length {A = ℕ × NodeRow} (map (λ e. (e.0, relinked g new root e.0 e.1)) nodes) ≡ length nodes
      size [] = refl
      size (e ∷ nodes) = ap suc (size nodes)

  pub meta_short : (n : ℕ) (row : NodeRow) → node after n ≡ Some row → length (node_text row) < 2 ^ 32
  meta_short n row e = node_meta_short row (row_rules_after n row e) (entries_few n row e)

  -- ---- each put

  old_can : (n : ℕ) → n ≤ last → is_some (node after n) ≡ true → IsPut R (node_put after n Kept)
  old_can n le t =
      let row = some_there (node after n) t in
      let is = old_row f n row.0 le row.1 in
      let kept = old_record f n is.first is.was_there in
      put_of R after n row.0 Kept row.1 (number_low n row.0 row.1) (meta_short n row.0 row.1) (some_is_some (at (node_key n) R) kept.record_at kept.stands) tt

  bare_can : (n : ℕ) (row : NodeRow) → last < n → node after n ≡ Some row → body_is_file row.body ≡ false → IsPut R (node_put after n Empty)
  bare_can n row lt e t = put_of R after n row Empty e (number_low n row e) (meta_short n row e) tt tt

  file_can : (b : ℕ × Blob) → is_some (node after b.0) ≡ true → length b.1.blocks ≡ blob_len b.1.length → IsPut R (node_put after b.0 (New b.1))
  file_can b t filled =
      let row = some_there (node after b.0) t in
      put_of R after b.0 row.0 (New b.1) row.1 (number_low b.0 row.0 row.1) (meta_short b.0 row.0 row.1) tt filled

  snapshot_can : IsPut R (snapshot_put s)
  snapshot_can =
      let most = may.whole.fits.most in
      record { can = tt; key = omega (arith, most); meta = snapshot_meta_short (row_of_snapshot s) (row_rules f); filled = tt }

  files_there : AllByRecursion (λ b. is_some (node after b.0) ≡ true) built.blobs
  files_there = more_of built.blobs (λ b is. (new_there f b.0 is.0).0) (blobs_new new built.blobs (new_sorted h built may.is_built) may.is_built.files)

  root_there : is_some (node after root) ≡ true
  root_there = root_is_there (joining f)

  files_can : AllByRecursion (λ b. IsPut R (node_put after b.0 (New b.1))) built.blobs
  files_can = both built.blobs files_there (λ i b is. all_at (λ (x : ℕ × Blob). length x.1.blocks ≡ blob_len x.1.length) built.blobs i b may.is_built.filled is)
    where
      both : (blobs : List (ℕ × Blob)) → AllByRecursion (λ b. is_some (node after b.0) ≡ true) blobs → ((i : ℕ) (b : ℕ × Blob) → slice_get blobs i ≡ Some b → length b.1.blocks ≡ blob_len b.1.length) → AllByRecursion (λ b. IsPut R (node_put after b.0 (New b.1))) blobs
      both [] there filled = tt
      both (b ∷ blobs) there filled = (file_can b there.0 (filled 0 b refl), both blobs there.1 (λ i x is. filled (suc i) x is))

  each_can : AllByRecursion (IsPut R) (puts_of h built date volume id mark)
  each_can = all_puts_are after last (IsPut R) old_can (named_after f) bare_can (length new) built.blobs s snapshot_can root_there (all_files after last (IsPut R) built.blobs files_can)

  -- ---- what they bring

  abbrev first_puts : List Put
  first_puts = snapshot_put s ∷ root_puts after last root ++ tree_puts after last (length new)

  first_bring : AllByRecursion (λ p. brought p.body ≡ []) first_puts
  first_bring = all_before after last (λ p. brought p.body ≡ []) (λ n le t. refl) (named_after f) (λ n row lt e t. refl) (length new) s refl root_there

  brings : (w : List ℕ → ℕ) → w [] ≡ 0 → sum_by (λ p. w (brought p.body)) (puts_of h built date volume id mark) ≡ sum_by (λ x. w x.1.blocks) built.blobs
  brings w zero_is =
      let all = sum_by-append (λ (p : Put). w (brought p.body)) first_puts (file_puts after built.blobs) in
      let none = none_bring w zero_is first_puts first_bring in
      let files = files_bring after w built.blobs in
      omega (arith, all, none, files)

  -- ---- what they release

  new_bare : (n : ℕ) → last < n → at (node_key n) R ≡ None
  new_bare n lt = by_record (at (node_key n) R) refl
    where
      by_record : (o : Option Record) → at (node_key n) R ≡ o → at (node_key n) R ≡ None
      by_record None e = e
      by_record (Some r) e =
          let there = record_there f n r e in
          let low = old_low (joining f) n there in
          absurd (omega (arith, low, lt))

  first_quiet : AllByRecursion (Quiet R) first_puts
  first_quiet = all_before after last (Quiet R) (λ n le t. inl refl) (named_after f) (λ n row lt e t. inr (refl, new_bare n lt)) (length new) s (inr (refl, no_record_yet f)) root_there

  abbrev halfway : Records
  halfway = with_puts first_puts R

  files_bare : NoData after halfway built.blobs
  files_bare = more_of built.blobs
      (λ b is. bare_puts R first_puts R first_quiet (bare_first R) (node_key b.0) (new_bare b.0 (new_there f b.0 is.0).1))
      (blobs_new new built.blobs (new_sorted h built may.is_built) may.is_built.files)

  data_after : data_len (records_after h built date volume id mark) ≡ data_len R + blob_lens after built.blobs
  data_after =
      let first = quiet_puts R first_puts R may.whole.sound.rising first_quiet (bare_first R) in
      let files = file_lens after built.blobs halfway (sorted_puts first_puts R may.whole.sound.rising) (blobs_sorted new built.blobs (new_sorted h built may.is_built) may.is_built.files) files_bare in
      ap data_len (with_puts_append first_puts (file_puts after built.blobs) R) ∙ files ∙ ap (λ n. n + blob_lens after built.blobs) first

  pub releases : released_by [] (puts_of h built date volume id mark) R ≡ 0
  releases = let bring = brings length refl in let weight = data_after in omega (arith, bring, weight)

  some_left : records_after h built date volume id mark ≢ []
  some_left none = (let bad : None ≡ Some _ = sym (ap (λ (x : Records). at (snapshot_key h.number) x) none) ∙ snapshot_stands f in cc)

  pub are_puts : ArePuts h built date volume id mark
  are_puts = record {
    each = all_of_each (IsPut R) (puts_of h built date volume id mark) each_can;
    bring = λ b. brings (λ blocks. often b blocks) refl;
    release = releases;
    some = some_left;
  }

  pub have_records : HaveRecords after root built.blobs
  have_records = record {
    rules = row_rules_after;
    named = named_after f;
    root_there = root_there;
    files = all_of_each (λ b. is_some (node after b.0) ≡ true) built.blobs files_there;
  }
