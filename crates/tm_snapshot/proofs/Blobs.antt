-- The blobs of new files.
use Rattle.std.proofs.Common.{suc, ◌≡◌, ℕ, ◌+◌, ◌-◌, ◌≤◌, Bool, true, false, Option, Some, None, is_some, List, [], ◌∷◌, map, refl, sym, ap, ◌∙◌, arith, subst}
use Rattle.std.specs.Prelude.{slice_get}
use Rattle.std.specs.List.{AllByRecursion, filter_map}
use Rattle.std.specs.List.Sorted.{IsStrictlySortedBy}
use Rattle.std.specs.Ordering.{nat_cmp}
use Rattle.std.specs.Option.{option_map, option_and_then}
use Rattle.tm_world.specs.declared.bytes.Blob.{Blob}
use Rattle.tm_tree.specs.declared.node.LeafRow.TheVariants.{File, Link}
use Rattle.tm_tree.specs.declared.node.NodeBody.{NodeBody}
use Rattle.tm_tree.specs.declared.node.NodeBody.TheVariants.{Folder, Leaf}
use Rattle.tm_tree.specs.declared.node.NodeRow.{NodeRow}
use Rattle.tm_graph.specs.Nodes.{Nodes, node}
use Rattle.tm_graph.proofs.Taken.{Sorted, at as entry}
use Rattle.tm_graph.proofs.Same.{at-mapped, keys-mapped}
use Rattle.tm_nodes.specs.Nodes.{HasNodeSize}
use Rattle.tm_store_records.specs.Built.{built_lengths, built_length}
use Rattle.tm_store_records.proofs.Placed.{at_place, place_of}
use Rattle.tm_snapshot.specs.Puts.{body_is_file}
use Rattle.tm_snapshot.proofs.Numbered.{rows, rows_at, rows_sorted}

pub by_places : {X : Type 0} (P : X → Type 0) (xs : List X) → ((i : ℕ) (x : X) → slice_get xs i ≡ Some x → P x) → AllByRecursion P xs
by_places P [] f = tt
by_places P (x ∷ xs) f = (f 0 x refl, by_places P xs (λ i y is. f (suc i) y is))

-- ---- files have lengths

no_length : (body : NodeBody) → body_is_file body ≡ false → built_length body ≡ None
no_length (Folder attrs entries) t = refl
no_length (Leaf (File attrs stamp size)) t = absurd (cc t)
no_length (Leaf (Link attrs stamp target)) t = refl

has_length : (body : NodeBody) → body_is_file body ≡ true → (size : ℕ) × (built_length body ≡ Some size)
has_length (Folder attrs entries) t = absurd (cc t)
has_length (Leaf (File attrs stamp size)) t = (size, refl)
has_length (Leaf (Link attrs stamp target)) t = absurd (cc t)

pub size_of : (body : NodeBody) (size : ℕ) → built_length body ≡ Some size → HasNodeSize size body
size_of (Folder attrs entries) size e = absurd (cc e)
size_of (Leaf (File attrs stamp own)) size e = cc
size_of (Leaf (Link attrs stamp target)) size e = absurd (cc e)

pub any_size : (body : NodeBody) (size : ℕ) → body_is_file body ≡ false → HasNodeSize size body
any_size (Folder attrs entries) size t = tt
any_size (Leaf (File attrs stamp own)) size t = absurd (cc t)
any_size (Leaf (Link attrs stamp target)) size t = tt

abbrev length_in : Option NodeRow → Option ℕ
length_in o = option_and_then (λ row. built_length row.body) o

module _ (new : Nodes) (blobs : List (ℕ × Blob)) (sorted : Sorted new) (files : map (λ b. (b.0, b.1.length)) blobs ≡ built_lengths new) where
  abbrev every : ℕ → Bool
  every k = true

  abbrev read : NodeRow → Option ℕ
  read row = built_length row.body

  abbrev least : (k : ℕ) → every k ≡ true → 0 ≤ k
  least k t = omega arith

  lengths_are : built_lengths new ≡ rows 0 every read least new
  lengths_are = λ i. filter_map (λ e. same e i) new
    where
      minus : (k : ℕ) → k ≡ k - 0
      minus k = omega arith

      same : (e : ℕ × NodeRow) → option_map {U = ℕ × ℕ} (λ size. (e.0, size)) (built_length e.1.body) ≡ option_map {U = ℕ × ℕ} (λ size. (e.0 - 0, size)) (built_length e.1.body)
      same e = ap (λ (k : ℕ). option_map {U = ℕ × ℕ} (λ size. (k, size)) (built_length e.1.body)) (minus e.0)

  keys_are : Sorted (map (λ b. (b.0, b.1.length)) blobs)
  keys_are = subst (λ (t : List (ℕ × ℕ)). Sorted t) (sym (files ∙ lengths_are)) (rows_sorted 0 every read least new sorted)

  pub blobs_sorted : Sorted blobs
  blobs_sorted = subst (λ (ks : List ℕ). IsStrictlySortedBy nat_cmp ks) (keys-mapped (λ _ (b : Blob). b.length) blobs) keys_are

  -- the blob under a number is as long as the file
  pub blob_length : (n : ℕ) → option_map (λ b. b.length) (entry blobs n) ≡ length_in (node new n)
  blob_length n =
      sym (at-mapped (λ _ (b : Blob). b.length) blobs n) ∙ ap (λ (t : List (ℕ × ℕ)). entry t n) (files ∙ lengths_are) ∙ rows_at 0 every read least new n sorted
      ∙ ap (λ k. length_in (node new k)) (zero_plus n)
    where
      zero_plus : (k : ℕ) → 0 + k ≡ k
      zero_plus k = omega arith

  pub no_blob : (n : ℕ) (row : NodeRow) → node new n ≡ Some row → body_is_file row.body ≡ false → entry blobs n ≡ None
  no_blob n row e t = by_blob (entry blobs n) (blob_length n ∙ ap length_in e ∙ no_length row.body t)
    where
      by_blob : (o : Option Blob) → option_map (λ b. b.length) o ≡ None → o ≡ None
      by_blob None h = refl
      by_blob (Some b) h = absurd (cc h)

  pub has_blob : (n : ℕ) (row : NodeRow) → node new n ≡ Some row → body_is_file row.body ≡ true → (b : Blob) × (entry blobs n ≡ Some b)
  has_blob n row e t = let size = has_length row.body t in by_blob size.0 (entry blobs n) refl (blob_length n ∙ ap length_in e ∙ size.1)
    where
      by_blob : (size : ℕ) (o : Option Blob) → entry blobs n ≡ o → option_map (λ b. b.length) o ≡ Some size → (b : Blob) × (entry blobs n ≡ Some b)
      by_blob size None is h = absurd (cc h)
      by_blob size (Some b) is h = (b, is)

  pub blob_size : (n : ℕ) (row : NodeRow) (b : Blob) → node new n ≡ Some row → entry blobs n ≡ Some b → built_length row.body ≡ Some b.length
  blob_size n row b e is = sym (sym (ap (option_map (λ (x : Blob). x.length)) is) ∙ blob_length n ∙ ap length_in e)

  pub placed_blob : (n : ℕ) (row : NodeRow) → node new n ≡ Some row → body_is_file row.body ≡ true → (i : ℕ) × (b : ℕ × Blob) × (slice_get blobs i ≡ Some b) × (b.0 ≡ n)
  placed_blob n row e t = let blob = has_blob n row e t in let place = place_of blobs n blob.0 blob.1 in (place.0, (n, blob.0), place.1, refl)

  -- each blob is a new node's
  pub blobs_new : AllByRecursion (λ b. (is_some (node new b.0) ≡ true) × (entry blobs b.0 ≡ Some b.1)) blobs
  blobs_new = by_places (λ b. (is_some (node new b.0) ≡ true) × (entry blobs b.0 ≡ Some b.1)) blobs (λ i b is.
      let here = at_place blobs i b blobs_sorted is in
      (by_node (node new b.0) (sym (blob_length b.0) ∙ ap (option_map (λ (x : Blob). x.length)) here), here))
    where
      by_node : {size : ℕ} (o : Option NodeRow) → length_in o ≡ Some size → is_some o ≡ true
      by_node None h = absurd (cc h)
      by_node (Some row) h = refl
