-- How many blocks the records have after puts.
use Rattle.std.proofs.Common.{◌≡◌, ◌≢◌, ◌⊎◌, inl, inr, ⊎_elim, ℕ, ◌+◌, Option, Some, None, List, [], ◌∷◌, ◌++◌, length, refl, sym, ap, ◌∙◌, arith, subst}
use Rattle.std.specs.declared.cmp.Ordering.TheVariants.{Less}
use Rattle.std.specs.Ordering.{nat_cmp}
use Rattle.std.specs.Cmp.{nat_cmp_total}
use Rattle.std.specs.List.{AllByRecursion, sum_by}
use Rattle.std.specs.List.Sorted.{IsStrictlySortedBy}
use Rattle.std.specs.Map.{keys_of}
use Rattle.std.proofs.lemmas.Bool.{cases_eq}
use Rattle.std.proofs.lemmas.List.Sums.{sum_by-cons}
use Rattle.std.proofs.lemmas.Map.Entries.{sum_by-insert_entry}
use Rattle.tm_world.specs.declared.bytes.Blob.{Blob}
use Rattle.tm_records.specs.declared.record.Body.{Body}
use Rattle.tm_records.specs.declared.record.Body.TheVariants.{Kept, Empty, New}
use Rattle.tm_records.specs.declared.record.Record.{Record}
use Rattle.tm_records.specs.declared.record.Put.{Put}
use Rattle.tm_records.specs.Records.{Records, at}
use Rattle.tm_records.specs.Puts.{put_record, with_puts, brought}
use Rattle.tm_image.specs.Reads.{data_len, blocks_of}
use Rattle.tm_graph.specs.Nodes.{Nodes}
use Rattle.tm_graph.proofs.Taken.{Sorted}
use Rattle.tm_graph.proofs.Same.{sorted_put}
use Rattle.tm_store_records.specs.Found.{node_key}
use Rattle.tm_store_records.proofs.NextKeyLemmas.{less_lt}
use Rattle.tm_snapshot.specs.Puts.{node_put, file_puts}
use Rattle.tm_snapshot.proofs.Putting.{after, at_own, at_other}

pub with_puts_append : (ps qs : List Put) (R : Records) → with_puts (ps ++ qs) R ≡ with_puts qs (with_puts ps R)
with_puts_append [] qs R = refl
with_puts_append (p ∷ ps) qs R = with_puts_append ps qs (after p R)

-- what a put adds, but for what stood there
put_len : (p : Put) (now : Records) → Sorted now → data_len (after p now) + blocks_of (at p.key now) ≡ data_len now + length (put_record p.body p.meta (at p.key now)).blocks
put_len p now sorted = sum_by-insert_entry (λ (r : Record). length r.blocks) nat_cmp_total now p.key (put_record p.body p.meta (at p.key now)) sorted

after_sorted : (p : Put) (now : Records) → Sorted now → Sorted (after p now)
after_sorted p now s = sorted_put now p.key (put_record p.body p.meta (at p.key now)) s

module _ (R : Records) where
  -- a put that keeps the data, or puts none where nothing stood
  abbrev pub Quiet : Put → Type 0
  Quiet p = (p.body ≡ Kept) ⊎ ((p.body ≡ Empty) × (at p.key R ≡ None))

  -- where nothing stood there is no data yet
  abbrev pub Bare : Records → Type 0
  Bare now = (k : ℕ) → at k R ≡ None → blocks_of (at k now) ≡ 0

  abbrev len_of : Body → Option Record → ℕ
  len_of b o = length (put_record b [] o).blocks

  same_blocks : (b : Body) (meta : List ℕ) (o : Option Record) → length (put_record b meta o).blocks ≡ len_of b o
  same_blocks Kept meta None = refl
  same_blocks Kept meta (Some r) = refl
  same_blocks Empty meta o = refl
  same_blocks (New blob) meta o = refl

  kept_len : (o : Option Record) → len_of Kept o ≡ blocks_of o
  kept_len None = refl
  kept_len (Some r) = refl

  quiet_len : (p : Put) (now : Records) → Quiet p → Bare now → length (put_record p.body p.meta (at p.key now)).blocks ≡ blocks_of (at p.key now)
  quiet_len p now (inl kept) bare = same_blocks p.body p.meta (at p.key now) ∙ ap (λ b. len_of b (at p.key now)) kept ∙ kept_len (at p.key now)
  quiet_len p now (inr empty) bare = same_blocks p.body p.meta (at p.key now) ∙ ap (λ b. len_of b (at p.key now)) empty.0 ∙ sym (bare p.key empty.1)

  quiet_same : (p : Put) (now : Records) → Sorted now → Quiet p → Bare now → data_len (after p now) ≡ data_len now
  quiet_same p now sorted quiet bare = let all = put_len p now sorted in let here = quiet_len p now quiet bare in omega (arith, all, here)

  bare_after : (p : Put) (now : Records) → Quiet p → Bare now → Bare (after p now)
  bare_after p now quiet bare k none = ⊎_elim
      (λ (here : p.key ≡ k). ap blocks_of (at_own p now k here) ∙ quiet_len p now quiet bare ∙ bare p.key (subst (λ q. at q R ≡ None) (sym here) none))
      (λ (other : p.key ≢ k). ap blocks_of (at_other p now k other) ∙ bare k none)
      (cases_eq p.key k)

  pub quiet_puts : (ps : List Put) (now : Records) → Sorted now → AllByRecursion Quiet ps → Bare now → data_len (with_puts ps now) ≡ data_len now
  quiet_puts [] now sorted all bare = refl
  quiet_puts (p ∷ ps) now sorted all bare = quiet_puts ps (after p now) (after_sorted p now sorted) all.1 (bare_after p now all.0 bare) ∙ quiet_same p now sorted all.0 bare

  pub bare_puts : (ps : List Put) (now : Records) → AllByRecursion Quiet ps → Bare now → Bare (with_puts ps now)
  bare_puts [] now all bare = bare
  bare_puts (p ∷ ps) now all bare = bare_puts ps (after p now) all.1 (bare_after p now all.0 bare)

  pub bare_first : Bare R
  bare_first k none = ap blocks_of none

-- new files, at rising keys that have no data
module _ (g : Nodes) where
  abbrev file_put : ℕ × Blob → Put
  file_put b = node_put g b.0 (New b.1)

  abbrev pub blob_lens : List (ℕ × Blob) → ℕ
  blob_lens blobs = sum_by (λ b. length b.1.blocks) blobs

  abbrev pub NoData : Records → List (ℕ × Blob) → Type 0
  NoData now blobs = AllByRecursion (λ b. blocks_of (at (node_key b.0) now) ≡ 0) blobs

  -- a lower key is none of theirs
  no_data_after : (b : ℕ × Blob) (now : Records) (blobs : List (ℕ × Blob)) → AllByRecursion (λ k. nat_cmp b.0 k ≡ Less) (keys_of blobs) → NoData now blobs → NoData (after (file_put b) now) blobs
  no_data_after b now [] above none = tt
  no_data_after b now (c ∷ blobs) above none = (
    ap blocks_of (at_other (file_put b) now (node_key c.0) (λ same. (let lt = less_lt b.0 c.0 above.0 in omega (arith, lt, same)))) ∙ none.0,
    no_data_after b now blobs above.1 none.1,
  )

  pub file_lens : (blobs : List (ℕ × Blob)) (now : Records) → Sorted now → Sorted blobs → NoData now blobs → data_len (with_puts (file_puts g blobs) now) ≡ data_len now + blob_lens blobs
  unfolding IsStrictlySortedBy
  file_lens [] now sorted rising none = omega arith
  file_lens (b ∷ blobs) now sorted rising none =
      let rest = file_lens blobs (after (file_put b) now) (after_sorted (file_put b) now sorted) rising.1 (no_data_after b now blobs rising.0 none.1) in
      let here = put_len (file_put b) now sorted in
      let zero_here = none.0 in
      omega (arith, rest, here, zero_here, sum_by-cons (λ (x : ℕ × Blob). length x.1.blocks) b blobs)

  -- what files bring
  pub files_bring : (w : List ℕ → ℕ) (blobs : List (ℕ × Blob)) → sum_by (λ p. w (brought p.body)) (file_puts g blobs) ≡ sum_by (λ b. w b.1.blocks) blobs
  files_bring w [] = refl
  files_bring w (b ∷ blobs) =
      sum_by-cons (λ (p : Put). w (brought p.body)) (file_put b) (file_puts g blobs) ∙ ap (λ n. w b.1.blocks + n) (files_bring w blobs)
      ∙ sym (sum_by-cons (λ (x : ℕ × Blob). w x.1.blocks) b blobs)

-- puts that bring nothing
pub none_bring : (w : List ℕ → ℕ) → w [] ≡ 0 → (ps : List Put) → AllByRecursion (λ p. brought p.body ≡ []) ps → sum_by (λ p. w (brought p.body)) ps ≡ 0
none_bring w zero_is [] all = refl
none_bring w zero_is (p ∷ ps) all =
    let here = ap w all.0 ∙ zero_is in
    let rest = none_bring w zero_is ps all.1 in
    omega (arith, here, rest, sum_by-cons (λ (q : Put). w (brought q.body)) p ps)
