-- How long the spellings of attributes and of snapshots are.
use Rattle.std.proofs.Common.{◌≡◌, ℕ, suc, ◌+◌, ◌*◌, ◌≤◌, List, [], ◌∷◌, ◌++◌, length, arith, length-append}
use Rattle.std.specs.List.{All, sum_by, flat_map}
use Rattle.std.proofs.lemmas.List.Sums.{sum_by-cons}
use Rattle.std.proofs.lemmas.List.Concat.{length-flat_map}
use Rattle.tm_codec.specs.Fields.{u8_text, u16_text, u32_text, u64_text, u128_text, short_text, long_text}
use Rattle.tm_codec.proofs.Fields.{length-u8_text, length-u16_text, length-u32_text, length-u64_text, length-u128_text, length-short_text, length-long_text}
use Rattle.tm_tree.specs.declared.attrs.Attrs.{Attrs}
use Rattle.tm_nodes.specs.Attrs.{extra_text, attrs_text, IsExtra, IsAttrs}
use Rattle.tm_nodes.specs.Headers.{snapshot_text}
use Rattle.tm_nodes.specs.declared.snapshot.SnapshotRow.{SnapshotRow}

-- a sum of parts that are bounded each
pub sum_bounded : {X : Type 0} (f : X → ℕ) (c : ℕ) (P : X → Type 0) → ((x : X) → P x → f x ≤ c) → (xs : List X) → All P xs → sum_by f xs ≤ c * length xs
sum_bounded f c P each [] all = omega arith
sum_bounded f c P each (x ∷ xs) all =
    let more = sum_bounded f c P each xs (λ k d lt. all (suc k) d (omega arith)) in
    let one = each x (all 0 x (omega arith)) in
    omega (arith, sum_by-cons f x xs, more, one)

-- ---- attributes

pub extra_length : (x : List ℕ × List ℕ) → IsExtra x → length (extra_text x) ≤ 4354
unfolding extra_text
extra_length x is = omega (arith, length-append (short_text x.0) (long_text x.1), length-short_text x.0, length-long_text x.1, is.name.short, is.value)

pub attrs_length : (a : Attrs) → IsAttrs a → length (attrs_text a) ≤ 70000
unfolding attrs_text
attrs_length a is =
    let m = u16_text a.mode in
    let u = u32_text a.uid in
    let g = u32_text a.gid in
    let t = u64_text a.modified in
    let n = u8_text (length a.extra) in
    let x = flat_map extra_text a.extra in
    let all = sum_bounded (λ (e : List ℕ × List ℕ). length (extra_text e)) 4354 IsExtra extra_length a.extra is.each in
    omega (
      arith,
      length-append (m ++ u ++ g ++ t ++ n) x,
      length-append (m ++ u ++ g ++ t) n,
      length-append (m ++ u ++ g) t,
      length-append (m ++ u) g,
      length-append m u,
      length-u16_text a.mode,
      length-u32_text a.uid,
      length-u32_text a.gid,
      length-u64_text a.modified,
      length-u8_text (length a.extra),
      length-flat_map extra_text a.extra,
      all,
      is.few,
    )

-- ---- snapshots

pub snapshot_length : (row : SnapshotRow) → length (snapshot_text row) ≡ 49 + length row.volume
unfolding snapshot_text
snapshot_length row =
    let d = u64_text row.date in
    let i = u128_text row.id in
    let g = u64_text row.mark.generation in
    let c = u64_text row.mark.cursor in
    let v = short_text row.volume in
    let r = u64_text row.root in
    omega (
      arith,
      length-append (d ++ i ++ g ++ c ++ v) r,
      length-append (d ++ i ++ g ++ c) v,
      length-append (d ++ i ++ g) c,
      length-append (d ++ i) g,
      length-append d i,
      length-u64_text row.date,
      length-u128_text row.id,
      length-u64_text row.mark.generation,
      length-u64_text row.mark.cursor,
      length-short_text row.volume,
      length-u64_text row.root,
    )
