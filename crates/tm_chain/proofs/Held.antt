-- The bytes that blocks hold.
use Rattle.std.proofs.Common.{◌≡◌, ℕ, ◌+◌, ◌*◌, ◌/◌, ◌%◌, ◌<◌, ◌≤◌, List, length, get_or, take, drop, refl, sym, ◌∙◌, ap, arith, length-drop}
use Rattle.std.proofs.lemmas.List.{ext_get_or, get_or-take, get_or-drop, length-take-le, length-take, get_or_append_left}
use Rattle.std.proofs.lemmas.List.FromFn.{length-map-range_with_len, get_or-map-range_with_len}
use Rattle.tm_chain.specs.Blob.{FillsOn, piece_of, byte_in, bytes_in}

length-bytes_in : (blocks : List ℕ) (bytes : ℕ → List ℕ) (at count : ℕ) → length (bytes_in blocks bytes at count) ≡ count
unfolding bytes_in
length-bytes_in blocks bytes at count = length-map-range_with_len (byte_in blocks bytes) at count

get_or-bytes_in : (blocks : List ℕ) (bytes : ℕ → List ℕ) (at count i j : ℕ) → i < count → at + i ≡ j → get_or (bytes_in blocks bytes at count) i 0 ≡ byte_in blocks bytes j
unfolding bytes_in
get_or-bytes_in blocks bytes at count i j lt is = get_or-map-range_with_len (byte_in blocks bytes) at count i j 0 lt is

-- bytes are so many of what blocks hold, if it is so at each place
pub held_each : (blocks : List ℕ) (bytes : ℕ → List ℕ) (at count : ℕ) (part : List ℕ) → length part ≡ count → ((i : ℕ) → i < count → get_or part i 0 ≡ byte_in blocks bytes (at + i)) → part ≡ bytes_in blocks bytes at count
held_each blocks bytes at count part len each =
    ext_get_or 0 part (bytes_in blocks bytes at count) (len ∙ sym (length-bytes_in blocks bytes at count))
    (λ i lt. each i (omega arith) ∙ sym (get_or-bytes_in blocks bytes at count i (at + i) (omega arith) refl))

part_length : (at count : ℕ) (xs : List ℕ) → at + count ≤ length xs → length (take count (drop at xs)) ≡ count
part_length at count xs le = length-take-le count (drop at xs) (omega (arith, length-drop at xs))

part_at : (at count i : ℕ) (xs : List ℕ) → i < count → get_or (take count (drop at xs)) i 0 ≡ get_or xs (at + i) 0
part_at at count i xs lt = get_or-take count (drop at xs) i 0 lt ∙ get_or-drop at xs i 0

-- the i-th byte of blocks that bytes fill
filled_byte : (blocks blob : List ℕ) (bytes : ℕ → List ℕ) (i : ℕ) → FillsOn blocks blob bytes → length blob ≤ 4096 * length blocks → i < length blob → byte_in blocks bytes i ≡ get_or blob i 0
unfolding piece_of
filled_byte blocks blob bytes i fills enough lt =
    let k : ℕ = i / 4096 in
    let place : 4096 * k + i % 4096 ≡ i = omega arith in
    let within : k < length blocks = omega arith in
    let inside : i % 4096 < length (take 4096 (drop (4096 * k) blob)) = omega (arith, length-take 4096 (drop (4096 * k) blob), length-drop (4096 * k) blob) in
    ap (λ b. get_or b (i % 4096) 0) (fills.each k within)
    ∙ get_or_append_left (take 4096 (drop (4096 * k) blob)) _ 0 (i % 4096) inside
    ∙ part_at (4096 * k) 4096 (i % 4096) blob (omega arith) ∙ ap (λ j. get_or blob j 0) place

pub filled_is_held : (blocks blob : List ℕ) (bytes : ℕ → List ℕ) (at count : ℕ) → FillsOn blocks blob bytes → length blob ≤ 4096 * length blocks → at + count ≤ length blob → bytes_in blocks bytes at count ≡ take count (drop at blob)
filled_is_held blocks blob bytes at count fills enough le =
    sym (held_each blocks bytes at count (take count (drop at blob)) (part_length at count blob le)
    (λ i lt. part_at at count i blob lt ∙ sym (filled_byte blocks blob bytes (at + i) fills enough (omega arith))))

pub part_of_held : (blocks : List ℕ) (bytes : ℕ → List ℕ) (whole at count : ℕ) → at + count ≤ whole → take count (drop at (bytes_in blocks bytes 0 whole)) ≡ bytes_in blocks bytes at count
part_of_held blocks bytes whole at count le =
    held_each blocks bytes at count _ (part_length at count (bytes_in blocks bytes 0 whole) (omega (arith, length-bytes_in blocks bytes 0 whole)))
    (λ i lt. part_at at count i (bytes_in blocks bytes 0 whole) lt ∙ get_or-bytes_in blocks bytes 0 whole (at + i) (at + i) (omega arith) (omega arith))
