-- The bytes that blocks hold, where those blocks are the same.
use Rattle.std.proofs.Common.{zero, suc, ◌≡◌, ℕ, ◌+◌, ◌/◌, ◌%◌, ◌<◌, cond, ◌==◌, List, [], ◌∷◌, length, map, get_or, refl, ap, arith}
use Rattle.std.specs.List.{range_with_len}
use Rattle.std.specs.Cmp.{unsigned_Decides}
use Rattle.std.proofs.lemmas.List.Sums.{sum_by-cons}
use Rattle.tm_blockmap.specs.Counts.{times}
use Rattle.tm_chain.specs.Blob.{blob_len, byte_in, bytes_in}

map_same : (f g : ℕ → ℕ) (from n : ℕ) → ((i : ℕ) → i < from + n → f i ≡ g i) → map f (range_with_len from n) ≡ map g (range_with_len from n)
map_same f g from zero same = refl
map_same f g from (suc n) same =
    let first = same from (omega arith) in
    let rest = map_same f g (from + 1) n (λ i lt. same i (omega arith)) in
    λ i. first i ∷ rest i

-- each place's block stands among the blocks
times-cons : (b x : ℕ) (xs : List ℕ) → times b (x ∷ xs) ≡ cond (x == b) 1 0 + times b xs
times-cons b x xs = sum_by-cons (λ (y : ℕ). cond (y == b) 1 0) x xs

stands : (blocks : List ℕ) (k : ℕ) → k < length blocks → 0 < times (get_or blocks k 0) blocks
stands [] k lt = absurd (omega (arith, lt))
stands (x ∷ xs) zero lt = let one : ◌≡◌ {A = ℕ} (cond (x == x) 1 0) 1 = ap (λ b. cond b 1 0) ((unsigned_Decides x x).1 refl) in omega (arith, one, times-cons x x xs)
stands (x ∷ xs) (suc k) lt = omega (arith, stands xs k (omega (arith, lt)), times-cons (get_or xs k 0) x xs)

pub held_same : (blocks : List ℕ) (x y : ℕ → List ℕ) (n : ℕ) → length blocks ≡ blob_len n → ((b : ℕ) → 0 < times b blocks → x b ≡ y b) → bytes_in blocks x 0 n ≡ bytes_in blocks y 0 n
unfolding bytes_in
held_same blocks x y n many same =
    map_same (byte_in blocks x) (byte_in blocks y) 0 n (λ i lt. ap (λ (bs : List ℕ). get_or bs (i % 4096) 0) (same (get_or blocks (i / 4096) 0) (stands blocks (i / 4096) (omega (arith, many)))))
