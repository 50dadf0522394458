-- Numbers in big endian bytes, at every width.
use Rattle.std.proofs.Common.{◌≡◌, ℕ, suc, zero, ◌+◌, ◌-◌, ◌*◌, ◌/◌, ◌%◌, ◌^◌, ◌<◌, ◌≤◌, List, [], ◌∷◌, ◌++◌, length, get_or, take, drop, refl, sym, ◌∙◌, ap, arith}
use Rattle.std.specs.Int.{bytes_high_first, byte_at, byte_worth, sum_through}
use Rattle.std.proofs.Math.Nat.{pow-suc, mul-le-mul_right}
use Rattle.std.proofs.lemmas.Nat.{div-mul-add, div_below}
use Rattle.std.proofs.lemmas.List.{take_at, drop_at}

-- what the bytes stand for
pub value : List ℕ → ℕ
value [] = 0
value (b ∷ bs) = b * 256 ^ length bs + value bs

pub length-bytes : (k n : ℕ) → length (bytes_high_first k n) ≡ k
length-bytes zero n = refl
length-bytes (suc k) n = ap suc (length-bytes k n)

pub byte_at-is : (k n : ℕ) → byte_at k n ≡ n / 256 ^ k % 256
byte_at-is zero n = omega arith
byte_at-is (suc k) n = refl

pub pos : (k : ℕ) → 0 < 256 ^ k
pos zero = omega arith
pos (suc k) = omega (arith, pow-suc 256 k, pos k)

pub split : (n p : ℕ) → 0 < p → n ≡ n / p * p + n % p
split n p h = omega arith

-- a multiple of 256 ^ k changes none of the lowest k bytes
pub low_bytes : (k q r n : ℕ) → n ≡ q * 256 ^ k + r → bytes_high_first k n ≡ bytes_high_first k r
low_bytes zero q r n is = refl
low_bytes (suc k) q r n is =
    let p : ℕ = 256 ^ k in
    let below : r % p < p = omega (arith, pos k) in
    let whole : n ≡ (q * 256 + r / p) * p + r % p = omega (arith, is, ap (λ x. q * x) (pow-suc 256 k), split r p (pos k)) in
    let high : (q * 256 + r / p) % 256 ≡ r / p % 256 = omega arith in
    let head : byte_at k n ≡ byte_at k r = byte_at-is k n ∙ ap (λ m. m / p % 256) whole ∙ ap (λ m. m % 256) (div-mul-add (q * 256 + r / p) p (r % p) below) ∙ high ∙ sym (byte_at-is k r) in
    let rest : bytes_high_first k n ≡ bytes_high_first k r = low_bytes k (q * 256 + r / p) (r % p) n whole ∙ sym (low_bytes k (r / p) (r % p) r (split r p (pos k))) in
    λ i. head i ∷ rest i

pub value-lt : (bs : List ℕ) → ((i : ℕ) → get_or bs i 0 < 256) → value bs < 256 ^ length bs
unfolding value
value-lt [] small = omega arith
value-lt (b ∷ bs) small =
    let first : b < 256 = small 0 in
    let le : b ≤ 255 = omega arith in
    omega (arith, pow-suc 256 (length bs), mul-le-mul_right (256 ^ length bs) le, value-lt bs (λ i. small (suc i)))

-- the bytes of what bytes stand for are these bytes
pub bytes-value : (bs : List ℕ) → ((i : ℕ) → get_or bs i 0 < 256) → bytes_high_first (length bs) (value bs) ≡ bs
unfolding value
bytes-value [] small = refl
bytes-value (b ∷ bs) small =
    let p : ℕ = 256 ^ length bs in
    let v : ℕ = value bs in
    let n : ℕ = b * p + v in
    let first : b < 256 = small 0 in
    let whole : b % 256 ≡ b = omega arith in
    let head : byte_at (length bs) n ≡ b = byte_at-is (length bs) n ∙ ap (λ m. m % 256) (div-mul-add b p v (value-lt bs (λ i. small (suc i)))) ∙ whole in
    let rest : bytes_high_first (length bs) n ≡ bs = low_bytes (length bs) b v n refl ∙ bytes-value bs (λ i. small (suc i)) in
    λ i. head i ∷ rest i

-- what the bytes of a number stand for is this number
pub value-bytes : (k n : ℕ) → n < 256 ^ k → value (bytes_high_first k n) ≡ n
unfolding value
value-bytes zero n below = omega arith
value-bytes (suc k) n below =
    let p : ℕ = 256 ^ k in
    let q : ℕ = n / p in
    let r : ℕ = n % p in
    let small : q < 256 = div_below n p 256 (pos k) (omega (arith, pow-suc 256 k)) in
    let whole : q % 256 ≡ q = omega arith in
    let head : byte_at k n ≡ q = byte_at-is k n ∙ whole in
    let power : 256 ^ length (bytes_high_first k n) ≡ p = ap (λ j. 256 ^ j) (length-bytes k n) in
    let within : r < p = omega (arith, pos k) in
    let rest : value (bytes_high_first k n) ≡ r = ap value (low_bytes k q r n (split n p (pos k))) ∙ value-bytes k r within in
    let all : byte_at k n * 256 ^ length (bytes_high_first k n) + value (bytes_high_first k n) ≡ q * p + r = λ i. head i * power i + rest i in
    all ∙ sym (split n p (pos k))

sum_through-first : (f : ℕ → ℕ) (k : ℕ) → sum_through f (suc k) ≡ f 0 + sum_through (λ i. f (suc i)) k
sum_through-first f zero = refl
sum_through-first f (suc k) = omega (arith, sum_through-first f k)

byte_worth-is : (i b : ℕ) → byte_worth i b ≡ b * 256 ^ i
byte_worth-is zero b = omega arith
byte_worth-is (suc i) b = refl

-- the sum by which std reads bytes
pub value-sum : (k : ℕ) (bs : List ℕ) → length bs ≡ suc k → sum_through (λ i. byte_worth (k - i) (get_or bs i 0)) k ≡ value bs
unfolding value
value-sum zero [] len = absurd (omega arith)
value-sum zero (b ∷ []) len = omega arith
value-sum zero (b ∷ c ∷ bs) len = absurd (omega arith)
value-sum (suc k) [] len = absurd (omega arith)
value-sum (suc k) (b ∷ []) len = absurd (omega arith)
value-sum (suc k) (b ∷ c ∷ bs) len =
    let less : (i : ℕ) → suc k - suc i ≡ k - i = λ i. omega arith in
    let len2 : length (c ∷ bs) ≡ suc k = omega arith in
    let all : suc k - 0 ≡ suc k = omega arith in
    sum_through-first (λ i. byte_worth (suc k - i) (get_or (b ∷ c ∷ bs) i 0)) k
    ∙ ap (λ m. m + sum_through (λ i. byte_worth (suc k - suc i) (get_or (c ∷ bs) i 0)) k) (ap (λ j. byte_worth j b) all ∙ byte_worth-is (suc k) b ∙ ap (λ j. b * 256 ^ j) (sym len2))
    ∙ ap (λ m. b * 256 ^ length (c ∷ bs) + m) ((λ j. sum_through (λ i. byte_worth (less i j) (get_or (c ∷ bs) i 0)) k) ∙ value-sum k (c ∷ bs) len2)

-- equal beginnings are of one number
pub bytes-apart : (k a b : ℕ) (x y : List ℕ) → a < 256 ^ k → b < 256 ^ k → bytes_high_first k a ++ x ≡ bytes_high_first k b ++ y → (a ≡ b) × (x ≡ y)
bytes-apart k a b x y small_a small_b same =
    let front : bytes_high_first k a ≡ bytes_high_first k b = sym (take_at (bytes_high_first k a) x k (length-bytes k a)) ∙ ap (take k) same ∙ take_at (bytes_high_first k b) y k (length-bytes k b) in (
      sym (value-bytes k a small_a) ∙ ap value front ∙ value-bytes k b small_b,
      sym (drop_at (bytes_high_first k a) x k (length-bytes k a)) ∙ ap (drop k) same ∙ drop_at (bytes_high_first k b) y k (length-bytes k b),
    )
