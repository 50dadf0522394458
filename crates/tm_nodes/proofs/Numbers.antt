-- Numbers, the highest byte first.
use Rattle.std.proofs.Common.{◌≡◌, ℕ, suc, zero, ◌+◌, ◌*◌, ◌/◌, ◌%◌, ◌^◌, ◌<◌, ◌≤◌, Bool, true, false, cond, ltb, List, [], ◌∷◌, ◌++◌, Some, None, refl, sym, ◌∙◌, ap, subst, arith}
use Rattle.std.specs.Int.{bytes_high_first, byte_at}
use Rattle.std.proofs.Math.Nat.{pow-suc, mul-le-mul_right}
use Rattle.std.proofs.lemmas.Nat.{div-mul-add, div_below}
use Rattle.std.proofs.lemmas.List.{append-nil}
use Rattle.std.proofs.lemmas.Bool.{ltb-true, lt-ltb}
use Rattle.tm_codec.proofs.BigEndian.{byte_at-is, pos, split, low_bytes}
use Rattle.tm_codec.specs.Fields.{u8_text, u16_text, u32_text, u64_text, u128_text}
use Rattle.tm_nodes.specs.Reading.{next_byte, number_at, u8_at, u16_at, u32_at, u64_at, u128_at}
use Rattle.tm_nodes.proofs.Formats.{Takes, IsReader, alike, then_reads, done_reads}

next_byte_reads : IsReader next_byte (λ b. b < 256) (λ b. b ∷ [])
unfolding next_byte
next_byte_reads = record { takes = taken; again = given }
  where
    chosen : (test : Bool) (b : ℕ) (bytes : List ℕ) (x : ℕ × List ℕ) → ltb b 256 ≡ test → cond test (Some (b, bytes)) None ≡ Some x → (x.0 < 256) × Takes (b ∷ bytes) (x.0 ∷ []) x.1
    chosen true b bytes x is e =
        let same : (b, bytes) ≡ x = cc in
        subst (λ (y : ℕ × List ℕ). (y.0 < 256) × Takes (b ∷ bytes) (y.0 ∷ []) y.1) same (ltb-true b 256 is, record { is = refl })
    chosen false b bytes x is e = cc

    taken : (bytes : List ℕ) (x : ℕ × List ℕ) → next_byte bytes ≡ Some x → (x.0 < 256) × Takes bytes (x.0 ∷ []) x.1
    taken [] x e = cc
    taken (b ∷ bytes) x e = chosen (ltb b 256) b bytes x refl e

    given : (b : ℕ) (rest : List ℕ) → b < 256 → next_byte (b ∷ rest) ≡ Some (b, rest)
    given b rest small = ap (λ t. cond t (Some (b, rest)) None) (lt-ltb b 256 small)

div_is : (p high low n : ℕ) → low < p → n ≡ high * p + low → n / p ≡ high
div_is p high low n small is = ap (λ m. m / p) is ∙ div-mul-add high p low small

rem_is : (p high low n : ℕ) → low < p → n ≡ high * p + low → n % p ≡ low
rem_is p high low n small is = omega (arith, split n p (omega arith), ap (λ q. q * p) (div_is p high low n small is))

-- the bytes of a number, the highest and the others
parted : (k n : ℕ) → n < 256 ^ suc k → (n / 256 ^ k ∷ []) ++ (bytes_high_first k (n % 256 ^ k) ++ []) ≡ bytes_high_first (suc k) n
parted k n small =
    let p : ℕ = 256 ^ k in
    let q : ℕ = n / p in
    let below : q < 256 = div_below n p 256 (pos k) (omega (arith, pow-suc 256 k)) in
    let whole : q % 256 ≡ q = omega arith in
    let head : q ≡ byte_at k n = sym (byte_at-is k n ∙ whole) in
    let rest : bytes_high_first k (n % p) ++ [] ≡ bytes_high_first k n = append-nil (bytes_high_first k (n % p)) ∙ sym (low_bytes k q (n % p) n (split n p (pos k))) in
    λ i. head i ∷ rest i

pub number_reads : (k : ℕ) → IsReader (number_at k) (λ n. n < 256 ^ k) (bytes_high_first k)
unfolding number_at
number_reads zero = alike (done_reads 0) (λ n e. omega (arith, e)) (λ n small. omega arith) (λ n small. refl)
number_reads (suc k) =
    let p : ℕ = 256 ^ k in
    alike
    (then_reads (λ n. n / p) next_byte_reads
    (λ high. then_reads (λ n. n % p) (number_reads k) (λ low. done_reads (high * p + low)) (λ low n small e. rem_is p high low n small e))
    (λ high n small kept. div_is p high (n % p) n kept.0 kept.1))
    (λ n kept. let high : n / p ≤ 255 = omega (arith, kept.0) in omega (arith, kept.1.0, kept.1.1, pow-suc 256 k, mul-le-mul_right p high))
    (λ n small. (div_below n p 256 (pos k) (omega (arith, pow-suc 256 k)), (omega (arith, pos k), split n p (pos k))))
    (λ n small. parted k n small)

pub u8_reads : IsReader u8_at (λ n. n < 2 ^ 8) u8_text
unfolding u8_at u8_text
u8_reads = number_reads 1

pub u16_reads : IsReader u16_at (λ n. n < 2 ^ 16) u16_text
unfolding u16_at u16_text
u16_reads = number_reads 2

pub u32_reads : IsReader u32_at (λ n. n < 2 ^ 32) u32_text
unfolding u32_at u32_text
u32_reads = number_reads 4

pub u64_reads : IsReader u64_at (λ n. n < 2 ^ 64) u64_text
unfolding u64_at u64_text
u64_reads = number_reads 8

pub u128_reads : IsReader u128_at (λ n. n < 2 ^ 128) u128_text
unfolding u128_at u128_text
u128_reads = number_reads 16
