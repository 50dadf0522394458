-- Big endian numbers of any length.
use Rattle.std.proofs.Common.{◌≡◌, ℕ, zero, suc, ◌+◌, ◌*◌, ◌^◌, ◌<◌, ◌≤◌, List, [], ◌∷◌, length, get_or, take, drop, replicate, fold, refl, sym, ◌∙◌, ap, arith}
use Rattle.std.proofs.lemmas.List.{take-append-drop}
use Rattle.std.proofs.lemmas.List.Sums.{fold_more, fold-append}
use Rattle.std.proofs.lemmas.Nat.{be_bytes_8, from_be_bytes-to_be_bytes_4, from_be_bytes-to_be_bytes_8}
use Rattle.std.specs.Int.{w32, w64, from_be_bytes}
use Rattle.tm_codec.specs.Fields.{u32_text, u64_text}
use Rattle.tm_gate.specs.Fields.{number}

abbrev more : ℕ → ℕ → ℕ
more n byte = n * 256 + byte

grows : (n : ℕ) (bytes : List ℕ) → n ≤ fold more n bytes
grows n [] = omega arith
grows n (b ∷ bytes) = omega (arith, grows (more n b) bytes)

pub number-take_more : (bytes : List ℕ) (i : ℕ) → i < length bytes → number (take (i + 1) bytes) ≡ number (take i bytes) * 256 + get_or bytes i 0
unfolding number
number-take_more bytes i within = fold_more more 0 bytes i 0 within

-- the number of a front is no greater
pub number-take-le : (bytes : List ℕ) (i : ℕ) → number (take i bytes) ≤ number bytes
unfolding number
number-take-le bytes i =
    let whole : fold more 0 bytes ≡ fold more (fold more 0 (take i bytes)) (drop i bytes) =
    ap (fold more 0) (sym (take-append-drop i bytes)) ∙ fold-append more 0 (take i bytes) (drop i bytes) in
    omega (arith, whole, grows (fold more 0 (take i bytes)) (drop i bytes))

zero_from : (n : ℕ) (bytes : List ℕ) → fold more n bytes ≡ 0 → (n ≡ 0) × (bytes ≡ replicate (length bytes) 0)
zero_from n [] is = (is, refl)
zero_from n (b ∷ bytes) is =
    let rest = zero_from (more n b) bytes is in
    let zero_b : b ≡ 0 = omega (arith, rest.0) in
    (omega (arith, rest.0), ap (λ x. x ∷ bytes) zero_b ∙ ap (λ xs. 0 ∷ xs) rest.1)

-- only zeros spell 0
pub zeros_from : (bytes : List ℕ) (n : ℕ) → length bytes ≡ n → number bytes ≡ 0 → bytes ≡ replicate n 0
unfolding number
zeros_from bytes n long is = (zero_from 0 bytes is).1 ∙ ap (λ k. replicate k 0) long

fold-replicate : (n : ℕ) → fold more 0 (replicate n 0) ≡ 0
fold-replicate zero = refl
fold-replicate (suc n) = fold-replicate n

pub number-replicate : (n : ℕ) → number (replicate n 0) ≡ 0
unfolding number
number-replicate n = fold-replicate n

pub number_one : (b : ℕ) → number (b ∷ []) ≡ b
unfolding number
number_one b = omega arith

four : (a b c d : ℕ) → number (a ∷ b ∷ c ∷ d ∷ []) ≡ from_be_bytes w32 (a ∷ b ∷ c ∷ d ∷ [])
unfolding number
four a b c d = omega arith

eight : (a b c d e f g h : ℕ) → number (a ∷ b ∷ c ∷ d ∷ e ∷ f ∷ g ∷ h ∷ []) ≡ from_be_bytes w64 (a ∷ b ∷ c ∷ d ∷ e ∷ f ∷ g ∷ h ∷ [])
unfolding number
eight a b c d e f g h = omega arith

pub number-u32_text : (n : ℕ) → n < 2 ^ 32 → number (u32_text n) ≡ n
unfolding u32_text
number-u32_text n fits = four _ _ _ _ ∙ from_be_bytes-to_be_bytes_4 n fits

pub number-u64_text : (n : ℕ) → n < 2 ^ 64 → number (u64_text n) ≡ n
unfolding u64_text
number-u64_text n fits = eight _ _ _ _ _ _ _ _ ∙ from_be_bytes-to_be_bytes_8 n fits

number_eight : (bytes : List ℕ) → length bytes ≡ 8 → number bytes ≡ from_be_bytes w64 bytes
number_eight [] l = absurd (omega arith)
number_eight (a ∷ []) l = absurd (omega arith)
number_eight (a ∷ b ∷ []) l = absurd (omega arith)
number_eight (a ∷ b ∷ c ∷ []) l = absurd (omega arith)
number_eight (a ∷ b ∷ c ∷ d ∷ []) l = absurd (omega arith)
number_eight (a ∷ b ∷ c ∷ d ∷ e ∷ []) l = absurd (omega arith)
number_eight (a ∷ b ∷ c ∷ d ∷ e ∷ f ∷ []) l = absurd (omega arith)
number_eight (a ∷ b ∷ c ∷ d ∷ e ∷ f ∷ g ∷ []) l = absurd (omega arith)
number_eight (a ∷ b ∷ c ∷ d ∷ e ∷ f ∷ g ∷ h ∷ []) l = eight a b c d e f g h
number_eight (a ∷ b ∷ c ∷ d ∷ e ∷ f ∷ g ∷ h ∷ x ∷ bytes) l = absurd (omega arith)

-- eight bytes are the text of their number
pub u64_text-number : (bytes : List ℕ) → length bytes ≡ 8 → ((i : ℕ) → get_or bytes i 0 < 256) → u64_text (number bytes) ≡ bytes
unfolding u64_text
u64_text-number bytes long small = be_bytes_8 bytes (number bytes) long small (number_eight bytes long)
