-- Fields at a place.
use Rattle.std.proofs.Common.{◌≡◌, ℕ, suc, ◌+◌, ◌-◌, ◌^◌, ◌<◌, ◌≤◌, List, ◌++◌, length, get_or, take, drop, refl, ◌*◌, ◌%◌, [], ◌∷◌, sym, ◌∙◌, ap, subst, arith, length-append, length-drop, ⊎_elim, append_assoc, Fits, w8}
use Rattle.std.specs.Int.{bytes_high_first, byte_worth, sum_through}
use Rattle.std.proofs.lemmas.Bool.{cases_lt}
use Rattle.std.proofs.lemmas.List.{get_or_past, take_at, drop_at, drop-drop}
use Rattle.std.proofs.lemmas.List.Prefix.{at_reads}
use Rattle.tm_codec.specs.Fields.{u8_text, u16_text, u32_text, u64_text, u128_text, short_text, long_text}
use Rattle.tm_codec.specs.Places.{IsTextAt}
use Rattle.tm_codec.proofs.BigEndian.{length-bytes, bytes-value, value-sum, bytes-apart}

-- a text that isn't empty ends before the bytes do
pub IsTextAt-fits : (text bytes : List ℕ) (at : ℕ) → 1 ≤ length text → IsTextAt text at bytes → at + length text ≤ length bytes
IsTextAt-fits text bytes at some stands = omega (arith, ap length stands, length-append text (drop (at + length text) bytes), length-drop at bytes)

-- a part of bytes is bytes
part_bytes : (bytes part : List ℕ) (at : ℕ) (rest : List ℕ) → ((i : ℕ) → Fits w8 (get_or bytes i 0)) → drop at bytes ≡ part ++ rest → (i : ℕ) → get_or part i 0 < 256
part_bytes bytes part at rest small is i = ⊎_elim
    (λ (lt : i < length part). subst (λ n. n < 256) (at_reads 0 bytes part at rest is i lt) (omega (arith, small (at + i))))
    (λ (le : length part ≤ i). omega (arith, get_or_past part i 0 le))
    (cases_lt i (length part))

-- a number that was read from these bytes
module _ (k at n : ℕ) (bytes part : List ℕ) (small : (i : ℕ) → Fits w8 (get_or bytes i 0)) (len : length part ≡ suc k) (stands : drop at bytes ≡ part ++ drop (at + suc k) bytes)
    (is : n ≡ sum_through (λ i. byte_worth (k - i) (get_or part i 0)) k) where
  spelled : bytes_high_first (suc k) n ≡ part
  spelled = ap (λ j. bytes_high_first j n) (sym len) ∙ ap (bytes_high_first (length part)) (is ∙ value-sum k part len) ∙ bytes-value part (part_bytes bytes part at (drop (at + suc k) bytes) small stands)

  pub number-stands : IsTextAt (bytes_high_first (suc k) n) at bytes
  number-stands = stands ∙ ap (λ t. t ++ drop (at + suc k) bytes) (sym spelled) ∙ ap (λ j. bytes_high_first (suc k) n ++ drop (at + j) bytes) (sym (length-bytes (suc k) n))

  pub number-read : (m : ℕ) → n < 256 ^ suc k → m < 256 ^ suc k → IsTextAt (bytes_high_first (suc k) m) at bytes → n ≡ m
  number-read m small_n small_m other = (bytes-apart (suc k) n m _ _ small_n small_m (sym number-stands ∙ other)).0

-- no number stands past the end
pub number-none : (k at m : ℕ) (bytes : List ℕ) → length bytes < at + suc k → IsTextAt (bytes_high_first (suc k) m) at bytes → ⊥
number-none k at m bytes ends stands = absurd (omega (arith, IsTextAt-fits (bytes_high_first (suc k) m) bytes at (omega (arith, length-bytes (suc k) m)) stands, length-bytes (suc k) m))

-- how long a spelling is
pub length-u8_text : (n : ℕ) → length (u8_text n) ≡ 1
unfolding u8_text
length-u8_text n = refl

pub length-u16_text : (n : ℕ) → length (u16_text n) ≡ 2
unfolding u16_text
length-u16_text n = refl

pub length-u32_text : (n : ℕ) → length (u32_text n) ≡ 4
unfolding u32_text
length-u32_text n = refl

pub length-u64_text : (n : ℕ) → length (u64_text n) ≡ 8
unfolding u64_text
length-u64_text n = refl

pub length-u128_text : (n : ℕ) → length (u128_text n) ≡ 16
unfolding u128_text
length-u128_text n = refl

pub length-short_text : (part : List ℕ) → length (short_text part) ≡ 1 + length part
unfolding short_text
length-short_text part = omega (arith, length-append (u8_text (length part)) part, length-u8_text (length part))

pub length-long_text : (part : List ℕ) → length (long_text part) ≡ 2 + length part
unfolding long_text
length-long_text part = omega (arith, length-append (u16_text (length part)) part, length-u16_text (length part))

-- equal beginnings are of one value, and the rest is the same
pub apart-u8 : (a b : ℕ) (x y : List ℕ) → a < 2 ^ 8 → b < 2 ^ 8 → u8_text a ++ x ≡ u8_text b ++ y → (a ≡ b) × (x ≡ y)
unfolding u8_text
apart-u8 a b x y small_a small_b same = bytes-apart 1 a b x y small_a small_b same

pub apart-u16 : (a b : ℕ) (x y : List ℕ) → a < 2 ^ 16 → b < 2 ^ 16 → u16_text a ++ x ≡ u16_text b ++ y → (a ≡ b) × (x ≡ y)
unfolding u16_text
apart-u16 a b x y small_a small_b same = bytes-apart 2 a b x y small_a small_b same

pub apart-u32 : (a b : ℕ) (x y : List ℕ) → a < 2 ^ 32 → b < 2 ^ 32 → u32_text a ++ x ≡ u32_text b ++ y → (a ≡ b) × (x ≡ y)
unfolding u32_text
apart-u32 a b x y small_a small_b same = bytes-apart 4 a b x y small_a small_b same

pub apart-u64 : (a b : ℕ) (x y : List ℕ) → a < 2 ^ 64 → b < 2 ^ 64 → u64_text a ++ x ≡ u64_text b ++ y → (a ≡ b) × (x ≡ y)
unfolding u64_text
apart-u64 a b x y small_a small_b same = bytes-apart 8 a b x y small_a small_b same

pub apart-u128 : (a b : ℕ) (x y : List ℕ) → a < 2 ^ 128 → b < 2 ^ 128 → u128_text a ++ x ≡ u128_text b ++ y → (a ≡ b) × (x ≡ y)
unfolding u128_text
apart-u128 a b x y small_a small_b same = bytes-apart 16 a b x y small_a small_b same

-- after equal lengths the parts and the rest are the same
parted : (a b x y : List ℕ) → length a ≡ length b → a ++ x ≡ b ++ y → (a ≡ b) × (x ≡ y)
parted a b x y len same = (
  sym (take_at a x (length b) len) ∙ ap (take (length b)) same ∙ take_at b y (length b) refl,
  sym (drop_at a x (length b) len) ∙ ap (drop (length b)) same ∙ drop_at b y (length b) refl,
)

pub apart-short : (a b x y : List ℕ) → length a < 2 ^ 8 → length b < 2 ^ 8 → short_text a ++ x ≡ short_text b ++ y → (a ≡ b) × (x ≡ y)
unfolding short_text
apart-short a b x y small_a small_b same =
    let both = apart-u8 (length a) (length b) (a ++ x) (b ++ y) small_a small_b (sym (append_assoc (u8_text (length a)) a x) ∙ same ∙ append_assoc (u8_text (length b)) b y) in
    parted a b x y both.0 both.1

pub apart-long : (a b x y : List ℕ) → length a < 2 ^ 16 → length b < 2 ^ 16 → long_text a ++ x ≡ long_text b ++ y → (a ≡ b) × (x ≡ y)
unfolding long_text
apart-long a b x y small_a small_b same =
    let both = apart-u16 (length a) (length b) (a ++ x) (b ++ y) small_a small_b (sym (append_assoc (u16_text (length a)) a x) ∙ same ∙ append_assoc (u16_text (length b)) b y) in
    parted a b x y both.0 both.1

-- a spelling stands where it was put
pub read_again : (text front rest : List ℕ) → IsTextAt text (length front) (front ++ text ++ rest)
read_again text front rest =
    let all : front ++ text ++ rest ≡ front ++ (text ++ rest) = append_assoc front text rest in
    ap (drop (length front)) all ∙ drop_at front (text ++ rest) (length front) refl
    ∙ ap (λ r. text ++ r) (sym (drop_at (front ++ text) rest (length front + length text) (length-append front text)))

-- a part after a front
after_front : (front part bytes : List ℕ) (at w count : ℕ) → length front ≡ w → length part ≡ count → IsTextAt front at bytes → drop (at + w) bytes ≡ part ++ drop (at + w + count) bytes → IsTextAt (front ++ part) at bytes
after_front front part bytes at w count len many stands rest =
    let place : at + w + count ≡ at + length (front ++ part) = omega (arith, length-append front part) in
    stands ∙ ap (λ j. front ++ drop (at + j) bytes) len ∙ ap (λ r. front ++ r) rest
    ∙ sym (append_assoc front part (drop (at + w + count) bytes)) ∙ ap (λ j. front ++ part ++ drop j bytes) place

front_first : (front part bytes : List ℕ) (at : ℕ) → IsTextAt (front ++ part) at bytes → IsTextAt front at bytes
front_first front part bytes at stands =
    let all : drop at bytes ≡ front ++ (part ++ drop (at + length (front ++ part)) bytes) = stands ∙ append_assoc front part (drop (at + length (front ++ part)) bytes) in
    all ∙ ap (λ r. front ++ r) (sym (drop_at front (part ++ drop (at + length (front ++ part)) bytes) (length front) refl) ∙ ap (drop (length front)) (sym all) ∙ drop-drop (length front) at bytes ∙ ap (λ j. drop j bytes) (omega arith))

-- a short that was read from these bytes
module _ (bytes : List ℕ) (at count : ℕ) (small : count < 2 ^ 8) (front : IsTextAt (u8_text count) at bytes) where
  pub short_count : count ≡ get_or bytes at 0
  unfolding u8_text
  short_count =
      let here : at + 0 ≡ at = omega arith in
      omega (arith, ap (λ j. get_or bytes j 0) here, at_reads 0 bytes (u8_text count) at _ front 0 (omega arith))

  pub short-stands : (part : List ℕ) → length part ≡ count → drop (at + 1) bytes ≡ part ++ drop (at + 1 + count) bytes → (length part < 2 ^ 8) × IsTextAt (short_text part) at bytes
  unfolding short_text
  short-stands part len rest = (
    omega arith,
    subst (λ n. IsTextAt (u8_text n ++ part) at bytes) (sym len) (after_front (u8_text count) part bytes at 1 count (length-u8_text count) len front rest),
  )

  pub short-read : (part other : List ℕ) → length part ≡ count → drop (at + 1) bytes ≡ part ++ drop (at + 1 + count) bytes → length other < 2 ^ 8 → IsTextAt (short_text other) at bytes → part ≡ other
  short-read part other len rest fits stands =
      let here = short-stands part len rest in
      (apart-short part other _ _ here.0 fits (sym here.1 ∙ stands)).0

  pub short-none : (other : List ℕ) → length bytes < at + 1 + count → length other < 2 ^ 8 → IsTextAt (short_text other) at bytes → ⊥
  unfolding short_text
  short-none other ends fits stands =
      let same : count ≡ length other = (apart-u8 count (length other) _ _ small fits (sym front ∙ front_first (u8_text (length other)) other bytes at stands)).0 in
      absurd (omega (arith, IsTextAt-fits (short_text other) bytes at (omega (arith, length-short_text other)) stands, length-short_text other))

pub short-missing : (bytes other : List ℕ) (at : ℕ) → length bytes < at + 1 → IsTextAt (short_text other) at bytes → ⊥
short-missing bytes other at ends stands = absurd (omega (arith, IsTextAt-fits (short_text other) bytes at (omega (arith, length-short_text other)) stands, length-short_text other))

-- a long that was read from these bytes
module _ (bytes : List ℕ) (at count : ℕ) (small : count < 2 ^ 16) (front : IsTextAt (u16_text count) at bytes) where
  pub long_count : count ≡ 256 * get_or bytes at 0 + get_or bytes (at + 1) 0
  unfolding u16_text
  long_count =
      let here : at + 0 ≡ at = omega arith in
      omega (arith, ap (λ j. get_or bytes j 0) here, at_reads 0 bytes (u16_text count) at _ front 0 (omega arith), at_reads 0 bytes (u16_text count) at _ front 1 (omega arith))

  pub long-stands : (part : List ℕ) → length part ≡ count → drop (at + 2) bytes ≡ part ++ drop (at + 2 + count) bytes → (length part < 2 ^ 16) × IsTextAt (long_text part) at bytes
  unfolding long_text
  long-stands part len rest = (
    omega arith,
    subst (λ n. IsTextAt (u16_text n ++ part) at bytes) (sym len) (after_front (u16_text count) part bytes at 2 count (length-u16_text count) len front rest),
  )

  pub long-read : (part other : List ℕ) → length part ≡ count → drop (at + 2) bytes ≡ part ++ drop (at + 2 + count) bytes → length other < 2 ^ 16 → IsTextAt (long_text other) at bytes → part ≡ other
  long-read part other len rest fits stands =
      let here = long-stands part len rest in
      (apart-long part other _ _ here.0 fits (sym here.1 ∙ stands)).0

  pub long-none : (other : List ℕ) → length bytes < at + 2 + count → length other < 2 ^ 16 → IsTextAt (long_text other) at bytes → ⊥
  unfolding long_text
  long-none other ends fits stands =
      let same : count ≡ length other = (apart-u16 count (length other) _ _ small fits (sym front ∙ front_first (u16_text (length other)) other bytes at stands)).0 in
      absurd (omega (arith, IsTextAt-fits (long_text other) bytes at (omega (arith, length-long_text other)) stands, length-long_text other))

pub long-missing : (bytes other : List ℕ) (at : ℕ) → length bytes < at + 2 → IsTextAt (long_text other) at bytes → ⊥
long-missing bytes other at ends stands = absurd (omega (arith, IsTextAt-fits (long_text other) bytes at (omega (arith, length-long_text other)) stands, length-long_text other))

-- a length and a part, one after the other
pub short_added : (out part mid new start : List ℕ) → length part < 2 ^ 8 → start ≡ out → mid ≡ start ++ length part ∷ [] → new ≡ mid ++ part → new ≡ out ++ short_text part
unfolding u8_text short_text
short_added out part mid new start fits begun first second =
    let whole : length part ≡ length part % 256 = omega arith in
    second ∙ ap (λ t. t ++ part) (first ∙ ap (λ o. o ++ length part ∷ []) begun) ∙ append_assoc out (length part ∷ []) part ∙ ap (λ n. out ++ (n ∷ [] ++ part)) whole

pub long_added : (out part front mid new start : List ℕ) → length part < 2 ^ 16 → front ≡ bytes_high_first 2 (length part) → start ≡ out → mid ≡ start ++ front → new ≡ mid ++ part → new ≡ out ++ long_text part
unfolding u16_text long_text
long_added out part front mid new start fits is begun first second =
    second ∙ ap (λ t. t ++ part) (first ∙ ap (λ o. o ++ front) begun) ∙ append_assoc out front part ∙ ap (λ f. out ++ (f ++ part)) is
