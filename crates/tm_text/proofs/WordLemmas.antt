-- Facts on words.
use borrow.Author.Tests.{ltb-true}
use Rattle.std.specs.List.{position, position_or_len}
use Rattle.std.proofs.Common.{Bool, cond, nat_lt, Bor, zero, suc, ◌++◌, ◌^◌, get_or, ◌≡◌, ℕ, ◌<◌, ◌≤◌, ◌+◌, List, [], ◌∷◌, length, Option, Some, None, Err, refl, ap, arith, true, false}
use Rattle.std.specs.Option.{option_map}
use Rattle.std.specs.Str.Parse.{AllDigits, digits_value}
use Rattle.std.specs.Str.{IsUtf8}
use Rattle.std.proofs.lemmas.Fmt.{IsAscii-from_digits}
use Rattle.std.proofs.lemmas.Str.{IsUtf8-from_ascii}
use Rattle.std.proofs.lemmas.Int.Digits.{digits_value-lt}
use Rattle.std.proofs.Math.Nat.{pow-le-pow_right}
use Rattle.tm_text.specs.Reads.{Reads}
use Rattle.tm_text.specs.declared.error.LineError.{LineError}
use Rattle.tm_text.specs.declared.error.LineError.TheVariants as errors
use Rattle.tm_text.specs.Words.{IsNameWord, AreNames, IsMode}

-- a text that nothing reads
pub no_value : (f : List ℕ → ℕ) (o : Option (List ℕ)) → (((u : List ℕ) × (o ≡ Some u)) → ⊥) → (id : ℕ) → option_map f o ≡ Some id → ⊥
no_value f None unread id e = cc
no_value f (Some u) unread id e = unread (u, refl)

-- as many parts as names
pub length-names : (parts path : List (List ℕ)) → AreNames parts path → length parts ≡ length path
length-names [] [] h = refl
length-names (a ∷ parts) (b ∷ path) h = ap suc (length-names parts path h.1)
length-names [] (b ∷ path) h = absurd h
length-names (a ∷ parts) [] h = absurd h

-- one part more
pub AreNames-push : (parts path : List (List ℕ)) (w n : List ℕ) → AreNames parts path → IsNameWord w n → AreNames (parts ++ w ∷ []) (path ++ n ∷ [])
AreNames-push [] [] w n h is = (is, tt)
AreNames-push (a ∷ parts) (b ∷ path) w n h is = (h.0, AreNames-push parts path w n h.1 is)
AreNames-push [] (b ∷ path) w n h is = absurd h
AreNames-push (a ∷ parts) [] w n h is = absurd h

-- each part spells its name
pub AreNames-at : (parts path : List (List ℕ)) (i : ℕ) → AreNames parts path → i < length parts → IsNameWord (get_or parts i []) (get_or path i [])
AreNames-at [] [] i h low = absurd (omega arith)
AreNames-at (a ∷ parts) (b ∷ path) zero h low = h.0
AreNames-at (a ∷ parts) (b ∷ path) (suc i) h low = AreNames-at parts path i h.1 (omega arith)
AreNames-at [] (b ∷ path) i h low = absurd h
AreNames-at (a ∷ parts) [] i h low = absurd h

pub mode_small : (w : List ℕ) (n : ℕ) → IsMode w n → digits_value 8 w < 2 ^ 16
unfolding IsMode
mode_small w n is =
    let below : digits_value 8 w < 8 ^ length w = digits_value-lt 8 w is.0.1 in
    let most : 8 ^ length w ≤ 8 ^ 4 = pow-le-pow_right (omega arith) is.1 in
    omega arith

-- An error of a part is the whole's: what spells the whole has a part that spells this one.
pub Reads-err : {A B : Type 0} {P : A → Type 0} {Q : B → Type 0} (e : LineError)
    → Reads P (Err e) → ((y : B) → Q y → (x : A) × P x) → Reads Q (Err e)
Reads-err errors.Bad bad part = λ y q. let p = part y q in bad p.0 p.1
Reads-err errors.Memory bad part = tt

-- octal digits are digits
decimal_from_octal : (ds : List ℕ) → AllDigits 8 ds → AllDigits 10 ds
decimal_from_octal [] h = tt
decimal_from_octal (d ∷ ds) h = (omega (arith, h.0), decimal_from_octal ds h.1)

pub utf8_from_octal : (ds : List ℕ) → AllDigits 8 ds → IsUtf8 ds
utf8_from_octal ds h = IsUtf8-from_ascii ds (IsAscii-from_digits ds (decimal_from_octal ds h))

-- one more than the length of what is left, or 0
abbrev pub length_left : Option (Bor (List ℕ)) → ℕ
length_left None = 0
length_left (Some rest) = length rest.now + 1

first_in : (b : Bool) (m n i : ℕ) → nat_lt m n ≡ b → Some i ≡ cond b (Some m) None → (i ≡ m) × (m < n)
first_in true m n i less e = (cc, ltb-true m n less)
first_in false m n i less e = cc

pub position_some : (p : ℕ → Bool) (xs : List ℕ) (i : ℕ) → Some i ≡ position p xs → (i ≡ position_or_len p xs) × (position_or_len p xs < length xs)
position_some p xs i e = first_in (nat_lt (position_or_len p xs) (length xs)) (position_or_len p xs) (length xs) i refl e
