-- Small facts on options, truth values and lists that several crates use.
use Rattle.std.proofs.Common.{◌≡◌, suc, zero, ◌-◌, ◌&&◌, Bool, true, false, List, [], ◌∷◌, length, slice_get, Option, Some, None, is_some, refl, ap, ◌∙◌, arith}
use Rattle.std.specs.List.{All, last_or}

pub some_is : {X : Type 0} (a b : X) → Some a ≡ Some b → a ≡ b
some_is a b e = cc

pub none_some : {X P : Type 0} {x : X} → None ≡ Some x → P
none_some e = cc

pub false_true : {P : Type 0} → false ≡ true → P
false_true e = cc

pub true_false : {P : Type 0} → true ≡ false → P
true_false e = cc

-- what is there
pub some_there : {X : Type 0} (o : Option X) → is_some o ≡ true → (x : X) × (o ≡ Some x)
some_there None t = absurd (cc t)
some_there (Some x) t = (x, refl)

pub both_true : (a b : Bool) → (a && b) ≡ true → (a ≡ true) × (b ≡ true)
both_true true b t = (refl, t)
both_true false b t = cc

pub true_both : (a b : Bool) → a ≡ true → b ≡ true → (a && b) ≡ true
true_both a b s t = rw (s, t)

-- a list of one
pub all_one : {X : Type 0} (P : X → Type 0) (a : X) → P a → All P (a ∷ [])
all_one P a has zero d lt = has
all_one P a has (suc k) d lt = absurd (omega (arith, lt))

-- the last of a list
pub last_there : {X : Type 0} (o : Option X) (x : X) (xs : List X) → slice_get (x ∷ xs) (length xs) ≡ last_or o (x ∷ xs)
last_there o x [] = refl
last_there o x (y ∷ ys) = last_there (Some x) y ys

pub last_is : {X : Type 0} (xs : List X) → slice_get xs (length xs - 1) ≡ last_or None xs
last_is [] = refl
last_is (x ∷ xs) =
    let below : suc (length xs) - 1 ≡ length xs = omega arith in
    ap (slice_get (x ∷ xs)) below ∙ last_there None x xs
