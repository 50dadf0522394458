-- Words as they are printed.
use Rattle.std.specs.Prelude.{ℕ, ◌+◌, ◌/◌, ◌%◌, ◌||◌, ◌==◌, Bool, List, [], ◌∷◌, false, if◌then◌else◌, nat_le, nat_lt, codes}
use Rattle.std.specs.List.{flat_map}
use Rattle.std.specs.Fmt.{digits}
use Rattle.std.specs.Int.{w128, to_be_bytes}
use Rattle.uuid.specs.Text.{hyphenated_text, lower}

-- the byte is printed as an escape: 0x00 to 0x20, `%`, and from 0x7F on
abbrev pub is_escaped : ℕ → Bool
is_escaped b = nat_le b 0x20 || (b == 0x25) || nat_le 0x7F b

-- a hexadecimal digit in upper case
abbrev pub upper_digit : ℕ → ℕ
upper_digit d = if nat_lt d 10 then 48 + d else 55 + d

-- a byte as it is printed: itself, or `%` and two digits
abbrev pub printed_byte : ℕ → List ℕ
printed_byte b = if is_escaped b then 0x25 ∷ upper_digit (b / 16) ∷ upper_digit (b % 16) ∷ [] else b ∷ []

-- bytes as they are printed in a word
unfoldable pub printed_word : List ℕ → List ℕ
printed_word bytes = flat_map printed_byte bytes

-- a path as it is printed: `/`, or each name after a `/`
unfoldable pub printed_path : List (List ℕ) → List ℕ
printed_path [] = codes "/"
printed_path (name ∷ names) = flat_map (λ n. 0x2F ∷ printed_word n) (name ∷ names)

-- an id as it is printed: hyphenated, in lower case
unfoldable pub printed_id : ℕ → List ℕ
printed_id id = hyphenated_text lower (to_be_bytes w128 id)

-- a number in octal digits, without leading zeros
unfoldable pub printed_octal : ℕ → List ℕ
printed_octal n = digits 8 false n
