-- The rules of a slot, as a table of its fields, and the first that is broken.
use Rattle.std.specs.Prelude.{◌≡◌, ℕ, ◌+◌, ◌-◌, ◌*◌, ◌^◌, ◌==◌, Bool, not, List, [], ◌∷◌, ◌++◌, take, drop, fold, find, slice_index, Option, Some, None, if◌then◌else◌, option_map}
use Rattle.std.specs.Int.{is_in_range}
use Rattle.tm_world.specs.declared.world.Side.{Side}
use Rattle.tm_world.specs.declared.world.Side.TheVariants.{Volume, Store}
use Rattle.tm_gate.specs.Tag.{latest}

-- a field: a number of so many bytes at an offset, with its bounds; a run of zeros is one field
pub record FieldRule : Type 0 where
  pub at : ℕ
  pub size : ℕ
  pub least : ℕ
  pub most : ℕ

abbrev pub field : ℕ → ℕ → ℕ → ℕ → FieldRule
field at size least most = record { at = at; size = size; least = least; most = most }

abbrev pub zeros : ℕ → ℕ → FieldRule
zeros at size = field at size 0 0

abbrev pub kind_of : Side → ℕ
kind_of Volume = 1
kind_of Store = 2

-- the fields of a tag; a store where no backup runs has no date
abbrev pub tag_fields : Side → ℕ → List FieldRule
tag_fields Volume clean =
    field 32 1 0 1
    ∷ zeros 33 7
    ∷ field 40 8 1 (2 ^ 62 - 1)
    ∷ field 48 8 1 (2 ^ 62)
    ∷ zeros 56 40
    ∷ []
tag_fields Store running =
    field 32 1 0 1
    ∷ zeros 33 7
    ∷ field 40 8 0 (if running == 0 then 0 else latest)
    ∷ field 48 8 1 (2 ^ 40)
    ∷ zeros 56 40
    ∷ []

-- the fields of a slot that have a rule, by rising offset, in an image of so many blocks; the sequence at 16 has none
abbrev pub fields : Side → ℕ → ℕ → List FieldRule
fields side blocks flag =
    field 8 1 (kind_of side) (kind_of side)
    ∷ field 9 1 1 1
    ∷ zeros 10 2
    ∷ field 12 4 3 (blocks - 1)
    ∷ field 24 8 1 (4092 * (blocks - 3))
    ∷ tag_fields side flag ++ zeros 96 4000 ∷ []

-- the number that bytes spell, big endian
unfoldable pub number : List ℕ → ℕ
number bytes = fold (λ n byte. n * 256 + byte) 0 bytes

-- so many bytes from an offset on
abbrev pub bytes_at : ℕ → ℕ → List ℕ → List ℕ
bytes_at at size slot = take size (drop at slot)

-- a field keeps its rule where its number is within its bounds
unfoldable pub is_kept : List ℕ → FieldRule → Bool
is_kept slot f = is_in_range f.least f.most (number (bytes_at f.at f.size slot))

-- the offset of the first of these fields whose rule is broken
abbrev pub first_broken : List FieldRule → List ℕ → Option ℕ
first_broken fs slot = option_map (λ f. f.at) (find (λ f. not (is_kept slot f)) fs)

-- no field is bad; the byte at 32 says which fields the tag of a store has
abbrev pub IsGoodSlot : Side → ℕ → List ℕ → Type 0
IsGoodSlot side blocks slot = first_broken (fields side blocks (slice_index slot 32)) slot ≡ None

-- the first bad field is at this offset
abbrev pub IsBadSlot : Side → ℕ → List ℕ → ℕ → Type 0
IsBadSlot side blocks slot place = first_broken (fields side blocks (slice_index slot 32)) slot ≡ Some place
