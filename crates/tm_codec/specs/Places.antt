-- What stands at a place of some bytes.
use Rattle.std.specs.Prelude.{◌≡◌, ◌+◌, ◌*◌, ℕ, List, ◌++◌, length, drop, slice_index}

-- from this place on the bytes begin with this text
abbrev pub IsTextAt : List ℕ → ℕ → List ℕ → Type 0
IsTextAt text at bytes = drop at bytes ≡ text ++ drop (at + length text) bytes

-- where a short that begins at this place ends, by its length byte
abbrev pub short_end : ℕ → List ℕ → ℕ
short_end at bytes = at + 1 + slice_index bytes at

-- where a long that begins at this place ends, by its two length bytes
abbrev pub long_end : ℕ → List ℕ → ℕ
long_end at bytes = at + 2 + (256 * slice_index bytes at + slice_index bytes (at + 1))
