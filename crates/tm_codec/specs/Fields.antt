-- How a value is spelled.
use Rattle.std.specs.Prelude.{ℕ, List, ◌++◌, length}
use Rattle.std.specs.Int.{to_be_bytes, w8, w16, w32, w64, w128}

-- a number in so many bits, big endian
unfoldable pub u8_text : ℕ → List ℕ
u8_text n = to_be_bytes w8 n

unfoldable pub u16_text : ℕ → List ℕ
u16_text n = to_be_bytes w16 n

unfoldable pub u32_text : ℕ → List ℕ
u32_text n = to_be_bytes w32 n

unfoldable pub u64_text : ℕ → List ℕ
u64_text n = to_be_bytes w64 n

unfoldable pub u128_text : ℕ → List ℕ
u128_text n = to_be_bytes w128 n

-- bytes after one byte with their number
unfoldable pub short_text : List ℕ → List ℕ
short_text part = u8_text (length part) ++ part

-- bytes after two bytes with their number
unfoldable pub long_text : List ℕ → List ℕ
long_text part = u16_text (length part) ++ part
