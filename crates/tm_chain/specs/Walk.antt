-- A chain that is being read.
use Rattle.std.specs.Prelude.{◌≡◌, ◌≤◌, ◌<◌, ◌+◌, ◌-◌, ◌*◌, ◌^◌, ◌↔◌, ℕ, List, ◌++◌, length, slice_index, take, drop}
use Rattle.tm_blockmap.specs.Counts.{times, IsDistinct}
use Rattle.tm_codec.specs.Fields.{u32_text}
use Rattle.tm_codec.specs.Padded.{padded}

-- the blocks so far are distinct, the text of all but the last is there, and the marks tell which blocks may follow
pub record IsWalk (blocks text marks : List ℕ) : Type 0 where
  pub some : 0 < length blocks
  pub inside : (k : ℕ) → k < length blocks → (3 ≤ slice_index blocks k) × (slice_index blocks k < length marks)
  pub distinct : IsDistinct blocks
  pub small : length marks < 2 ^ 32
  pub size : length text + 4092 ≡ 4092 * length blocks
  pub marks_are : (b : ℕ) → b < length marks → (slice_index marks b ≡ 0) ↔ ((3 ≤ b) × (times b blocks ≡ 0))

-- each block but the last has the number of the next at its front, and its part of the text
pub record IsRead (blocks text : List ℕ) (bytes : ℕ → List ℕ) : Type 0 where
  pub each : (k : ℕ) → k + 1 < length blocks → bytes (slice_index blocks k) ≡ u32_text (slice_index blocks (k + 1)) ++ take 4092 (drop (4092 * k) text)

-- the last of these blocks
abbrev pub last_of : List ℕ → ℕ
last_of blocks = slice_index blocks (length blocks - 1)

-- the last block holds the last part of the text
pub record IsLast (text whole : List ℕ) (rest : ℕ) (block : List ℕ) : Type 0 where
  pub part : List ℕ
  pub added : whole ≡ text ++ part
  pub long : length part ≡ rest
  pub holds : block ≡ padded 4096 (u32_text 0 ++ part)
