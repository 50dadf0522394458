-- A set of blocks, seen as a mark for each: 1 at a used block, 0 at a free one.
use Rattle.std.specs.Prelude.{◌≡◌, ◌<◌, ◌≤◌, ℕ, List, length, slice_index}

-- each mark is 0 or 1
abbrev pub AreMarks : List ℕ → Type 0
AreMarks marks = (b : ℕ) → slice_index marks b ≤ 1

-- no block is free
abbrev pub IsFull : List ℕ → Type 0
IsFull marks = (b : ℕ) → b < length marks → slice_index marks b ≡ 1

-- this block is free, and none below it
pub record IsLowestFree (marks : List ℕ) (block : ℕ) : Type 0 where
  pub within : block < length marks
  pub free : slice_index marks block ≡ 0
  pub below : (b : ℕ) → b < block → slice_index marks b ≡ 1
