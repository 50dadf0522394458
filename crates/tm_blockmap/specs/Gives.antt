-- Blocks that are given back.
use Rattle.std.specs.Prelude.{◌≡◌, ◌+◌, ℕ, List, length, slice_index, sum}
use Rattle.tm_blockmap.specs.Counts.{times}

-- these blocks were used, each standing once, and are free now
pub record Gives (blocks old new : List ℕ) : Type 0 where
  pub marks : (b : ℕ) → slice_index new b + times b blocks ≡ slice_index old b
  pub size : length new ≡ length old
  pub count : sum new + length blocks ≡ sum old
