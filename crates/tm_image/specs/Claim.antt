-- Blocks that are claimed one after another.
use Rattle.std.specs.Prelude.{◌≡◌, ◌<◌, ◌≤◌, ◌+◌, ℕ, List, length, slice_index, take}
use Rattle.tm_blockmap.specs.Counts.{times}

-- all were free
abbrev pub IsClaimed : List ℕ → List ℕ → List ℕ → Type 0
IsClaimed blocks old new = (b : ℕ) → slice_index new b ≡ slice_index old b + times b blocks

-- those before this place were free and are distinct, and the block at it was used or stands before it
pub record IsRefused (list marks : List ℕ) (block : ℕ) : Type 0 where
  pub place : ℕ
  pub within : place < length list
  pub is : slice_index list place ≡ block
  pub again : 0 < slice_index marks block + times block (take place list)
  pub first : (b : ℕ) → slice_index marks b + times b (take place list) ≤ 1
