-- A set of blocks in words of 64 bits.
use Rattle.std.specs.Prelude.{◌≡◌, ◌<◌, ◌≤◌, ◌+◌, ◌-◌, ◌*◌, ◌/◌, ◌%◌, ◌^◌, ℕ, List, length, slice_index, map, sum}
use Rattle.std.specs.List.{range_with_len}
use Rattle.std.specs.Int.{bit_at}
use Rattle.tm_blockmap.specs.declared.BlockMap.TheInside.{Inside}

-- the mark of a block, a bit of its word
abbrev pub mark_in : List ℕ → ℕ → ℕ
mark_in words b = bit_at (slice_index words (b / 64)) (b % 64)

-- the marks of the blocks below `count`
unfoldable pub marks_of : ℕ → List ℕ → List ℕ
marks_of count words = map (mark_in words) (range_with_len 0 count)

-- what a map keeps: enough words and no more, none with a free block before the hint, and the number of free blocks
pub record IsBlockMap (a : Inside) : Type 0 where
  pub small : a.count < 2 ^ 32
  pub enough : a.count ≤ 64 * length a.words.items
  pub no_more : 64 * length a.words.items < a.count + 64
  pub full : (w : ℕ) → w < a.hint → slice_index a.words.items w ≡ 2 ^ 64 - 1
  pub hint : a.hint ≤ length a.words.items
  pub free : a.free + sum (marks_of a.count a.words.items) ≡ a.count
