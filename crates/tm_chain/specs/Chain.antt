-- How a text lies on a chain of blocks.
use Rattle.std.specs.Prelude.{◌≡◌, ◌≤◌, ◌<◌, ◌+◌, ◌*◌, ◌/◌, ℕ, List, ◌++◌, length, slice_index, take, drop}
use Rattle.tm_blockmap.specs.Counts.{IsDistinct}
use Rattle.tm_codec.specs.Fields.{u32_text}
use Rattle.tm_codec.specs.Padded.{padded}
use Rattle.tm_chain.specs.Holds.{HoldsUpTo}

-- how many blocks a text has, 4,092 bytes to a block
abbrev pub chain_len : ℕ → ℕ
chain_len len = (len + 4091) / 4092

-- the k-th block of a chain: the number of the next block, 0 after the last, a part of the text, and zeros
unfoldable pub link_of : List ℕ → List ℕ → ℕ → List ℕ
link_of text blocks k = padded 4096 (u32_text (slice_index blocks (k + 1)) ++ take 4092 (drop (4092 * k) text))

-- the text lies on this chain
abbrev pub LiesOn : List ℕ → List ℕ → (ℕ → List ℕ) → Type 0
LiesOn blocks text bytes = HoldsUpTo (length blocks) blocks (link_of text blocks) bytes

-- distinct blocks from 3 on and below `total`, of which this is the first
pub record IsBlockList (first total : ℕ) (blocks : List ℕ) : Type 0 where
  pub some : 0 < length blocks
  pub starts : slice_index blocks 0 ≡ first
  pub inside : (k : ℕ) → k < length blocks → (3 ≤ slice_index blocks k) × (slice_index blocks k < total)
  pub distinct : IsDistinct blocks

-- a text of so many bytes lies on these blocks
pub record IsChain (first len total : ℕ) (blocks text : List ℕ) (bytes : ℕ → List ℕ) : Type 0 where
  pub listed : IsBlockList first total blocks
  pub size : length text ≡ len
  pub many : length blocks ≡ chain_len len
  pub lies : LiesOn blocks text bytes
