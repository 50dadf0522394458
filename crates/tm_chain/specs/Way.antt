-- Where a chain breaks a rule first.
use Rattle.std.specs.Prelude.{◌≡◌, ◌≤◌, ◌<◌, ◌+◌, ◌-◌, ◌*◌, ℕ, List, length, slice_index, drop, replicate}
use Rattle.tm_blockmap.specs.Counts.{times}
use Rattle.tm_codec.specs.Fields.{u32_text}
use Rattle.tm_codec.specs.Places.{IsTextAt}
use Rattle.tm_chain.specs.Chain.{IsBlockList, chain_len}

-- a block has this number at its front
abbrev pub Names : ℕ → List ℕ → Type 0
Names next block = IsTextAt (u32_text next) 0 block

-- each of these blocks has the number of the one after it at its front
pub record IsLinked (blocks : List ℕ) (bytes : ℕ → List ℕ) : Type 0 where
  pub each : (k : ℕ) → k + 1 < length blocks → Names (slice_index blocks (k + 1)) (bytes (slice_index blocks k))

-- a block between 3 and the last that the chain hasn't had yet
abbrev pub MayFollow : ℕ → List ℕ → ℕ → Type 0
MayFollow total blocks next = (3 ≤ next) × (next < total) × (times next blocks ≡ 0)

-- how much of a text stands in its last block
abbrev pub last_len : ℕ → ℕ
last_len len = len - 4092 * (chain_len len - 1)

-- a last block has the number 0 at its front, and zeros after so many bytes of text
abbrev pub EndsChain : ℕ → List ℕ → Type 0
EndsChain rest block = Names 0 block × (drop (4 + rest) block ≡ replicate (4092 - rest) 0)

-- this block is the first that breaks a rule: the way to it keeps them, and it doesn't go on where
-- another block is needed, or doesn't end the chain where it is the last
pub record BreaksAt (first len total block : ℕ) (bytes : ℕ → List ℕ) : Type 0 where
  pub way : List ℕ
  pub listed : IsBlockList first total way
  pub linked : IsLinked way bytes
  pub reaches : slice_index way (length way - 1) ≡ block
  pub within : length way ≤ chain_len len
  pub goes_on : length way < chain_len len → (next : ℕ) → Names next (bytes block) → MayFollow total way next → ⊥
  pub ends : length way ≡ chain_len len → EndsChain (last_len len) (bytes block) → ⊥
