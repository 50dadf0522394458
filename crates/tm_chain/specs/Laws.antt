-- What every reader of chains and blobs may rely on.
use Rattle.std.specs.Prelude.{◌≡◌, ◌≤◌, ◌+◌, ◌*◌, ◌^◌, ℕ, List, length, take, drop}
use Rattle.tm_chain.specs.Chain.{IsChain}
use Rattle.tm_chain.specs.Way.{BreaksAt}
use Rattle.tm_chain.specs.Blob.{FillsOn, bytes_in}

-- at most one chain begins at a block
abbrev pub OneChain : Type 0
OneChain = (first len total : ℕ) (blocks blocks2 text text2 : List ℕ) (bytes : ℕ → List ℕ) → total ≤ 2 ^ 32
    → IsChain first len total blocks text bytes → IsChain first len total blocks2 text2 bytes → (blocks2 ≡ blocks) × (text2 ≡ text)

-- a chain breaks no rule
abbrev pub ChainOrBreak : Type 0
ChainOrBreak = (first len total block : ℕ) (blocks text : List ℕ) (bytes : ℕ → List ℕ) → total ≤ 2 ^ 32
    → IsChain first len total blocks text bytes → BreaksAt first len total block bytes → ⊥

-- at most one block is the first that breaks a rule
abbrev pub OneBreak : Type 0
OneBreak = (first len total block block2 : ℕ) (bytes : ℕ → List ℕ) → total ≤ 2 ^ 32
    → BreaksAt first len total block bytes → BreaksAt first len total block2 bytes → block2 ≡ block

-- bytes that fill blocks are the ones that these hold
abbrev pub FilledIsHeld : Type 0
FilledIsHeld = (blocks blob : List ℕ) (bytes : ℕ → List ℕ) (at count : ℕ) → FillsOn blocks blob bytes → length blob ≤ 4096 * length blocks → at + count ≤ length blob
    → bytes_in blocks bytes at count ≡ take count (drop at blob)

-- a part of what is held is held
abbrev pub PartOfHeld : Type 0
PartOfHeld = (blocks : List ℕ) (bytes : ℕ → List ℕ) (whole at count : ℕ) → at + count ≤ whole
    → take count (drop at (bytes_in blocks bytes 0 whole)) ≡ bytes_in blocks bytes at count
