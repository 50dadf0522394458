-- How bytes fill blocks, and what is read of them.
use Rattle.std.specs.Prelude.{◌+◌, ◌*◌, ◌/◌, ◌%◌, ℕ, List, length, map, slice_index, take, drop}
use Rattle.std.specs.List.{range_with_len}
use Rattle.tm_codec.specs.Padded.{padded}
use Rattle.tm_chain.specs.Holds.{HoldsUpTo}

-- how many blocks so many bytes fill, 4,096 to a block
abbrev pub blob_len : ℕ → ℕ
blob_len len = (len + 4095) / 4096

-- the k-th block of a blob
unfoldable pub piece_of : List ℕ → ℕ → List ℕ
piece_of blob k = padded 4096 (take 4096 (drop (4096 * k) blob))

-- the bytes fill these blocks in order
abbrev pub FillsOn : List ℕ → List ℕ → (ℕ → List ℕ) → Type 0
FillsOn blocks blob bytes = HoldsUpTo (length blocks) blocks (piece_of blob) bytes

-- the i-th byte that these blocks hold
abbrev pub byte_in : List ℕ → (ℕ → List ℕ) → ℕ → ℕ
byte_in blocks bytes i = slice_index (bytes (slice_index blocks (i / 4096))) (i % 4096)

-- so many bytes from a place on, of those that these blocks hold
unfoldable pub bytes_in : List ℕ → (ℕ → List ℕ) → ℕ → ℕ → List ℕ
bytes_in blocks bytes at count = map (byte_in blocks bytes) (range_with_len at count)
