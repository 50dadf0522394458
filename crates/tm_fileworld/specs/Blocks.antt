-- Blocks and bytes.
use Rattle.std.specs.Prelude.{ℕ, ◌*◌, ◌/◌, min}
use Rattle.tm_base.specs.Limits.{block_bytes, max_blocks}

-- how many whole blocks are in so many bytes, up to the most
abbrev pub whole_blocks : ℕ → ℕ
whole_blocks bytes = min (bytes / block_bytes) max_blocks

-- where a block begins in its file; also how many bytes so many blocks have
abbrev pub first_byte : ℕ → ℕ
first_byte block = block_bytes * block
