-- Which of the two slots a selector names.
use Rattle.std.specs.Prelude.{ℕ, ◌+◌, ◌-◌, ◌%◌, List, slice_index}

-- the block of the slot that a selector names: 1 or 2, by the low bit of its first byte
abbrev pub named_by : List ℕ → ℕ
named_by selector = 1 + slice_index selector 0 % 2

-- the block of the slot that isn't named
abbrev pub other_slot : ℕ → ℕ
other_slot named = 3 - named

-- the slot that the selector in block 0 names
abbrev pub named_slot : (ℕ → List ℕ) → List ℕ
named_slot bytes = bytes (named_by (bytes 0))
