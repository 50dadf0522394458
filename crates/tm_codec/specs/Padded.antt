-- A part of a block.
use Rattle.std.specs.Prelude.{ℕ, ◌-◌, List, ◌++◌, length, replicate}

-- a part, and zeros up to so many bytes
abbrev pub padded : ℕ → List ℕ → List ℕ
padded n part = part ++ replicate (n - length part) 0
