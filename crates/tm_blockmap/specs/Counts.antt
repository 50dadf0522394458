-- Lists of blocks, by how often each block stands in them.
use Rattle.std.specs.Prelude.{◌≤◌, ◌==◌, ℕ, List, count_by}

-- how often a block stands in a list
abbrev pub times : ℕ → List ℕ → ℕ
times b blocks = count_by (λ x. x == b) blocks

-- no block stands twice
abbrev pub IsDistinct : List ℕ → Type 0
IsDistinct blocks = (b : ℕ) → times b blocks ≤ 1
