-- Blocks that are taken.
use Rattle.std.specs.Prelude.{◌≡◌, ℕ, List, [], ◌∷◌, slice_set}
use Rattle.tm_blockmap.specs.Marks.{IsLowestFree}

-- these were the lowest free blocks, one after another, and are used now
abbrev pub Takes : List ℕ → List ℕ → List ℕ → Type 0
Takes [] old new = new ≡ old
Takes (b ∷ bs) old new = IsLowestFree old b × Takes bs (slice_set old b 1) new
