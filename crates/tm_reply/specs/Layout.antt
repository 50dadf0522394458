-- How words make a line.
use Rattle.std.specs.Prelude.{ℕ, List, [], ◌∷◌, ◌++◌}

-- the words with a blank between them
abbrev pub spaced : List (List ℕ) → List ℕ
spaced [] = []
spaced (word ∷ []) = word
spaced (word ∷ next ∷ words) = word ++ 0x20 ∷ spaced (next ∷ words)

-- the words with a blank between them, and the end of the line
abbrev pub line_of : List (List ℕ) → List ℕ
line_of [] = 0x0A ∷ []
line_of (word ∷ []) = word ++ 0x0A ∷ []
line_of (word ∷ next ∷ words) = word ++ 0x20 ∷ line_of (next ∷ words)
