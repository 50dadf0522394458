-- Scripts.
use Rattle.std.specs.Prelude.{◌≡◌, ℕ, ◌+◌, Bool, true, false, List, [], ◌∷◌, ◌++◌, ◌==◌, length, slice_index_or, map, Option, Some, None}
use Rattle.tm_text.specs.Pieces.{lines_of, words_of}
use Rattle.tm_text.specs.Lines.{IsLine}
use Rattle.tm_text.specs.declared.line.Line.{Line}

-- a line without words, or whose first word begins with `#`
abbrev pub is_skipped : List (List ℕ) → Bool
is_skipped [] = true
is_skipped (word ∷ words) = slice_index_or word 0 0 == 0x23

-- The lines' words spell these lines, in order. What is skipped spells nothing.
pub data Spell : List (List (List ℕ)) → List Line → Type 0 where
  no_line : Spell [] []
  skipped : {words : List (List ℕ)} {more : List (List (List ℕ))} {lines : List Line}
      → is_skipped words ≡ true → Spell more lines → Spell (words ∷ more) lines
  spelled : {words : List (List ℕ)} {more : List (List (List ℕ))} {line : Line} {lines : List Line}
      → is_skipped words ≡ false → IsLine words line → Spell more lines → Spell (words ∷ more) (line ∷ lines)

-- the script is these lines
abbrev pub IsScript : List ℕ → List Line → Type 0
IsScript script lines = Spell (map words_of (lines_of script)) lines

-- the words spell no line
pub record IsBad (words : List (List ℕ)) : Type 0 where
  pub kept : is_skipped words ≡ false
  pub unread : (line : Line) → IsLine words line → ⊥

-- Line n is the first that is none.
pub record IsFirstBad (script : List ℕ) (n : ℕ) : Type 0 where
  pub before : List (List (List ℕ))
  pub bad : List (List ℕ)
  pub after : List (List (List ℕ))
  pub good : List Line
  pub lines : map words_of (lines_of script) ≡ before ++ bad ∷ after
  pub number : n ≡ length before + 1
  pub spelled : Spell before good
  pub is_bad : IsBad bad

-- what the words of one line spell: a line, or nothing where they are skipped
abbrev pub SpellsOne : List (List ℕ) → Option Line → Type 0
SpellsOne words None = is_skipped words ≡ true
SpellsOne words (Some line) = (is_skipped words ≡ false) × IsLine words line
