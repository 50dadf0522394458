-- What the grammar of scripts keeps.
use Rattle.std.specs.Prelude.{◌≡◌, ℕ, ◌<◌, List, [], ◌∷◌, All}
use Rattle.tm_text.specs.Script.{IsScript, IsFirstBad}
use Rattle.tm_text.specs.Bounds.{IsValidLine}
use Rattle.tm_text.specs.declared.line.Line.{Line}

-- a script is one list of lines at most
abbrev pub OneMeaning : Type 0
OneMeaning = (script : List ℕ) (x y : List Line) → IsScript script x → IsScript script y → x ≡ y

-- a script with a first bad line is no list of lines
abbrev pub BadIsOutside : Type 0
BadIsOutside = (script : List ℕ) (n : ℕ) (lines : List Line) → IsFirstBad script n → IsScript script lines → ⊥

-- a script has one first bad line at most
abbrev pub OneFirstBadLine : Type 0
OneFirstBadLine = (script : List ℕ) (m n : ℕ) → IsFirstBad script m → IsFirstBad script n → m ≡ n

-- each value of each line of a script is within its bounds
abbrev pub LinesAreValid : Type 0
LinesAreValid = (script : List ℕ) (lines : List Line) → All (λ b. b < 256) script → IsScript script lines → All IsValidLine lines

-- a line whose values are within their bounds is the one line of some script
abbrev pub ValidLinesAreWritten : Type 0
ValidLinesAreWritten = (line : Line) → IsValidLine line → (script : List ℕ) × IsScript script (line ∷ [])
