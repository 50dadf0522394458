-- Scripts by path.
use Rattle.std.specs.Prelude.{ℕ, List, [], ◌∷◌, Option, Some, None, if◌then◌else◌, slice_index_or, drop}
use Rattle.std.specs.Option.{option_or}
use Rattle.std.specs.Str.{bytes_eq}

-- a script and the path at which it stands
pub record ScriptView : Type 0 where
  pub path : List ℕ
  pub text : List ℕ

-- what stands at a path: the last that was put there
abbrev pub scripts_in : List ScriptView → List ℕ → Option (List ℕ)
scripts_in [] path = None
scripts_in (s ∷ rest) path = option_or (scripts_in rest path) (if bytes_eq s.path path then Some s.text else None)

abbrev pub text_at : List ScriptView → ℕ → List ℕ
text_at scripts i = (slice_index_or scripts i (record { path = []; text = [] })).text

-- what is left of the script that is attached, after so many bytes were taken
abbrev pub left_in : List ScriptView → Option ℕ → ℕ → List ℕ
left_in scripts None position = []
left_in scripts (Some i) position = drop position (text_at scripts i)
