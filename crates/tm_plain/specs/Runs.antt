-- The rows at a path and beneath it stand together.
use Rattle.std.specs.Prelude.{if◌then◌else◌, List, [], ◌∷◌}
use Rattle.tm_base.specs.Paths.{Names, is_prefix}

-- the rows at p and beneath it with which a list begins
abbrev pub run_beneath : {X : Type 0} → Names → List (Names × X) → List (Names × X)
run_beneath p [] = []
run_beneath p (row ∷ t) = if is_prefix p row.0 then row ∷ run_beneath p t else []
