-- What a test does to what stands outside.
use Rattle.std.specs.Prelude.{ℕ, List, Some, if◌then◌else◌}
use Rattle.std.specs.Str.{bytes_eq}
use Rattle.tm_world.specs.Outside.{Outside}

-- a script stands at a path
abbrev pub with_script : List ℕ → List ℕ → Outside → Outside
with_script path text s = record s { scripts = λ at. if bytes_eq path at then Some text else s.scripts at }

-- there is memory for so many blocks at a path
abbrev pub with_room : List ℕ → ℕ → (List ℕ → ℕ) → List ℕ → ℕ
with_room path blocks places at = if bytes_eq path at then blocks else places at

-- the same, where nothing stands there
abbrev pub placed : List ℕ → ℕ → (List ℕ → ℕ) → Outside → List ℕ → ℕ
placed path blocks places s = if (s.stands (Some path)).there then places else with_room path blocks places
