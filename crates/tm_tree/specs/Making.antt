-- What a call answers and leaves that makes a change or refuses it.
use Rattle.std.specs.Prelude.{◌≡◌, ℕ, Option, Some, None, Result, Ok, Err, List}
use Rattle.tm_base.specs.declared.refused.LineFault.{LineFault}
use Rattle.tm_base.specs.declared.refused.LineFault.TheVariants.{Refused, Fault, Memory}
use Rattle.tm_tree.specs.declared.change.Change.{Change}
use Rattle.tm_tree.specs.declared.rows.Touch.{Touch}
use Rattle.tm_tree.specs.Changes.{tests, after}
use Rattle.tm_tree.specs.Refusing.{first_refused}
use Rattle.tm_tree.specs.States.{VolumeState}
use Rattle.tm_tree.specs.Touches.{touches}

-- the change is made exactly where no test refuses it, and its touches are told; where it is refused
-- or memory is, the volume stays as it was
abbrev pub MakesChange : VolumeState → Change → Option ℕ → VolumeState → Result (List Touch) LineFault → Type 0
MakesChange v c moment new (Ok touched) =
    (first_refused (tests v.contents c moment) ≡ None)
    × (new ≡ record v { contents = after v.contents c moment })
    × (touched ≡ touches v.contents.tree c)
MakesChange v c moment new (Err (Refused why)) = (first_refused (tests v.contents c moment) ≡ Some why) × (new ≡ v)
MakesChange v c moment new (Err (Fault side)) = ⊥
MakesChange v c moment new (Err Memory) = new ≡ v
