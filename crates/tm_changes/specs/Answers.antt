-- What a change answers.
use Rattle.std.specs.Prelude.{◌≡◌, ℕ, Option, Some, None, Result, Ok, Err, List}
use Rattle.tm_base.specs.declared.refused.Side.{Side}
use Rattle.tm_base.specs.declared.refused.LineFault.{LineFault}
use Rattle.tm_base.specs.declared.refused.LineFault.TheVariants.{Refused as RefusedFor, Fault, Memory}
use Rattle.tm_tree.specs.declared.change.Change.{Change}
use Rattle.tm_tree.specs.declared.rows.Touch.{Touch}
use Rattle.tm_tree.specs.Refusing.{first_refused}
use Rattle.tm_tree.specs.Touches.{touches}
use Rattle.tm_changes.specs.Changes.{change_tests, changed}
use Rattle.tm_volume.specs.Stored.{StoredVolume}

-- a change: made exactly where no test refuses it, and refused without a change where one does
abbrev pub MeetsChange : ℕ → StoredVolume → Change → Option ℕ → StoredVolume → Result (List Touch) LineFault → Type 0
MeetsChange blocks old c moment new (Ok found) =
    (first_refused (change_tests blocks old c moment) ≡ None) × (found ≡ touches old.volume.contents.tree c) × (new ≡ changed old c moment)
MeetsChange blocks old c moment new (Err (RefusedFor why)) = (first_refused (change_tests blocks old c moment) ≡ Some why) × (new ≡ old)
MeetsChange blocks old c moment new (Err (Fault side)) = side ≡ Side.Volume
MeetsChange blocks old c moment new (Err Memory) = new ≡ old
