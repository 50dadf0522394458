-- A change of a volume on its image: when it is refused, and what it makes.
use Rattle.std.specs.Prelude.{ℕ, ◌≤◌, false, Option, Some, None, ◌++◌, length}
use Rattle.tm_base.specs.declared.refused.Refused.{Refused}
use Rattle.tm_chain.specs.Blob.{blob_len}
use Rattle.tm_nodes.specs.Targets.{IsTarget}
use Rattle.tm_tree.specs.declared.change.Change.{Change}
use Rattle.tm_tree.specs.declared.change.Change.TheVariants as change
use Rattle.tm_tree.specs.Changes as contents
use Rattle.tm_tree.specs.Contents.{Contents}
use Rattle.tm_tree.specs.Refusing.{Tests, first_refused}
use Rattle.tm_tree.specs.States.{VolumeState}
use Rattle.tm_changes.specs.Fitting.{room_tests, staged_len}
use Rattle.tm_volume.specs.Stored.{StoredVolume}
use Rattle.tm_base.specs.Limits.{max_value_bytes}

abbrev pub with_contents : VolumeState → Contents → VolumeState
with_contents v c = record { name = v.name; id = v.id; capacity = v.capacity; generation = v.generation; contents = c }

-- the volume after a change that is made: the mark is off, and no journal is kept
abbrev pub changed : StoredVolume → Change → Option ℕ → StoredVolume
changed s c moment = record { volume = with_contents s.volume (contents.after s.volume.contents c moment); clean = false; journal = None }

-- the refusals of a change in an image of so many blocks: the lack of room is the last
abbrev pub change_tests : ℕ → StoredVolume → Change → Option ℕ → Tests
change_tests blocks s c moment =
    contents.tests s.volume.contents c moment ++ room_tests blocks s (changed s c moment) (blob_len (staged_len s.volume.contents c))

abbrev pub unless : Option Refused → StoredVolume → StoredVolume → StoredVolume
unless None old new = new
unless (Some why) old new = old

-- the volume after a change, made or refused
abbrev pub after_change : ℕ → StoredVolume → Change → Option ℕ → StoredVolume
after_change blocks s c moment = unless (first_refused (change_tests blocks s c moment)) s (changed s c moment)

-- the mode, the value, the target and the length are within their bounds
abbrev pub IsChange : Change → Type 0
IsChange (change.Ln p target) = IsTarget target
IsChange (change.Chmod p mode) = mode ≤ 4095
IsChange (change.Setx p name value) = length value ≤ max_value_bytes
IsChange _ = Unit {0}
