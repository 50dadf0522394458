-- What an image keeps of a volume.
use Rattle.std.specs.Prelude.{ℕ, ◌+◌, Bool, false, if◌then◌else◌, Option, None}
use Rattle.tm_tree.specs.States.{VolumeState, new_volume}
use Rattle.std.specs.Prelude.{List}

-- the volume, the clean mark, and how many bytes the journal's record has, if there is one
pub record StoredVolume : Type 0 where
  pub volume : VolumeState
  pub clean : Bool
  pub journal : Option ℕ

-- a new volume: the mark is off, and no journal is kept
abbrev pub new_stored : List ℕ → ℕ → ℕ → ℕ → StoredVolume
new_stored name id capacity moment = record { volume = new_volume name id capacity moment; clean = false; journal = None }

abbrev pub with_generation : VolumeState → ℕ → VolumeState
with_generation v generation = record { name = v.name; id = v.id; capacity = v.capacity; generation = generation; contents = v.contents }

-- a volume as it is opened: after an unclean end a generation begins
abbrev pub reopened : StoredVolume → StoredVolume
reopened s = if s.clean then s else record { volume = with_generation s.volume (s.volume.generation + 1); clean = false; journal = s.journal }

-- a volume with another mark, generation and next number
abbrev pub retagged : StoredVolume → Bool → ℕ → ℕ → StoredVolume
retagged s clean generation next = record {
  volume = record {
    name = s.volume.name;
    id = s.volume.id;
    capacity = s.volume.capacity;
    generation = generation;
    contents = record { tree = s.volume.contents.tree; fixed = s.volume.contents.fixed; next = next };
  };
  clean = clean;
  journal = s.journal;
}
