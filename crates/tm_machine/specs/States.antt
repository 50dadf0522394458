-- The state of the plain machine, and what the images keep of it.
use Rattle.std.specs.Prelude.{ℕ, Option, None}
use Rattle.std.specs.Option.{option_map}
use Rattle.tm_tree.specs.States.{StoreState}
use Rattle.tm_store_records.specs.States.{StoredStore}
use Rattle.tm_volume.specs.Stored.{StoredVolume, reopened}

-- how many blocks each image has, the volume and the store, each formatted or not, and the moment that was set last; the
-- store has the date of a backup that runs, as its image has it
pub record State : Type 0 where
  pub volume_blocks : ℕ
  pub store_blocks : ℕ
  pub volume : Option StoredVolume
  pub store : Option StoredStore
  pub moment : Option ℕ

-- what the pair of images keeps
pub record Stored : Type 0 where
  pub volume : Option StoredVolume
  pub store : Option StoredStore

abbrev pub kept : State → Stored
kept s = record { volume = s.volume; store = s.store }

-- a pair that reads as r, opened on images of so many blocks
abbrev pub opened : ℕ → ℕ → Stored → State
opened volume_blocks store_blocks r = record {
  volume_blocks = volume_blocks;
  store_blocks = store_blocks;
  volume = option_map reopened r.volume;
  store = r.store;
  moment = None;
}

-- the store without that date
abbrev pub store_in : Option StoredStore → Option StoreState
store_in z = option_map (λ x. x.store) z
