-- Which blocks a call may change.
use Rattle.std.specs.Prelude.{◌≡◌, ◌≢◌, ◌<◌, ℕ, List, length, slice_index}
use Rattle.tm_world.specs.Disk.{Disk}

-- no block but these differs, in what a read gives or in whether it is synced
pub record DiffersIn (blocks : List ℕ) (old new : Disk) : Type 0 where
  pub there : new.there ≡ old.there
  pub count : new.count ≡ old.count
  pub bytes : (b : ℕ) → ((k : ℕ) → k < length blocks → b ≢ slice_index blocks k) → new.bytes b ≡ old.bytes b
  pub loose : (b : ℕ) → ((k : ℕ) → k < length blocks → b ≢ slice_index blocks k) → new.loose b ≡ old.loose b
