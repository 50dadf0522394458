-- What the calls of a backup ask of both sides, and what they leave.
use Rattle.std.specs.Prelude.{◌≡◌, ◌<◌, ◌≤◌, ℕ, List, length}
use Rattle.tm_world.specs.Log.{Log, now}
use Rattle.tm_world.specs.Outside.{Outside, disk, AreApart}
use Rattle.tm_world.specs.Runs.{Runs}
use Rattle.tm_world.specs.declared.world.Side.TheVariants.{Volume, Store}
use Rattle.tm_blockmap.specs.Counts.{times}
use Rattle.tm_graph.specs.Nodes.{IsGraph}
use Rattle.tm_image.specs.Seen.{Stands}
use Rattle.tm_volume.specs.Seen.{Seen, IsKept, IsReady, StandsOn}
use Rattle.tm_store_records.specs.States.{LeavesOneStore}
use Rattle.tm_store_records.specs.Held.{Held, IsWhole, store_on, store_stored_on}

-- both sides stand, at different paths
pub record Standing (v : Seen) (store : Held) (outside : Outside) : Type 0 where
  pub apart : AreApart outside
  pub volume_on : StandsOn v (disk Volume outside)
  pub image_on : Stands store.image (disk Store outside)

-- what a call may be made on: the sides have so many blocks
pub record MayGo (told : Type 0) (v : Seen) (store : Held) (outside : Outside) (volume_blocks store_blocks : ℕ) : Type 0 where
  pub kept : IsKept v
  pub ready : IsReady v volume_blocks
  pub whole : IsWhole store
  pub graph : IsGraph store.nodes
  pub count : length store.image.used ≡ store_blocks
  pub standing : told → Standing v store outside

-- the bytes of the blocks of a side's disk
abbrev pub volume_bytes : Log → ℕ → List ℕ
volume_bytes log = (disk Volume (now log)).bytes

abbrev pub store_bytes : Log → ℕ → List ℕ
store_bytes log = (disk Store (now log)).bytes

-- whatever it answers: of the outside only the store's disk changes, on which a stop leaves the store; of the volume only
-- how many folders were listed; and the store keeps its size
pub record Ran (told : Type 0) (v w : Seen) (old new : Held) (start end : Log) : Type 0 where
  pub runs : told → Runs Store (LeavesOneStore (store_stored_on old (store_bytes start))) start end
  pub volume : w ≡ record v { looks = w.looks }
  pub size : length new.image.used ≡ length old.image.used

-- unless a side failed: the store stands, whole and the same but for what is staged, and no staged block lost its bytes
pub record Went (told : Type 0) (old new : Held) (start end : Log) : Type 0 where
  pub same : new ≡ record old { image = new.image; staged = new.staged }
  pub whole : IsWhole new
  pub stands : told → Stands new.image (disk Store (now end))
  pub state : told → store_on new (store_bytes end) ≡ store_on old (store_bytes start)
  pub grows : (b : ℕ) → times b old.staged ≤ times b new.staged
  pub others : told → (b : ℕ) → 0 < times b old.staged → store_bytes end b ≡ store_bytes start b
