-- What a world in memory shows: the outside, what there is memory for, and which calls fail.
use Rattle.std.specs.Prelude.{ℕ, ◌+◌, ◌-◌, Bool, false, ◌||◌, nat_lt, is_none, List, [], Option, Some, None, if◌then◌else◌}
use Rattle.tm_world.specs.Disk.{zeros, written, synced}
use Rattle.tm_world.specs.Outside.{Outside, disk, put_at, put_disk}
use Rattle.tm_world.specs.declared.world.Part.{Part}
use Rattle.tm_world.specs.declared.world.Part.TheVariants.{Volume as VolumePart, Store as StorePart, Script, Out}
use Rattle.tm_world.specs.declared.world.Side.{Side}
use Rattle.tm_world.specs.declared.world.Side.TheVariants.{Volume, Store}
use Rattle.tm_world.specs.Counts.{one_more, raised}
use Rattle.tm_memworld.specs.Plan.{is_named}
use Rattle.tm_memworld.specs.Torn.{loosened, stopped}
use Rattle.tm_memworld.specs.Putting.{with_room, placed}
use Rattle.tm_memworld.specs.Devices.{cannot_open}
use Rattle.tm_memworld.specs.Nothing.{empty}

pub record State : Type 0 where
  pub outside : Outside
  -- for how many blocks of an image there is memory at each path
  pub places : List ℕ → ℕ
  -- how many calls were made
  pub made : ℕ
  -- the numbers of calls that fail, and that from which on each does
  pub failing : List ℕ
  pub fuse : Option ℕ
  -- for how many calls, block writes and said bytes memory is left
  pub calls_left : ℕ
  pub writes_left : ℕ
  pub said_left : ℕ
  -- how often each part failed
  pub faults : Part → ℕ

-- a new world
abbrev pub start : State
start = record { outside = empty; places = λ _. 0; made = 0; failing = []; fuse = None; calls_left = 0; writes_left = 0; said_left = 0; faults = λ _. 0 }

-- the next call fails: its number is one of the named, or at or above the fuse, or less room is left than it needs
abbrev pub is_cut : ℕ → ℕ → State → Bool
is_cut writes said s = is_named s.failing s.fuse s.made || (nat_lt s.calls_left 1 || nat_lt s.writes_left writes || nat_lt s.said_left said)

-- after a call that needs so much: of a kind of which less was left nothing is left
abbrev pub used : ℕ → ℕ → State → State
used writes said s = record s { calls_left = s.calls_left - 1; writes_left = s.writes_left - writes; said_left = s.said_left - said }

-- the same, and it is counted, whether it fails or not
abbrev pub called : ℕ → ℕ → State → State
called writes said s = record (used writes said s) { made = one_more s.made }

-- after a fault of a part
abbrev pub faulted : Part → State → State
faulted part s = record s { faults = raised part s.faults }

-- after the outside changed
abbrev pub with_outside : Outside → State → State
with_outside outside s = record s { outside = outside }

-- a block is written, and loose
abbrev pub after_write : Side → ℕ → List ℕ → Outside → Outside
after_write side block bytes s = put_disk side (written block bytes (disk side s)) s

-- all blocks are stable
abbrev pub after_sync : Side → Outside → Outside
after_sync side s = put_disk side (synced (disk side s)) s

-- a write that fails leaves its block loose, if there is room to note it
abbrev pub after_failed_write : Side → ℕ → State → Outside
after_failed_write side block s = if nat_lt 0 s.calls_left then put_disk side (loosened block (disk side s.outside)) s.outside else s.outside

-- no script stands at the path, or a side cannot be attached there
abbrev pub cannot_attach : Part → List ℕ → Option ℕ → State → Bool
cannot_attach VolumePart path create s = cannot_open Volume path create s.places s.outside
cannot_attach StorePart path create s = cannot_open Store path create s.places s.outside
cannot_attach Script path create s = is_none (s.outside.scripts path)
cannot_attach Out path create s = false

abbrev pub with_image : List ℕ → ℕ → State → State
with_image path blocks s = record s { outside = put_at (Some path) (zeros blocks) s.outside; places = with_room path blocks s.places }

abbrev pub with_place : List ℕ → ℕ → State → State
with_place path blocks s = record s { places = placed path blocks s.places s.outside }

-- after a stop
abbrev pub after_stop : List ℕ → State → State
after_stop torn s = record s { outside = stopped torn s.outside; failing = []; fuse = None }

abbrev pub with_more : ℕ → ℕ → ℕ → State → State
with_more calls writes said s = record s { calls_left = s.calls_left + calls; writes_left = s.writes_left + writes; said_left = s.said_left + said }
