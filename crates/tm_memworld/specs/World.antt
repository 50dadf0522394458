-- What contracts see of a world in memory, and what was outside at each moment.
use Rattle.std.specs.Prelude.{◌≡◌, ◌≤◌, ℕ, drop, refl}
use Rattle.std.proofs.Common.{ap, sym, subst}
use Rattle.tm_base.specs.Limits.{max_blocks}
use Rattle.tm_world.specs.Outside.{Outside, Place, disk}
use Rattle.tm_world.specs.Log.{Log, now}
use Rattle.tm_world.specs.declared.world.Side.{Side}
use Rattle.tm_world.specs.Counts.{count_of}
use Rattle.tm_memworld.specs.Devices.{contents_of, log_of, outside, places_of}
use Rattle.tm_memworld.specs.State.{State}
use Rattle.tm_memworld.specs.Change.{now-log_in}
use Rattle.tm_memworld.specs.declared.world.MemWorld.{MemWorld}

unfoldable pub state : MemWorld → State
state w = record {
  outside = outside w.devices;
  places = places_of w.devices;
  made = w.plan.made;
  failing = w.plan.failing.items;
  fuse = w.plan.fuse;
  calls_left = w.devices.room.calls;
  writes_left = w.devices.room.writes;
  said_left = w.devices.room.said;
  faults = count_of w.faults;
}

-- the moments since an image or a script was put, or since the last stop
unfoldable pub clock : MemWorld → Log
clock w = log_of w.devices

-- how many blocks a side has
abbrev pub blocks_of : MemWorld → Side → ℕ
blocks_of w side = (disk side (state w).outside).count

-- what is outside now is the last moment of the clock
pub shows_now : (w : MemWorld) → now (clock w) ≡ (state w).outside
unfolding state clock
shows_now w = refl

pub counts_shown : (w : MemWorld) (side : Side) → (disk side (now (clock w))).count ≡ blocks_of w side
counts_shown w side = ap (λ (s : Outside). (disk side s).count) (shows_now w)

pub small_shown : (w : MemWorld) (place : Place) → ((now (clock w)).stands place).count ≤ max_blocks
unfolding clock
small_shown w place = subst (λ (s : Outside). (s.stands place).count ≤ max_blocks) (sym (now-log_in (drop w.devices.began w.devices.changes.items) (contents_of w.devices))) (w.devices.small.each place)
