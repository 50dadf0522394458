-- What the devices in memory show: what is outside at each moment, and for what there is memory.
use Rattle.std.specs.Prelude.{ℕ, Bool, false, ◌||◌, List, length, drop, Option, Some, None, nat_lt, if◌then◌else◌}
use Rattle.tm_world.specs.Outside.{Outside, is_place, place}
use Rattle.tm_world.specs.Log.{Log, now}
use Rattle.tm_world.specs.Runs.{other}
use Rattle.tm_world.specs.declared.world.Side.{Side}
use Rattle.tm_memworld.specs.Sites.{room_at}
use Rattle.tm_memworld.specs.Contents.{Contents}
use Rattle.tm_memworld.specs.Change.{log_in}
use Rattle.tm_memworld.specs.declared.devices.Devices.{Devices}

abbrev pub contents_of : Devices → Contents
contents_of d = record {
  sites = d.sites.items;
  volume = d.volume;
  store = d.store;
  scripts = d.scripts.items;
  script = d.script;
  position = d.position;
  said = d.said.items;
  saved = d.saved.items;
}

-- the moments since images or scripts were put, or since the last stop
abbrev pub log_of : Devices → Log
log_of d = log_in (drop d.began d.changes.items) (contents_of d)

abbrev pub outside : Devices → Outside
outside d = now (log_of d)

-- for how many blocks of an image there is memory at a path
abbrev pub places_of : Devices → List ℕ → ℕ
places_of d = room_at d.sites.items

-- an image cannot be made: there is no memory for so many blocks, or the other side is attached there;
-- and without one a path that is too long cannot be noted
abbrev pub cannot_make : Side → List ℕ → Option ℕ → (List ℕ → ℕ) → Outside → Bool
cannot_make side path None places s = nat_lt 1023 (length path)
cannot_make side path (Some n) places s = nat_lt (places path) n || is_place (place (other side) s) (Some path)

-- a side cannot be attached at a path
abbrev pub cannot_open : Side → List ℕ → Option ℕ → (List ℕ → ℕ) → Outside → Bool
cannot_open side path create places s = if (s.stands (Some path)).there then false else cannot_make side path create places s
