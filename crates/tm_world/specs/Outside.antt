-- All that is outside at one moment: what stands at each path, what is attached, the script and the said bytes.
use Rattle.std.specs.Prelude.{◌≡◌, ℕ, Bool, true, false, List, [], ◌++◌, Option, Some, None, if◌then◌else◌, drop, unwrap_or}
use Rattle.std.specs.Str.{bytes_eq}
use Rattle.tm_world.specs.Disk.{Disk, nothing, zeros}
use Rattle.tm_world.specs.declared.world.Side.{Side}
use Rattle.tm_world.specs.declared.world.Side.TheVariants.{Volume, Store}
use Rattle.tm_world.specs.declared.world.Part.{Part}
use Rattle.tm_world.specs.declared.world.Part.TheVariants.{Volume as VolumePart, Store as StorePart, Script, Out}

-- the path of an image, or none for a side that is not attached
abbrev pub Place : Type 0
Place = Option (List ℕ)

abbrev pub is_place : Place → Place → Bool
is_place None None = true
is_place None (Some q) = false
is_place (Some p) None = false
is_place (Some p) (Some q) = bytes_eq p q

pub record Outside : Type 0 where
  pub stands : Place → Disk
  pub scripts : List ℕ → Option (List ℕ)
  pub volume : Place
  pub store : Place
  pub unread : List ℕ
  pub said : List ℕ

abbrev pub place : Side → Outside → Place
place Volume s = s.volume
place Store s = s.store

-- the image that is attached at a side
unfoldable pub disk : Side → Outside → Disk
disk side s = s.stands (place side s)

abbrev pub put_at : Place → Disk → Outside → Outside
put_at p d s = record {
  stands = λ q. if is_place p q then d else s.stands q;
  scripts = s.scripts;
  volume = s.volume;
  store = s.store;
  unread = s.unread;
  said = s.said;
}

-- another disk in the place of the one at a side, and nothing else
unfoldable pub put_disk : Side → Disk → Outside → Outside
put_disk side d s = put_at (place side s) d s

unfoldable pub took : ℕ → Outside → Outside
took n s = record { stands = s.stands; scripts = s.scripts; volume = s.volume; store = s.store; unread = drop n s.unread; said = s.said }

unfoldable pub spoke : List ℕ → Outside → Outside
spoke bytes s = record { stands = s.stands; scripts = s.scripts; volume = s.volume; store = s.store; unread = s.unread; said = s.said ++ bytes }

-- the two sides are attached at different paths
abbrev pub AreApart : Outside → Type 0
AreApart s = is_place s.volume s.store ≡ false

abbrev pub part_of : Side → Part
part_of Volume = VolumePart
part_of Store = StorePart

abbrev pub made : Option ℕ → Disk
made None = nothing
made (Some n) = zeros n

-- what stands at a path, or what is made there
abbrev pub with_made : List ℕ → Option ℕ → Outside → Outside
with_made path create s = if (s.stands (Some path)).there then s else put_at (Some path) (made create) s

abbrev pub with_place : Side → Place → Outside → Outside
with_place Volume p s = record { stands = s.stands; scripts = s.scripts; volume = p; store = s.store; unread = s.unread; said = s.said }
with_place Store p s = record { stands = s.stands; scripts = s.scripts; volume = s.volume; store = p; unread = s.unread; said = s.said }

unfoldable pub attached : Part → List ℕ → Option ℕ → Outside → Outside
attached VolumePart path create s = with_place Volume (Some path) (with_made path create s)
attached StorePart path create s = with_place Store (Some path) (with_made path create s)
attached Script path create s = record { stands = s.stands; scripts = s.scripts; volume = s.volume; store = s.store; unread = unwrap_or (s.scripts path) []; said = s.said }
attached Out path create s = s

-- what `attach` answers
unfoldable pub attached_count : Part → Outside → ℕ
attached_count VolumePart s = (disk Volume s).count
attached_count StorePart s = (disk Store s).count
attached_count Script s = 0
attached_count Out s = 0
