-- Sites in a list, seen as what stands at each path.
use Rattle.std.specs.Prelude.{◌≡◌, ◌<◌, ◌≤◌, ℕ, false, List, [], ◌∷◌, length, Some, slice_index_or, if◌then◌else◌}
use Rattle.std.specs.Str.{bytes_eq}
use Rattle.tm_base.specs.Limits.{max_blocks}
use Rattle.tm_world.specs.Disk.{Disk, nothing}
use Rattle.tm_world.specs.Outside.{Place, is_place}
use Rattle.tm_memworld.specs.Torn.{torn_disk}
use Rattle.tm_memworld.specs.Site.{SiteView, blank, disk_of, IsBy}

-- what stands at a place: the disk of the first site of that path
abbrev pub stands_in : List SiteView → Place → Disk
stands_in [] at = nothing
stands_in (s ∷ rest) at = if is_place (Some s.path) at then disk_of s else stands_in rest at

-- for how many blocks of an image there is memory at a path
abbrev pub room_at : List SiteView → List ℕ → ℕ
room_at [] path = 0
room_at (s ∷ rest) path = if bytes_eq s.path path then length s.blocks else room_at rest path

abbrev pub site_at : List SiteView → ℕ → SiteView
site_at sites i = slice_index_or sites i (blank [] 0)

abbrev pub path_at : List SiteView → ℕ → List ℕ
path_at sites i = (site_at sites i).path

-- no earlier site has the path of this one
pub record IsFirst (sites : List SiteView) (i : ℕ) : Type 0 where
  pub within : i < length sites
  pub others : (k : ℕ) → k < i → is_place (Some (path_at sites k)) (Some (path_at sites i)) ≡ false

-- no site has this path
pub record IsNowhere (sites : List SiteView) (path : List ℕ) : Type 0 where
  pub each : (k : ℕ) → k < length sites → is_place (Some (path_at sites k)) (Some path) ≡ false

-- no image is larger than an image may be
pub record AreSmall (sites : List SiteView) : Type 0 where
  pub each : (at : Place) → (stands_in sites at).count ≤ max_blocks

-- no site was changed after this time
pub record AreBy (time : ℕ) (sites : List SiteView) : Type 0 where
  pub each : (i : ℕ) → IsBy time (site_at sites i)

-- a site after a stop at a time: its loose blocks are torn
pub record IsTorn (torn : List ℕ) (time : ℕ) (old new : SiteView) : Type 0 where
  pub path : new.path ≡ old.path
  pub room : length new.blocks ≡ length old.blocks
  pub by : IsBy time new
  pub disk : disk_of new ≡ torn_disk torn (disk_of old)

-- each site is torn
pub record AreTorn (torn : List ℕ) (time : ℕ) (old new : List SiteView) : Type 0 where
  pub long : length new ≡ length old
  pub each : (i : ℕ) → i < length old → IsTorn torn time (site_at old i) (site_at new i)
