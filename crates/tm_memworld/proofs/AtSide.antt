-- The site that is attached at a side, and what is written there.
use Rattle.std.proofs.Common.{◌≡◌, ℕ, ◌<◌, ◌≤◌, length, get_or, set, drop, Some, sym, ◌∙◌, ap, subst, arith}
use Rattle.tm_world.specs.Disk.{Disk}
use Rattle.tm_world.specs.Outside.{Outside, disk}
use Rattle.tm_world.specs.Log.{Log, Steps}
use Rattle.tm_world.specs.declared.world.Side.{Side}
use Rattle.tm_memworld.specs.Site.{SiteView, disk_of, IsBy}
use Rattle.tm_memworld.specs.Sites.{site_at, path_at, room_at, IsFirst, AreSmall, AreBy}
use Rattle.tm_memworld.specs.Contents.{Contents, attached_at}
use Rattle.tm_memworld.specs.Change.{log_in}
use Rattle.tm_memworld.specs.Devices.{contents_of, log_of, outside, places_of}
use Rattle.tm_memworld.specs.declared.devices.Devices.{Devices}
use Rattle.tm_memworld.proofs.Views.{first-set, small-set, by-set, room-set_same}
use Rattle.tm_memworld.proofs.Going.{first_of, site_is, small_at, disk_is}

module _ (d : Devices) (side : Side) (i : ℕ) (at : Some i ≡ attached_at side (contents_of d)) where
  -- it is the first of its path
  pub first-at : IsFirst d.sites.items i
  first-at = first_of side (contents_of d) i d.volume_first d.store_first (sym at)

  module _ (s : SiteView) (read : s ≡ get_or d.sites.items i s) where
    pub site-at : s ≡ site_at d.sites.items i
    site-at = site_is d.sites.items i s first-at.within read

    -- its disk is the side's
    pub disk-at : disk side (outside d) ≡ disk_of s
    disk-at = disk_is (contents_of d) d.began d.changes.items side i s (sym at) first-at site-at

    pub block-at : (block : ℕ) → block < (disk side (outside d)).count → block < (disk_of s).count
    block-at block lt = subst (λ (e : Disk). block < e.count) disk-at lt

    module _ (t : SiteView) (path : t.path ≡ s.path) where
      same_path : t.path ≡ path_at d.sites.items i
      same_path = path ∙ ap (λ (u : SiteView). u.path) site-at

      -- the invariants of the devices, with another site of that path in its place
      pub firsts : (k : ℕ) → IsFirst d.sites.items k → IsFirst (set d.sites.items i t) k
      firsts k first = first-set d.sites.items i k t first-at.within same_path first

      pub smalls : (disk_of t).count ≡ (disk_of s).count → AreSmall (set d.sites.items i t)
      smalls same = small-set d.sites.items i t d.small first-at same_path (omega (arith, same, small_at d.sites.items i s d.small first-at site-at))

      pub bys : (time : ℕ) → length d.changes.items ≤ time → IsBy time t → AreBy time (set d.sites.items i t)
      bys time le by = by-set d.sites.items i t (length d.changes.items) time first-at.within d.by_now le by

      pub rooms : length t.blocks ≡ length s.blocks → room_at (set d.sites.items i t) ≡ places_of d
      rooms long = λ j name. room-set_same d.sites.items i t name first-at same_path (long ∙ ap (λ (u : SiteView). length u.blocks) site-at) j

    -- the time of the last change of the site
    pub by-at : IsBy (length d.changes.items) s
    by-at = subst (IsBy (length d.changes.items)) (sym site-at) (d.by_now.each i)

-- the clock of devices that hold this
pub Steps-as : (d : Devices) (began : ℕ) (c : Contents) (old : Log) (after : Outside) → contents_of d ≡ c → d.began ≡ began → Steps old (log_in (drop began d.changes.items) c) after → Steps old (log_of d) after
Steps-as d began c old after contents_is began_is steps =
    subst (λ b. Steps old (log_in (drop b d.changes.items) (contents_of d)) after) (sym began_is)
    (subst (λ e. Steps old (log_in (drop began d.changes.items) e) after) (sym contents_is) steps)
