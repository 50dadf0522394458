-- The pair of images that a run is given.
use Rattle.std.specs.Prelude.{if◌then◌else◌, ◌≡◌, ℕ, ◌≤◌, List, Option, Some}
use Rattle.tm_world.specs.Disk.{Disk, Image}
use Rattle.tm_world.specs.Outside.{Outside, Place, disk, made, AreApart}
use Rattle.tm_world.specs.Torn.{as_read}
use Rattle.tm_world.specs.declared.world.Side.{Side}
use Rattle.tm_world.specs.declared.world.Side.TheVariants.{Volume as VolumeSide, Store as StoreSide}
use Rattle.tm_base.specs.Limits.{max_blocks}

-- the image that stands at a path, or that is made there
abbrev pub found : List ℕ → Option ℕ → Outside → Disk
found path create outside = if (outside.stands (Some path)).there then outside.stands (Some path) else made create

-- as it reads
abbrev pub image_at : List ℕ → Option ℕ → Outside → Image
image_at path create outside = as_read (found path create outside)

-- no image has more blocks than an image may have
abbrev pub AreSmall : Outside → Type 0
AreSmall outside = (place : Place) → (outside.stands place).count ≤ max_blocks

-- the two sides are apart, and read as these images
pub record IsPair (v z : Image) (now : Outside) : Type 0 where
  pub apart : AreApart now
  pub volume_is : as_read (disk VolumeSide now) ≡ v
  pub store_is : as_read (disk StoreSide now) ≡ z

-- both sides are as they were
pub record KeepsPair (old new : Outside) : Type 0 where
  pub sides : (side : Side) → disk side new ≡ disk side old
  pub apart : AreApart old → AreApart new
