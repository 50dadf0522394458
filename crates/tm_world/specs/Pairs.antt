-- What a stop may leave of both sides: now, and at some moment since another.
use Rattle.std.specs.Prelude.{◌≡◌, ◌≤◌, ℕ, List}
use Rattle.tm_world.specs.Disk.{Disk, Image, IsLeft}
use Rattle.tm_world.specs.Outside.{Outside, disk}
use Rattle.tm_world.specs.Log.{Log}
use Rattle.tm_world.specs.declared.world.Side.{Side}

-- an image for each side
abbrev pub Pair : Type 0
Pair = Side → Image

-- a stop now may leave this pair
abbrev pub MayLeave : Outside → Pair → Type 0
MayLeave s pair = (side : Side) → IsLeft (disk side s) (pair side)

-- a stop at some moment from `since` on may have left this pair, when these bytes were said
pub record MayHaveLeft (log : Log) (since : ℕ) (pair : Pair) (said : List ℕ) : Type 0 where
  pub moment : ℕ
  pub from : since ≤ moment
  pub until : moment ≤ log.moment
  pub leaves : MayLeave (log.past moment) pair
  pub spoken : (log.past moment).said ≡ said

-- a stop may leave this image of some disk that has P
pub record LeftBy (P : Disk → Type 0) (image : Image) : Type 0 where
  pub disk_then : Disk
  pub has : P disk_then
  pub left : IsLeft disk_then image
