-- What a call that works on one side does: at each moment, and in the end.
use Rattle.std.specs.Prelude.{◌≡◌}
use Rattle.tm_world.specs.Disk.{Disk}
use Rattle.tm_world.specs.Outside.{Outside, disk, put_disk, AreApart}
use Rattle.tm_world.specs.Log.{Log, now, Passes}
use Rattle.tm_world.specs.declared.world.Side.{Side}
use Rattle.tm_world.specs.declared.world.Side.TheVariants.{Volume, Store}

-- all is as before but for the disk of this side, which has P
pub record OnSide (side : Side) (P : Disk → Type 0) (old new : Outside) : Type 0 where
  pub disk_then : Disk
  pub has : P disk_then
  pub rest : new ≡ put_disk side disk_then old

-- the run from old to new changed no more than the disk of this side, which had P at each moment
pub record Runs (side : Side) (P : Disk → Type 0) (old new : Log) : Type 0 where
  pub passes : Passes old new (OnSide side P (now old))
  pub ends : now new ≡ put_disk side (disk side (now new)) (now old)

abbrev pub other : Side → Side
other Volume = Store
other Store = Volume

-- two sides at different paths: this one has P, and the other and the said bytes are as before
pub record Beside (side : Side) (P : Disk → Type 0) (old new : Outside) : Type 0 where
  pub here : P (disk side new)
  pub there : disk (other side) new ≡ disk (other side) old
  pub said : new.said ≡ old.said
  pub apart : AreApart new
