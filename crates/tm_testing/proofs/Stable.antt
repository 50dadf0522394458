-- After a sync nothing is loose.
use Rattle.std.proofs.Common.{◌≡◌, ℕ, false, ◌∙◌, ap}
use Rattle.tm_world.specs.Disk.{Disk, synced}
use Rattle.tm_world.specs.Outside.{disk, put_disk}
use Rattle.tm_world.specs.Log.{Log, now, Steps}
use Rattle.tm_world.specs.declared.world.Side.{Side}
use Rattle.tm_world.proofs.Disks.{loose_synced}
use Rattle.tm_world.proofs.Going.{disk_after}

pub stable : (side : Side) (l0 l1 : Log) → Steps l0 l1 (put_disk side (synced (disk side (now l0))) (now l0)) → (b : ℕ) → (disk side (now l1)).loose b ≡ false
stable side l0 l1 syncs b = ap (λ (d : Disk). d.loose b) (disk_after side l0 l1 _ syncs) ∙ loose_synced _ b
