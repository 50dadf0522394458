use Rattle.std.proofs.Common.{◌+◌, ◌≡◌, ◌≤◌, ◌-◌}
use Rattle.tm_world.specs.Log.{now, Steps}
use Rattle.tm_world.specs.Faults.{NeverLess}
use Rattle.tm_world.specs.Outside.{disk}
use Rattle.tm_world.specs.declared.world.Side.TheVariants.{Volume}
use Rattle.tm_image.specs.Reads.{entries_of}
use Rattle.tm_volume_records.specs.Records.{placings_of}
use Rattle.tm_volume.proofs.Gathering.{HasBelow}
use Rattle.tm_base.specs.Limits.{max_items}
use Rattle.tm_volume.proofs.contents.read_items.Given as goal

abbrev pub invariant-loop-number : goal.invariant-loop-number
invariant-loop-number g l = record {
  low : 1 ≤ l.least;
  high : l.least ≤ max_items + 1;
  below : g.W.World.told → HasBelow (placings_of (entries_of (disk Volume (now (g.W.World.log l.initial.world))).bytes l.image.records)) l.least l.items.entries;
  steps : g.W.World.told → Steps (g.W.World.log l.initial.world) (g.W.World.log l.world) (now (g.W.World.log l.initial.world));
  blocks : g.W.World.blocks l.world ≡ g.W.World.blocks l.initial.world;
  faults : NeverLess (g.W.World.faults l.initial.world) (g.W.World.faults l.world);
}

abbrev pub decreases-loop-number : goal.decreases-loop-number
decreases-loop-number g l = max_items + 1 - l.least
