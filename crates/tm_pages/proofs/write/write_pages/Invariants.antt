use Rattle.std.proofs.Common.{◌≡◌, ◌+◌, drop, length}
use Rattle.tm_world.specs.Outside.{disk}
use Rattle.tm_world.specs.Log.{now}
use Rattle.tm_world.specs.Faults.{NeverLess}
use Rattle.tm_pages.specs.Runs.{fresh_len}
use Rattle.tm_pages.specs.Plans.{AreParts}
use Rattle.tm_pages.proofs.Writing.{SoFar, Written}
use Rattle.tm_pages.proofs.write.write_pages.Given as goal

abbrev pub invariant-loop-k : goal.invariant-loop-k
invariant-loop-k g l = record {
  parts : AreParts (drop l.k l.runs) (drop l.k l.plan.cuts.items);
  many : l.first + fresh_len (drop l.k l.plan.cuts.items) ≡ length l.plan.blocks.items;
  written : g.W.World.told → Written l.side (g.W.World.log l.initial.world) l.plan.blocks.items (g.W.World.log l.world);
  so_far : g.W.World.told → SoFar l.runs l.plan.cuts.items l.plan.blocks.items l.first l.k (disk l.side (now (g.W.World.log l.world))).bytes;
  blocks : g.W.World.blocks l.world ≡ g.W.World.blocks l.initial.world;
  faults : NeverLess (g.W.World.faults l.initial.world) (g.W.World.faults l.world);
}
