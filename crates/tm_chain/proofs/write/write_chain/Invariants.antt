use Rattle.std.proofs.Common.{◌≡◌}
use Rattle.tm_world.specs.Outside.{disk}
use Rattle.tm_world.specs.Log.{now}
use Rattle.tm_world.specs.Faults.{NeverLess}
use Rattle.tm_chain.specs.Chain.{link_of}
use Rattle.tm_chain.specs.Holds.{HoldsUpTo}
use Rattle.tm_chain.proofs.Writing.{Written}
use Rattle.tm_chain.proofs.write.write_chain.Given as goal

abbrev pub invariant-loop-k : goal.invariant-loop-k
invariant-loop-k g l = record {
  written : g.W.World.told → Written l.side (g.W.World.log l.initial.world) l.blocks (g.W.World.log l.world);
  lies : g.W.World.told → HoldsUpTo l.k l.blocks (link_of l.text l.blocks) (disk l.side (now (g.W.World.log l.world))).bytes;
  blocks : g.W.World.blocks l.world ≡ g.W.World.blocks l.initial.world;
  faults : NeverLess (g.W.World.faults l.initial.world) (g.W.World.faults l.world);
}
