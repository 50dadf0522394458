use Rattle.std.proofs.Common.{◌≡◌, ◌+◌, length, get_or}
use Rattle.tm_world.specs.Outside.{disk}
use Rattle.tm_world.specs.Log.{now, Steps}
use Rattle.tm_world.specs.Faults.{NeverLess}
use Rattle.tm_chain.specs.Walk.{IsWalk, IsRead}
use Rattle.tm_chain.proofs.read.read_chain.Given as goal

abbrev pub invariant-loop-k : goal.invariant-loop-k
invariant-loop-k g l = record {
  walk : IsWalk l.walk.blocks.items l.walk.text.items l.walk.used;
  size : length l.walk.used ≡ l.total;
  many : length l.walk.blocks.items ≡ l._k + 1;
  starts : get_or l.walk.blocks.items 0 0 ≡ l.first;
  read : g.W.World.told → IsRead l.walk.blocks.items l.walk.text.items (disk l.side (now (g.W.World.log l.initial.world))).bytes;
  steps : g.W.World.told → Steps (g.W.World.log l.initial.world) (g.W.World.log l.world) (now (g.W.World.log l.initial.world));
  blocks : g.W.World.blocks l.world ≡ g.W.World.blocks l.initial.world;
  faults : NeverLess (g.W.World.faults l.initial.world) (g.W.World.faults l.world);
}
