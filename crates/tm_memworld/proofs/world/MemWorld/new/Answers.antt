use Rattle.tm_memworld.specs.World.{state}
use Rattle.tm_memworld.proofs.world.MemWorld.new.Goals as goal

pub returns : goal.returns
unfolding state
returns c = λ i. record {
  outside = c.new.ensures.outside i;
  places = c.new.ensures.places i;
  made = c.new-2.ensures.made i;
  failing = c.new-2.ensures.failing i;
  fuse = c.new-2.ensures.fuse i;
  calls_left = (c.new.ensures.room i).calls;
  writes_left = (c.new.ensures.room i).writes;
  said_left = (c.new.ensures.room i).said;
  faults = c.new-3.ensures i;
}
