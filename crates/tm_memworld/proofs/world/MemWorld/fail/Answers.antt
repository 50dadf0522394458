use Rattle.tm_memworld.specs.World.{state}
use Rattle.tm_memworld.proofs.world.MemWorld.fail.Goals as goal

pub returns-clause-state : goal.returns-clause-state
unfolding state
returns-clause-state c =
    let w = c.args.self.now in
    λ i. record {
      outside = c.spend.ensures.steps.ends i;
      places = c.spend.ensures.places i;
      made = w.plan.made;
      failing = w.plan.failing.items;
      fuse = w.plan.fuse;
      calls_left = (c.spend.ensures.room i).calls;
      writes_left = (c.spend.ensures.room i).writes;
      said_left = (c.spend.ensures.room i).said;
      faults = c.raise.ensures.raised i;
    }
