use Rattle.tm_memworld.specs.Devices.{outside}
use Rattle.tm_memworld.specs.World.{state}
use Rattle.tm_memworld.proofs.Tearing.{stopped-left}
use Rattle.tm_memworld.proofs.world.MemWorld.stop.Goals as goal

pub returns-clause-left : goal.returns-clause-left
unfolding state
returns-clause-left c = stopped-left c.args.torn.now (outside c.args.self.now.devices) (outside c.stop.new.self) c.stop.ensures.outside
