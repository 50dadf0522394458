use Rattle.tm_memworld.specs.World.{shows_now}
use Rattle.tm_memworld.proofs.world.tells.Goals as goal

pub returns-clause-outside : goal.returns-clause-outside
returns-clause-outside c = shows_now c.args.world.now
