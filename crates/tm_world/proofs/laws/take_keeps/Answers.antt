use Rattle.tm_world.proofs.Keeping.{take_keeps}
use Rattle.tm_world.proofs.laws.take_keeps.Goals as goal

pub returns : goal.returns
returns c = take_keeps
