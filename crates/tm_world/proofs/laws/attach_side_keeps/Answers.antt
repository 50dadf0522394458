use Rattle.tm_world.proofs.Keeping.{attach_side_keeps}
use Rattle.tm_world.proofs.laws.attach_side_keeps.Goals as goal

pub returns : goal.returns
returns c = attach_side_keeps
