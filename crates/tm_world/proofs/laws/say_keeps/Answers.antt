use Rattle.tm_world.proofs.Keeping.{say_keeps}
use Rattle.tm_world.proofs.laws.say_keeps.Goals as goal

pub returns : goal.returns
returns c = say_keeps
