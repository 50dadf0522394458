use Rattle.tm_world.proofs.Tearing.{reads_are_left}
use Rattle.tm_world.proofs.laws.reads_are_left.Goals as goal

pub returns : goal.returns
returns c = reads_are_left
