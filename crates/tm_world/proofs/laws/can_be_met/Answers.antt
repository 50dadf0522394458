use Rattle.tm_world.proofs.Tearing.{can_be_met}
use Rattle.tm_world.proofs.laws.can_be_met.Goals as goal

pub returns : goal.returns
returns c = can_be_met
