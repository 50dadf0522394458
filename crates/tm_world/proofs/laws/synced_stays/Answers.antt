use Rattle.tm_world.proofs.Tearing.{synced_stays}
use Rattle.tm_world.proofs.laws.synced_stays.Goals as goal

pub returns : goal.returns
returns c = synced_stays
