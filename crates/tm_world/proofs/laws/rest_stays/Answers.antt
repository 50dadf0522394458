use Rattle.tm_world.proofs.Keeping.{rest_stays}
use Rattle.tm_world.proofs.laws.rest_stays.Goals as goal

pub returns : goal.returns
returns g c = rest_stays g.P.DiskFact.holds
