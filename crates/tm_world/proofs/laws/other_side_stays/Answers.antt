use Rattle.tm_world.proofs.Keeping.{other_side_stays}
use Rattle.tm_world.proofs.laws.other_side_stays.Goals as goal

pub returns : goal.returns
returns g c = other_side_stays g.P.DiskFact.holds
