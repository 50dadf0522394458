use Rattle.tm_world.proofs.Keeping.{sides_compose}
use Rattle.tm_world.proofs.laws.sides_compose.Goals as goal

pub returns : goal.returns
returns g c = sides_compose g.P.DiskFact.holds g.Q.DiskFact.holds
