use Rattle.tm_world.proofs.Keeping.{write_runs}
use Rattle.tm_world.proofs.laws.write_runs.Goals as goal

pub returns : goal.returns
returns c = write_runs
