use Rattle.tm_world.proofs.Keeping.{sync_runs}
use Rattle.tm_world.proofs.laws.sync_runs.Goals as goal

pub returns : goal.returns
returns c = sync_runs
