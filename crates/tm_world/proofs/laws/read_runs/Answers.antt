use Rattle.tm_world.proofs.Going.{Runs-none, Runs-stays}
use Rattle.tm_world.proofs.laws.read_runs.Goals as goal
use Rattle.std.proofs.Common.{refl}

pub returns : goal.returns
returns c = λ side old new steps. Runs-stays side _ old old new (Runs-none side _ old) steps refl
