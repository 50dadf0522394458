use Rattle.tm_copy.proofs.Finishes.{backup_is_built}
use Rattle.tm_copy.proofs.laws.backup_is_built.Goals as goal

pub returns : goal.returns
returns c = backup_is_built
