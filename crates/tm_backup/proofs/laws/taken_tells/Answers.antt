use Rattle.tm_backup.proofs.Taking.{taken_tells}
use Rattle.tm_backup.proofs.laws.taken_tells.Goals as goal

pub returns : goal.returns
returns c = taken_tells
