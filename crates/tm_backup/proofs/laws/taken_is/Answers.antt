use Rattle.tm_backup.proofs.Taking.{taken_is}
use Rattle.tm_backup.proofs.laws.taken_is.Goals as goal

pub returns : goal.returns
returns c = taken_is
