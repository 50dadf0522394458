use Rattle.tm_identity.proofs.Once.{stored_is}
use Rattle.tm_identity.proofs.laws.stored_is_counted.Goals as goal

pub returns : goal.returns
returns c = stored_is
