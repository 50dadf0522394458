use Rattle.tm_copy.proofs.Finishes.{entry_is_built}
use Rattle.tm_copy.proofs.laws.entry_is_built.Goals as goal

pub returns : goal.returns
returns c = entry_is_built
