use Rattle.tm_store.proofs.Siding.{none_or}
use Rattle.tm_store.proofs.laws.none_or_store.Goals as goal

pub returns : goal.returns
returns c = none_or
