use Rattle.tm_store.proofs.Siding.{may_be_formatted}
use Rattle.tm_store.proofs.laws.blank_may_be_formatted.Goals as goal

pub returns : goal.returns
returns c = may_be_formatted
