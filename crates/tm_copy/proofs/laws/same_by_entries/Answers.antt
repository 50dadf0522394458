use Rattle.tm_copy.proofs.Shared.{same_by_entries}
use Rattle.tm_copy.proofs.laws.same_by_entries.Goals as goal

pub returns : goal.returns
returns c = same_by_entries
