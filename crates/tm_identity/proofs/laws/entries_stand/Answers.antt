use Rattle.tm_identity.proofs.Entries.{entries_stand}
use Rattle.tm_identity.proofs.laws.entries_stand.Goals as goal

pub returns : goal.returns
returns c = entries_stand
