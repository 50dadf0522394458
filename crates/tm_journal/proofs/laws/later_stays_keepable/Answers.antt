use Rattle.tm_journal.proofs.KeepableLemmas.{later_stays_keepable}
use Rattle.tm_journal.proofs.laws.later_stays_keepable.Goals as goal

pub returns : goal.returns
returns c = later_stays_keepable
