use Rattle.tm_journal.proofs.KeepableLemmas.{drop_stays_keepable}
use Rattle.tm_journal.proofs.laws.drop_stays_keepable.Goals as goal

pub returns : goal.returns
returns c = drop_stays_keepable
