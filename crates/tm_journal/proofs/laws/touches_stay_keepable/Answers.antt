use Rattle.tm_journal.proofs.KeepableLemmas.{touches_stay_keepable}
use Rattle.tm_journal.proofs.laws.touches_stay_keepable.Goals as goal

pub returns : goal.returns
returns c = touches_stay_keepable
