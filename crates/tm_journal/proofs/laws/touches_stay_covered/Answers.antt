use Rattle.tm_journal.proofs.CoverLemmas.{touches_stay_covered}
use Rattle.tm_journal.proofs.laws.touches_stay_covered.Goals as goal

pub returns : goal.returns
returns c = touches_stay_covered
