use Rattle.tm_journal.proofs.CoverLemmas.{touch_stays_covered}
use Rattle.tm_journal.proofs.laws.touch_stays_covered.Goals as goal

pub returns : goal.returns
returns c = touch_stays_covered
