use Rattle.tm_journal.proofs.KeepableLemmas.{keepable_are_above_zero}
use Rattle.tm_journal.proofs.laws.keepable_are_above_zero.Goals as goal

pub returns : goal.returns
returns c = keepable_are_above_zero
