use Rattle.tm_journal.proofs.CoverLemmas.{drop_covers_all}
use Rattle.tm_journal.proofs.laws.drop_covers_all.Goals as goal

pub returns : goal.returns
returns c = drop_covers_all
