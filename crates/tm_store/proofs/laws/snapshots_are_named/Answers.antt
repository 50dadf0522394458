use Rattle.tm_store.proofs.FindLemmas.{named_at, under_is}
use Rattle.tm_store.proofs.laws.snapshots_are_named.Goals as goal

pub returns-clause-at : goal.returns-clause-at
returns-clause-at c = named_at

pub returns-clause-under : goal.returns-clause-under
returns-clause-under c = under_is
