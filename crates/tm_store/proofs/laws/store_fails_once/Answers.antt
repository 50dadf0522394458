use Rattle.tm_store.proofs.Failing.{one_store_failure, reads_or_fails}
use Rattle.tm_store.proofs.laws.store_fails_once.Goals as goal

pub returns-clause-failure : goal.returns-clause-failure
returns-clause-failure c = one_store_failure c.readings_are_one.ensures.reading c.readings_are_one.ensures.failure c.readings_are_one.ensures.whole

pub returns-clause-whole : goal.returns-clause-whole
returns-clause-whole c = reads_or_fails c.readings_are_one.ensures.reading c.readings_are_one.ensures.whole c.readings_are_one.ensures.checked c.readings_are_one.ensures.formatted
