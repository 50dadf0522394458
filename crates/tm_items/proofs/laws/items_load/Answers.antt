use Rattle.tm_items.proofs.Loading.{load_starts, load_skips, load_takes, load_ends}
use Rattle.tm_items.proofs.laws.items_load.Goals as goal

pub returns-clause-starts : goal.returns-clause-starts
returns-clause-starts c = load_starts

pub returns-clause-skips : goal.returns-clause-skips
returns-clause-skips c = load_skips

pub returns-clause-takes : goal.returns-clause-takes
returns-clause-takes c = load_takes

pub returns-clause-ends : goal.returns-clause-ends
returns-clause-ends c = load_ends
