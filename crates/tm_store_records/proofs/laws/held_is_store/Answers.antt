use Rattle.tm_store_records.proofs.Sizing.{held_lengths, held_store}
use Rattle.tm_store_records.proofs.laws.held_is_store.Goals as goal

pub returns-clause-store : goal.returns-clause-store
returns-clause-store c = held_store c.good_is_store.ensures

pub returns-clause-lengths : goal.returns-clause-lengths
returns-clause-lengths c = held_lengths c.held_files.ensures
