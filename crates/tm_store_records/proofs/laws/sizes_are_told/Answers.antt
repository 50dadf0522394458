use Rattle.tm_store_records.proofs.Sizing.{sizes_told}
use Rattle.tm_store_records.proofs.laws.sizes_are_told.Goals as goal

pub returns : goal.returns
returns c = sizes_told c.sums_are_counted.ensures c.stored_is_counted.ensures
