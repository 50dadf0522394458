use Rattle.tm_store.proofs.Siding.{one_side}
use Rattle.tm_store.proofs.laws.sides_read_as_one.Goals as goal

pub returns : goal.returns
returns c = one_side c.one_store_reads.ensures c.readings_are_one.ensures.formatted
