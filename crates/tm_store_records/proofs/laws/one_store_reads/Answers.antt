use Rattle.tm_store_records.proofs.Standing.{one_store_reads}
use Rattle.tm_store_records.proofs.laws.one_store_reads.Goals as goal

pub returns : goal.returns
returns c = one_store_reads c.readings_are_one.ensures.reading
