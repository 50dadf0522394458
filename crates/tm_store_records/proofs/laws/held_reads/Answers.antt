use Rattle.tm_store_records.proofs.Standing.{held_reads}
use Rattle.tm_store_records.proofs.laws.held_reads.Goals as goal

pub returns : goal.returns
returns c = held_reads c.standing_is_read.ensures.left
