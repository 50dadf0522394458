use Rattle.tm_store_records.proofs.Telling.{data_told}
use Rattle.tm_store_records.proofs.laws.data_is_told.Goals as goal

pub returns : goal.returns
returns c = data_told c.spellings_are_found.ensures.snapshots c.spellings_are_found.ensures.nodes
