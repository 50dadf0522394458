use Rattle.tm_store_records.proofs.Telling.{table_told}
use Rattle.tm_store_records.proofs.laws.table_is_told.Goals as goal

pub returns : goal.returns
returns c = table_told c.text_is_told.ensures
