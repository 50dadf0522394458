use Rattle.tm_text.proofs.PrintedLemmas.{id_reads}
use Rattle.tm_text.proofs.laws.printed_ids_read.Goals as goal

pub returns : goal.returns
returns c = λ id small. id_reads id small
