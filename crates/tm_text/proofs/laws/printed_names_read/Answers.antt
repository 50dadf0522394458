use Rattle.tm_text.proofs.PrintedLemmas.{name_reads}
use Rattle.tm_text.proofs.laws.printed_names_read.Goals as goal

pub returns : goal.returns
returns c = λ name is. name_reads name is
