use Rattle.tm_text.proofs.PrintedLemmas.{path_reads}
use Rattle.tm_text.proofs.laws.printed_paths_read.Goals as goal

pub returns : goal.returns
returns c = λ path is short. path_reads path is short
