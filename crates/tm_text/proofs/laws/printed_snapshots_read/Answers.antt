use Rattle.tm_text.proofs.PrintedLemmas.{snapshot_reads}
use Rattle.tm_text.proofs.laws.printed_snapshots_read.Goals as goal

pub returns : goal.returns
returns c = λ machine date is early. snapshot_reads machine date is early
