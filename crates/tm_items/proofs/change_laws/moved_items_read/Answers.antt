use Rattle.tm_items.proofs.Changing.{move_reads}
use Rattle.tm_items.proofs.change_laws.moved_items_read.Goals as goal

pub returns : goal.returns
returns c = move_reads
