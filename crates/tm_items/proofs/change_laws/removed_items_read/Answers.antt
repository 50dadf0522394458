use Rattle.tm_items.proofs.Changing.{remove_reads}
use Rattle.tm_items.proofs.change_laws.removed_items_read.Goals as goal

pub returns : goal.returns
returns c = remove_reads
