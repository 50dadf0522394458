use Rattle.tm_items.proofs.Changing.{place_reads}
use Rattle.tm_items.proofs.change_laws.new_items_read.Goals as goal

pub returns : goal.returns
returns c = place_reads
