use Rattle.tm_items.proofs.Replacing.{replace_reads}
use Rattle.tm_items.proofs.change_laws.replaced_items_read.Goals as goal

pub returns : goal.returns
returns c = replace_reads
