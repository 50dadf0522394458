use Rattle.tm_backup.proofs.Folders.{folders_in_order}
use Rattle.tm_backup.proofs.laws.folders_in_order.Goals as goal

pub returns : goal.returns
returns c = folders_in_order
