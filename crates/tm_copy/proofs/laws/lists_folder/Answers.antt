use Rattle.tm_copy.proofs.Naming.{lists_folder}
use Rattle.tm_copy.proofs.laws.lists_folder.Goals as goal

pub returns : goal.returns
returns c = lists_folder
