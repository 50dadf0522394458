use Rattle.tm_tree.proofs.CopyProofs.{beneath-copy}
use Rattle.tm_tree.proofs.laws.copy_of_part.Goals as goal

pub returns : goal.returns
returns c = beneath-copy
