use Rattle.tm_tree.proofs.CopyProofs.{copy_over_same}
use Rattle.tm_tree.proofs.laws.copy_over_same.Goals as goal

pub returns : goal.returns
returns c = copy_over_same
