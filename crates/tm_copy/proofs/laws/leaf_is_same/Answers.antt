use Rattle.tm_copy.proofs.Finishes.{leaf_is_same}
use Rattle.tm_copy.proofs.laws.leaf_is_same.Goals as goal

pub returns : goal.returns
returns c = leaf_is_same
