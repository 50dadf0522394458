use Rattle.tm_tree.proofs.NewTrees.{new_kept}
use Rattle.tm_tree.proofs.laws.new_is_tree.Goals as goal

pub returns : goal.returns
returns c = new_kept
