use Rattle.tm_tree.proofs.LinesKept.{tree_kept}
use Rattle.tm_tree.proofs.laws.tree_is_kept.Goals as goal

pub returns : goal.returns
returns c = tree_kept
