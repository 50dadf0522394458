use Rattle.tm_tree.proofs.ViewsKept.{view_kept}
use Rattle.tm_tree.proofs.laws.view_is_tree.Goals as goal

pub returns : goal.returns
returns c = view_kept
