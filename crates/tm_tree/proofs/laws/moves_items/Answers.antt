use Rattle.tm_tree.proofs.MovesKept.{moved_at}
use Rattle.tm_tree.proofs.laws.moves_items.Goals as goal

pub returns : goal.returns
returns c = moved_at
