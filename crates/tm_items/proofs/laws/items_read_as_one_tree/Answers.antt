use Rattle.tm_items.proofs.Reading.{one_tree}
use Rattle.tm_items.proofs.laws.items_read_as_one_tree.Goals as goal

pub returns : goal.returns
returns c = one_tree
