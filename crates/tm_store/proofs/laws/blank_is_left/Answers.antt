use Rattle.tm_store.proofs.Siding.{blank_leaves}
use Rattle.tm_store.proofs.laws.blank_is_left.Goals as goal

pub returns : goal.returns
returns c = blank_leaves
