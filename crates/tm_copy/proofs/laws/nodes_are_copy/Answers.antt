use Rattle.tm_copy.proofs.Copied.{nodes_are_copy}
use Rattle.tm_copy.proofs.laws.nodes_are_copy.Goals as goal

pub returns : goal.returns
returns c = nodes_are_copy
