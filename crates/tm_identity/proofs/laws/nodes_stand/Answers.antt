use Rattle.tm_identity.proofs.Parents.{stands_somewhere}
use Rattle.tm_identity.proofs.laws.nodes_stand.Goals as goal

pub returns : goal.returns
returns c = stands_somewhere
