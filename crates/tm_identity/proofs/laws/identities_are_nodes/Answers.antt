use Rattle.tm_identity.proofs.Counted.{identity_is_node}
use Rattle.tm_identity.proofs.laws.identities_are_nodes.Goals as goal

pub returns : goal.returns
returns c = identity_is_node
