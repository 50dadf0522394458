use Rattle.tm_graph.proofs.Climbs.{all_reached, reached_there}
use Rattle.tm_graph.proofs.laws.nodes_are_reached.Goals as goal

pub returns : goal.returns
returns c = λ g is linked q. (all_reached g is linked q, reached_there g is q)
