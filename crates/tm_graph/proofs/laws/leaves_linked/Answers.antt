use Rattle.tm_graph.proofs.Climbs.{root_links-left, linked-left}
use Rattle.tm_graph.proofs.laws.leaves_linked.Goals as goal

pub returns : goal.returns
returns c = λ g root gone is linked goes. (root_links-left g root gone is linked goes, linked-left g root gone is goes)
