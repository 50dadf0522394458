use Rattle.tm_graph.proofs.Unlinked.{losses_graph, roots-losses, losses_linked}
use Rattle.tm_graph.proofs.laws.losses_leave_linked.Goals as goal

pub returns : goal.returns
returns c = λ g roots gone thinned is linked goes. (losses_graph g roots gone thinned is goes linked, roots-losses g roots gone thinned is goes linked, losses_linked g roots gone thinned is goes)
