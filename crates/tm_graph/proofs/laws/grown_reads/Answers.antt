use Rattle.tm_graph.proofs.Growing.{grown_is_graph, node-grown}
use Rattle.tm_graph.proofs.Undone.{root_is_linked}
use Rattle.tm_graph.proofs.laws.grown_reads.Goals as goal

pub returns : goal.returns
returns c = λ g new root is may. (grown_is_graph g new root is may, root_is_linked g new root is may, node-grown g new root is may)
