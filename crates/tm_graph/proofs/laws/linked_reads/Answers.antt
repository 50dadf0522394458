use Rattle.tm_graph.proofs.Linked.{links_root}
use Rattle.tm_graph.proofs.laws.linked_reads.Goals as goal

pub returns : goal.returns
returns c = links_root
