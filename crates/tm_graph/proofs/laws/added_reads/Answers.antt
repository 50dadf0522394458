use Rattle.tm_graph.proofs.Greatest.{adds}
use Rattle.tm_graph.proofs.laws.added_reads.Goals as goal

pub returns : goal.returns
returns c = adds
