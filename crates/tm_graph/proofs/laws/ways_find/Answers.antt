use Rattle.tm_graph.proofs.WaysFound.{ways_found}
use Rattle.tm_graph.proofs.laws.ways_find.Goals as goal

pub returns : goal.returns
returns c = ways_found
