use Rattle.tm_graph.proofs.OneGone.{gone_is_one}
use Rattle.tm_graph.proofs.laws.gone_is_one.Goals as goal

pub returns : goal.returns
returns c = gone_is_one
