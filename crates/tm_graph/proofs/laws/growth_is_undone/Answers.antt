use Rattle.tm_graph.proofs.Undone.{undone}
use Rattle.tm_graph.proofs.laws.growth_is_undone.Goals as goal

pub returns : goal.returns
returns c = λ g new root gone is linked may gains goes. undone g new root is may linked gains gone goes
