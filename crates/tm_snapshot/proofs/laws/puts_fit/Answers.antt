use Rattle.tm_snapshot.proofs.Finishing.{finishing}
use Rattle.tm_snapshot.proofs.Fitting.{are_puts}
use Rattle.tm_snapshot.proofs.laws.puts_fit.Goals as goal

pub returns : goal.returns
returns c = λ h built date volume id mark may. are_puts (finishing h built date volume id mark may c.spellings_are_found.ensures.nodes)
