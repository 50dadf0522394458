use Rattle.tm_items.proofs.Weighing.{counts_alike}
use Rattle.tm_items.proofs.change_laws.counts_are_alike.Goals as goal

pub returns : goal.returns
returns c = counts_alike
