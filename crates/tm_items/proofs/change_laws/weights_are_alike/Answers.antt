use Rattle.tm_items.proofs.Weighing.{weighs_alike}
use Rattle.tm_items.proofs.change_laws.weights_are_alike.Goals as goal

pub returns : goal.returns
returns c = weighs_alike
