use Rattle.tm_identity.proofs.Grows.{store_grown, trees_grown}
use Rattle.tm_identity.proofs.laws.addition_keeps.Goals as goal

pub returns : goal.returns
returns c = λ g h roots k base root st add. (store_grown g h roots k base root st add, trees_grown g h roots k base root st add)
