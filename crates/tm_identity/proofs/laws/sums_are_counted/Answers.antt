use Rattle.tm_identity.proofs.Once.{sum_is}
use Rattle.tm_identity.proofs.laws.sums_are_counted.Goals as goal

pub returns : goal.returns
returns c = λ v g roots w k. sum_is v w k g roots
