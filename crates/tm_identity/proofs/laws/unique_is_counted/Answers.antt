use Rattle.tm_identity.proofs.Shared.{unique_is}
use Rattle.tm_identity.proofs.laws.unique_is_counted.Goals as goal

pub returns : goal.returns
returns c = λ v g before after r n p labels lengths st e. unique_is v g before after r labels lengths st p
