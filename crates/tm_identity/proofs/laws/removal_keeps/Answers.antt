use Rattle.tm_identity.proofs.Kept.{store_left, trees_left}
use Rattle.tm_identity.proofs.laws.removal_keeps.Goals as goal

pub returns : goal.returns
returns c = λ g roots others root gone st goes fewer. (store_left g roots others root gone st goes fewer, trees_left g roots others root gone st goes fewer)
