use Rattle.tm_reply.proofs.SplitLemmas.{closes_once, split_in_one_way}
use Rattle.tm_reply.proofs.laws.texts_split_in_one_way.Goals as goal

pub returns : goal.returns
returns c = λ r s x y e. split_in_one_way _ _ x y (closes_once r) (closes_once s) e
