use Rattle.tm_reply.proofs.SplitLemmas.{closes_once}
use Rattle.tm_reply.proofs.laws.each_text_closes_once.Goals as goal

pub returns : goal.returns
returns c = λ reply. closes_once reply
