use Rattle.tm_reply.proofs.SplitLemmas.{reply_some}
use Rattle.tm_reply.proofs.laws.reply_is_some.Goals as goal

pub returns : goal.returns
returns c = λ reply. reply_some reply
