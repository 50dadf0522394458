use Rattle.tm_machine.proofs.CommitLemmas.{last_of_opening}
use Rattle.tm_machine.proofs.PlainLemmas.{effects_end, effects_reply}
use Rattle.tm_machine.proofs.laws.commits_end.Goals as goal

pub returns-clause-opening : goal.returns-clause-opening
returns-clause-opening c = last_of_opening

pub returns-clause-last : goal.returns-clause-last
returns-clause-last c = effects_end

pub returns-clause-replies : goal.returns-clause-replies
returns-clause-replies c = effects_reply
