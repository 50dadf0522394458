use Rattle.tm_machine.proofs.PlainLemmas.{plain_done, plain_is_history}
use Rattle.tm_machine.proofs.laws.plain_is_history.Goals as goal

pub returns-clause-lines : goal.returns-clause-lines
returns-clause-lines c = plain_done

pub returns-clause-history : goal.returns-clause-history
returns-clause-history c = plain_is_history
