use Rattle.tm_command.proofs.CommandLemmas as lemma
use Rattle.tm_command.proofs.laws.one_command.Goals as goal

pub returns : goal.returns
returns c = lemma.one_command
