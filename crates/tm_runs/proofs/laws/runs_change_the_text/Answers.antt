use Rattle.tm_runs.proofs.Changing.{RunsChangeTheText-holds}
use Rattle.tm_runs.proofs.laws.runs_change_the_text.Goals as goal

pub returns : goal.returns
returns c = RunsChangeTheText-holds
