use Rattle.tm_runs.proofs.Changing.{RunsFitPages-holds, HoldersRise-holds}
use Rattle.tm_runs.proofs.laws.runs_fit_pages.Goals as goal

pub returns : goal.returns
returns c = record { fit = RunsFitPages-holds; rise = HoldersRise-holds }
