use Rattle.tm_runs.proofs.Touching.{UntouchedIsFar-holds}
use Rattle.tm_runs.proofs.Meaning.{TouchedHasByte-holds}
use Rattle.tm_runs.proofs.laws.untouched_pages_are_far.Goals as goal

pub returns : goal.returns
returns c = record { far = UntouchedIsFar-holds; byte = TouchedHasByte-holds }
