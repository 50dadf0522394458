use Rattle.tm_fit.proofs.Changing.{change_fits}
use Rattle.tm_fit.proofs.changes_fit.Goals as goal

pub returns : goal.returns
returns c = change_fits
