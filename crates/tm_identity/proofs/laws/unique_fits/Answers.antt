use Rattle.tm_identity.proofs.Fits.{unique_fits}
use Rattle.tm_identity.proofs.laws.unique_fits.Goals as goal

pub returns : goal.returns
returns c = unique_fits
