use Rattle.tm_fit.proofs.Stores.{later_generation_fits}
use Rattle.tm_fit.proofs.later_generations_fit.Goals as goal

pub returns : goal.returns
returns c = later_generation_fits
