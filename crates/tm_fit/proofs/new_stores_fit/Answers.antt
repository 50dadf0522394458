use Rattle.tm_fit.proofs.Stores.{new_store_fits}
use Rattle.tm_fit.proofs.new_stores_fit.Goals as goal

pub returns : goal.returns
returns c = new_store_fits
