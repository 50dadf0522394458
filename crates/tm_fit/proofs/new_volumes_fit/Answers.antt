use Rattle.tm_fit.proofs.Stores.{new_volume_fits, new_volume_alone_fits}
use Rattle.tm_fit.proofs.new_volumes_fit.Goals as goal

pub returns-clause-store : goal.returns-clause-store
returns-clause-store c = new_volume_fits

pub returns-clause-alone : goal.returns-clause-alone
returns-clause-alone c = new_volume_alone_fits
