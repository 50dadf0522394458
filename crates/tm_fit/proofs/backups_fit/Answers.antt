use Rattle.tm_fit.proofs.Stores.{backup_fits}
use Rattle.tm_fit.proofs.backups_fit.Goals as goal

pub returns : goal.returns
returns c = backup_fits
