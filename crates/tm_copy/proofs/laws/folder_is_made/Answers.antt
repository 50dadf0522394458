use Rattle.tm_copy.proofs.Finishes.{folder_is_made}
use Rattle.tm_copy.proofs.laws.folder_is_made.Goals as goal

pub returns : goal.returns
returns c = folder_is_made
