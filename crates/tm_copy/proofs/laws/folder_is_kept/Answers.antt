use Rattle.tm_copy.proofs.Finishes.{folder_is_kept}
use Rattle.tm_copy.proofs.laws.folder_is_kept.Goals as goal

pub returns : goal.returns
returns c = folder_is_kept
