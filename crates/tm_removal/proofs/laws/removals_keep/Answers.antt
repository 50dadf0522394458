use Rattle.tm_removal.proofs.Leaving.{is_left}
use Rattle.tm_removal.proofs.laws.removals_keep.Goals as goal

pub returns : goal.returns
returns c = λ g roots staying removed st split. is_left g roots staying removed st split
