use Rattle.tm_volume.proofs.Leaving.{blank_leaves}
use Rattle.tm_volume.proofs.laws.blank_is_left.Goals as goal

pub returns : goal.returns
returns c = blank_leaves
