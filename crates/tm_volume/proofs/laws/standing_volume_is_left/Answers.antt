use Rattle.tm_volume.proofs.Leaving.{stands_leaves}
use Rattle.tm_volume.proofs.laws.standing_volume_is_left.Goals as goal

pub returns : goal.returns
returns c = stands_leaves c.standing_is_read.ensures.left
