use Rattle.tm_volume.proofs.Leaving.{one_side}
use Rattle.tm_volume.proofs.laws.sides_read_as_one.Goals as goal

pub returns : goal.returns
returns c = one_side c.readings_are_one.ensures.reading c.readings_are_one.ensures.formatted
