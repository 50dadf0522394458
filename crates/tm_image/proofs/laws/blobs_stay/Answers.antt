use Rattle.tm_image.proofs.Standing.{held_same}
use Rattle.tm_image.proofs.laws.blobs_stay.Goals as goal

pub returns : goal.returns
returns c blocks old new count within same = held_same blocks new old count within same
