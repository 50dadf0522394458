use Rattle.tm_chain.proofs.Held.{filled_is_held, part_of_held}
use Rattle.tm_chain.proofs.laws.filled_blocks_hold.Goals as goal

pub returns : goal.returns
returns c = record { filled = filled_is_held; part = part_of_held }
