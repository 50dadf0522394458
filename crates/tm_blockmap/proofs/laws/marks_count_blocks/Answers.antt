use Rattle.tm_blockmap.proofs.Counting.{length-sum, length-le-sum}
use Rattle.tm_blockmap.proofs.laws.marks_count_blocks.Goals as goal

pub returns : goal.returns
returns c = record { equal = length-sum; most = length-le-sum }
