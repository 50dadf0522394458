use Rattle.std.proofs.Common.{ap, length, sum, arith}
use Rattle.tm_blockmap.proofs.Bits.{length-marks_of}
use Rattle.tm_blockmap.proofs.BlockMap.free.Goals as goal

pub returns : goal.returns
returns c = omega (arith, c.self.invariant.free, ap sum c.self.view_is, ap length c.self.view_is, length-marks_of c.self.inside.count c.self.inside.words.items)
