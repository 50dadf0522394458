use Rattle.std.proofs.Common.{◌∙◌, sym, ap, length}
use Rattle.tm_blockmap.proofs.Bits.{length-marks_of}
use Rattle.tm_blockmap.proofs.BlockMap.size.Goals as goal

pub returns : goal.returns
returns c = sym (length-marks_of _ _) ∙ ap length c.self.view_is
