use Rattle.std.proofs.Common.{arith, sym}
use Rattle.tm_codec.proofs.Laying.{laid}
use Rattle.tm_chain.proofs.write.lay.Goals as goal

pub returns : goal.returns
returns c = laid 4096 4 _ c.args.block.now c.args.front.now c.args.part.now _ _ c.requires.zeros (sym c.told-front) (omega arith) c.copy_from_slice.ensures.after c.copy_from_slice-2.ensures.after
