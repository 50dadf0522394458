use Rattle.std.proofs.Common.{refl}
use Rattle.tm_codec.proofs.Laying.{filled}
use Rattle.tm_chain.proofs.blob.fill.Goals as goal

pub returns : goal.returns
returns c = filled 4096 _ c.args.block.now c.args.part.now _ c.requires.zeros refl c.copy_from_slice.ensures.after
