use Rattle.std.proofs.Common.{refl}
use Rattle.tm_tree.proofs.Passes.{dated_moment}
use Rattle.tm_plain.proofs.volume.Volume.make.Goals as goal

pub unwrap-requires-in-Fill : goal.unwrap-requires-in-Fill
unwrap-requires-in-Fill c = dated_moment c.args.self.now.contents c.args.change.now _ c.args.moment c.in-Fill.is refl c.requires

pub unwrap-requires-in-Mv : goal.unwrap-requires-in-Mv
unwrap-requires-in-Mv c = dated_moment c.args.self.now.contents c.args.change.now _ c.args.moment c.in-Mv.is refl c.requires
