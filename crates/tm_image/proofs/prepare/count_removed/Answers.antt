use Rattle.std.proofs.Common.{arith}
use Rattle.tm_image.proofs.Removing.{removed_more}
use Rattle.tm_image.proofs.prepare.count_removed.Goals as goal

pub loop-key-preserved : goal.loop-key-preserved
loop-key-preserved c = removed_more c.args.keys.now c.loop-key.key-index c.loop-key.count _ c.args.records.now.entries c.requires.rising c.loop-key-test.true c.loop-key.invariant (omega (arith, c.blocks_at-count.ensures.is))
