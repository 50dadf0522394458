use Rattle.std.proofs.Common.{◌-◌, arith}
use Rattle.tm_blockmap.proofs.Filling.{filled-next, filled-marks, filled-free}
use Rattle.tm_blockmap.proofs.BlockMap.new.Goals as goal

pub loop-block-preserved : goal.loop-block-preserved
loop-block-preserved c = filled-next c.loop-block.block c.args.n c.loop-block.map _ (omega (arith, c.min-block-end.ensures)) c.loop-block.invariant c.claim.ensures.used

pub returns-clause-are_marks : goal.returns-clause-are_marks
returns-clause-are_marks c = filled-marks c.loop-block.block (c.args.n - c.loop-block.block) c.loop-block.map c.loop-block.invariant

pub returns-clause-free : goal.returns-clause-free
returns-clause-free c b lt = filled-free c.args.n c.args.kept c.loop-block.block b c.loop-block.map (omega (arith, c.min-block-end.ensures)) c.loop-block.invariant lt
