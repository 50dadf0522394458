use Rattle.std.proofs.Common.{arith}
use Rattle.std.proofs.lemmas.Grind.{common_steps}
use Rattle.std.proofs.lemmas.List.Folds.{list_any_more}
use Rattle.tm_snapshot.proofs.staged.add_all.Goals as goal

pub loop-block-preserved : goal.loop-block-preserved
loop-block-preserved c = λ b. grind (arith, common_steps, list_any_more, c.loop-block.invariant b)
