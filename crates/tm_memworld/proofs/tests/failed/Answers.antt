use Rattle.std.proofs.Common.{◌∙◌, rules}
use Rattle.tm_memworld.proofs.tests.failed.Goals as goal

pub loop-i-preserved : goal.loop-i-preserved
loop-i-preserved c = record { blocks = λ side. (λ i. c.fails.ensures i side) ∙ c.loop-i.invariant.blocks side; six = search rules }
