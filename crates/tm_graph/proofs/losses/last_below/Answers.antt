use Rattle.std.proofs.Common.{arith}
use Rattle.std.proofs.lemmas.Grind.{common_steps}
use Rattle.tm_graph.proofs.losses.last_below.Goals as goal

pub returns-in-Some-clause-greatest : goal.returns-in-Some-clause-greatest
returns-in-Some-clause-greatest c = λ q low high.
    let h = (c.range.ensures.in_range tt).4 _ _ c.in-Some.ensures.steps q in
    grind (arith, common_steps, h)
