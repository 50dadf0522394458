use Rattle.tm_volume_records.proofs.Numbering.{walk_here, walk_stops, walk_more, walk_ends}
use Rattle.std.proofs.Common.{arith, sym}
use Rattle.tm_volume_records.proofs.indexing.climbs.Goals as goal

pub returns-then-at-eq1 : goal.returns-then-at-eq1
returns-then-at-eq1 c = λ items are. walk_here items c.args.positions.now are c.args.number c.loop-step.at c.loop-step._step (c.loop-step.invariant items are) c.if-at-eq1.true

pub returns-in-None : goal.returns-in-None
returns-in-None c = λ items are. walk_stops items c.args.positions.now are c.args.number c.loop-step.at c.loop-step._step (c.loop-step.invariant items are) c.if-at-eq1.false (sym c.in-None.ensures)

pub loop-step-preserved : goal.loop-step-preserved
loop-step-preserved c = λ items are. walk_more items c.args.positions.now are c.args.number c.loop-step.at c.loop-step._step (c.loop-step.invariant items are) (omega arith) c.if-at-eq1.false c.in-Some.position.now (sym c.in-Some.ensures)

pub returns : goal.returns
returns c = λ items are. walk_ends items c.args.positions.now are c.args.number c.loop-step.at c.loop-step._step (c.loop-step.invariant items are) (omega arith)
