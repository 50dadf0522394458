use Rattle.tm_machine.proofs.StoredLemmas.{child_lines_more}
use Rattle.tm_machine.proofs.stored.push_children.Goals as goal

pub loop-child-preserved : goal.loop-child-preserved
loop-child-preserved c =
    child_lines_more c.args.graph.now c.args.children.now c.loop-child.child-index c.child-item.result c.loop-child.rows c.push_child.new.rows c.args.rows.now
    c.loop-child-test.true c.child-item.is c.in_ok-push_child.ensures c.loop-child.invariant
