use Rattle.std.proofs.Common.{ℕ, arith, ap}
use Rattle.tm_graph.specs.Nodes.{times, row_names}
use Rattle.tm_tree.specs.declared.node.NodeRow.{NodeRow}
use Rattle.tm_graph.proofs.Joining.{gain_next}
use Rattle.tm_graph.proofs.grow.count_gains.Goals as goal

pub count_all-requires : goal.count_all-requires
count_all-requires c = λ q.
    let next = gain_next c.args.new.now c.args.root q c.loop-row.row-index c.loop-row-item.result c.loop-row-test.true in
    let here = ap (times q) c.children_of.ensures in
    let is = ap (λ (e : ℕ × NodeRow). row_names q e.1) c.loop-row-item.is in
    omega (arith, next, here, is, c.loop-row.invariant q, c.requires q)
