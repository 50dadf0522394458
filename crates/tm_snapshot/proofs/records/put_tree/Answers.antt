use Rattle.tm_snapshot.proofs.Listing.{tree_puts_more, one_step}
use Rattle.tm_snapshot.proofs.records.put_tree.Goals as goal

pub loop-place-preserved : goal.loop-place-preserved
loop-place-preserved c = one_step _ _ _ _ _ _ c.in_ok-put_node.ensures c.loop-place.invariant (tree_puts_more c.args.graph.now c.args.last c.loop-place.place)
