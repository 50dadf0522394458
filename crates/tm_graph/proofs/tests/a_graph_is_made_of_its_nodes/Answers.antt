use Rattle.std.proofs.Common.{[], arith}
use Rattle.tm_tree.specs.declared.node.NodeBody.TheVariants.{Leaf}
use Rattle.tm_graph.proofs.Greatest.{adds, none_is_graph}
use Rattle.tm_graph.proofs.Grown.{may_hold_none}
use Rattle.tm_graph.proofs.tests.a_graph_is_made_of_its_nodes.Goals as goal

pub from_nodes-requires : goal.from_nodes-requires
from_nodes-requires g c =
    rw (c.of.ensures, c.in_ok-vec.ensures.items) (adds [] 1 (Leaf c.in_ok-file.field-0) none_is_graph (omega arith) (may_hold_none [])).graph
