use Rattle.tm_graph.specs.Growing.{MayGrow}
use Rattle.tm_graph.proofs.Growing.{graph_on}
use Rattle.tm_graph.proofs.graph.Graph.grow.Goals as goal

pub invariant_of-self : goal.invariant_of-self
invariant_of-self c =
    let g = c.self.inside.nodes.entries in
    let new = c.into_list.result.items in
    let may : MayGrow g new c.root.inside.0 = rw (c.self.view_is, c.into_list.ensures, c.root.view_is) c.requires in
    graph_on g new c.root.inside.0 c.self.invariant may c.grow.result c.grow.new.nodes.entries c.grow.ensures.ok c.grow.ensures.err
