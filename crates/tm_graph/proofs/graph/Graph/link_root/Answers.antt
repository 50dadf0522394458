use Rattle.tm_graph.proofs.Linked.{linked_is_graph, root_links-linked}
use Rattle.tm_graph.proofs.graph.Graph.link_root.Goals as goal

pub invariant_of-self : goal.invariant_of-self
invariant_of-self c =
    linked_is_graph c.self.inside.nodes.entries c.gain.new.nodes.entries c.number.inside.0 c.self.invariant (rw (c.self.view_is, c.number.view_is) c.requires.few) c.gain.ensures.in_order c.gain.ensures.here c.gain.ensures.others

pub returns-clause-root : goal.returns-clause-root
returns-clause-root c =
    rw (c.gain.ensures.entries, ← c.self.view_is, ← c.number.view_is)
    (root_links-linked c.self.inside.nodes.entries c.number.inside.0 c.self.invariant (rw (c.self.view_is, c.number.view_is) c.requires.there) (rw (c.self.view_is, c.number.view_is) c.requires.few))
