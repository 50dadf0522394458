use Rattle.std.proofs.Common.{sym, subst}
use Rattle.tm_graph.specs.Nodes.{IsGraph}
use Rattle.tm_graph.proofs.Unlinked.{losses_are, losses_graph}
use Rattle.tm_graph.proofs.graph.Graph.unlink_roots.Goals as goal

pub invariant_of-self : goal.invariant_of-self
invariant_of-self c =
    let g = c.self.inside.nodes.entries in
    let roots = c.args.roots.now in
    let gone = c.in_ok-losses.losses.gone.items in
    let goes = c.in_ok-losses.ensures.lost in
    let is = losses_are g roots gone c.in_ok-losses.losses.thinned.items c.self.invariant goes c.apply.new.nodes.entries _ c.apply.ensures.in_order c.in_ok-losses.ensures.counts c.apply.ensures.each in
    subst IsGraph (sym is) (losses_graph g roots gone c.in_ok-losses.losses.thinned.items c.self.invariant goes (rw c.self.view_is c.requires))

pub returns-clause-left : goal.returns-clause-left
returns-clause-left c =
    let g = c.self.inside.nodes.entries in
    let gone = c.in_ok-losses.losses.gone.items in
    let is = losses_are g c.args.roots.now gone c.in_ok-losses.losses.thinned.items c.self.invariant c.in_ok-losses.ensures.lost c.apply.new.nodes.entries _ c.apply.ensures.in_order c.in_ok-losses.ensures.counts c.apply.ensures.each in
    rw (c.of.ensures, ← c.self.view_is) is
