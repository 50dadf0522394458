use Rattle.std.proofs.Common.{◌∙◌, sym, subst}
use Rattle.tm_graph.specs.Nodes.{IsGraph}
use Rattle.tm_graph.proofs.Left.{is_left, left_is_graph}
use Rattle.tm_graph.proofs.Unlinked.{one_lost, one_gone, one_linked}
use Rattle.tm_graph.proofs.graph.Graph.unlink_root.Goals as goal

pub collect-requires : goal.collect-requires
collect-requires c = record { graph = c.self.invariant; linked = one_linked c.self.inside.nodes.entries c.args.root (rw (c.self.view_is) c.requires) }

pub invariant_of-self : goal.invariant_of-self
invariant_of-self c =
    let g = c.self.inside.nodes.entries in
    let root = c.args.root in
    let gone = c.in_ok-losses.losses.gone.items in
    let goes = one_gone g root gone c.in_ok-losses.losses.thinned.items c.in_ok-losses.ensures.lost in
    let is = is_left g c.apply.new.nodes.entries root gone _ c.self.invariant goes c.apply.ensures.in_order (λ q. c.in_ok-losses.ensures.counts q ∙ one_lost g root gone q) c.apply.ensures.each in
    subst IsGraph (sym is) (left_is_graph g root gone c.self.invariant (rw (c.self.view_is) c.requires) goes)

pub returns-clause-gone : goal.returns-clause-gone
returns-clause-gone c =
    let g = c.self.inside.nodes.entries in
    let gone = c.in_ok-losses.losses.gone.items in
    let goes = one_gone g c.args.root gone c.in_ok-losses.losses.thinned.items c.in_ok-losses.ensures.lost in
    rw (c.of.ensures, ← c.self.view_is) goes

pub returns-clause-left : goal.returns-clause-left
returns-clause-left c =
    let g = c.self.inside.nodes.entries in
    let root = c.args.root in
    let gone = c.in_ok-losses.losses.gone.items in
    let goes = one_gone g root gone c.in_ok-losses.losses.thinned.items c.in_ok-losses.ensures.lost in
    let is = is_left g c.apply.new.nodes.entries root gone _ c.self.invariant goes c.apply.ensures.in_order (λ q. c.in_ok-losses.ensures.counts q ∙ one_lost g root gone q) c.apply.ensures.each in
    rw (c.of.ensures, ← c.self.view_is) is
