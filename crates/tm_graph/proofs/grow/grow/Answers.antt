use Rattle.std.proofs.Common.{◌∙◌, ap, arith}
use Rattle.std.specs.Option.{option_map}
use Rattle.tm_graph.specs.Nodes.{Nodes, node, links_of, more}
use Rattle.tm_graph.specs.Growing.{gain}
use Rattle.tm_graph.proofs.Growing.{all_sorted, gains_fit, grown_is}
use Rattle.tm_graph.proofs.grow.grow.Goals as goal

pub count_gains-requires : goal.count_gains-requires
count_gains-requires c = λ q. omega (arith, ap (λ (new : Nodes). gain new c.args.root q) c.as_slice.ensures.value, c.requires.may.few q)

pub put_all-requires : goal.put_all-requires
put_all-requires c = all_sorted c.args.nodes.now.entries c.args.new.items c.args.root c.requires.graph c.requires.may

pub gain_counted-requires : goal.gain_counted-requires
gain_counted-requires c = λ q.
    let fits = gains_fit c.args.nodes.now.entries c.args.new.items c.args.root c.requires.graph c.requires.may q in
    omega (arith, fits, ap (λ (h : Nodes). links_of h q) c.in_ok-put_all.ensures.ok, c.in_ok-gains.ensures q, ap (λ (new : Nodes). gain new c.args.root q) c.as_slice.ensures.value)

pub returns-clause-ok : goal.returns-clause-ok
returns-clause-ok c =
    let g = c.args.nodes.now.entries in
    let new = c.args.new.items in
    let root = c.args.root in
    grown_is g new root c.requires.graph c.requires.may c.gain_counted.new.nodes.entries c.gain_counted.ensures.in_order (λ q.
    c.gain_counted.ensures.each q
    ∙ ap (λ n. option_map (more n) (node c.put_all.new.nodes.entries q)) (c.in_ok-gains.ensures q ∙ ap (λ (new : Nodes). gain new root q) c.as_slice.ensures.value)
    ∙ ap (λ (h : Nodes). option_map (more (gain new root q)) (node h q)) c.in_ok-put_all.ensures.ok)
