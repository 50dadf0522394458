use Rattle.std.proofs.Common.{◌≡◌, ℕ, ◌+◌, ◌<◌, ◌≤◌, ◌^◌, ◌∙◌, sym, ap, subst, arith, refl, [], is_some, true}
use Rattle.std.specs.Ordering.{nat_cmp}
use Rattle.std.specs.BTreeMap.{insert_entry}
use Rattle.tm_tree.specs.declared.node.NodeBody.TheVariants.{Leaf}
use Rattle.tm_tree.specs.declared.node.NodeRow.{NodeRow}
use Rattle.tm_graph.specs.Nodes.{IsGraph, Nodes, node, greatest, gained, new_node}
use Rattle.tm_graph.proofs.Grown.{grown_is_graph, gained_none, may_hold_none}
use Rattle.tm_graph.proofs.graph.Graph.add_file.Goals as goal

pub invariant_of-self-2 : goal.invariant_of-self-2
invariant_of-self-2 c =
    let g = c.self.inside.nodes.entries in
    let number = c.greatest-number.result + 1 in
    let row : NodeRow = new_node c.args.label (Leaf c.args.row) in
    let may = may_hold_none g in
    let above : (q : ℕ) → is_some (node g q) ≡ true → q < number = λ q t. omega (arith, c.greatest-number.ensures.above q (subst (λ (g : Nodes). is_some (node g q) ≡ true) c.self.view_is t)) in
    let low : number ≤ 2 ^ 62 = omega (arith, c.requires, c.greatest-number.ensures.number) in
    let is = grown_is_graph g [] number c.self.invariant may above row refl refl low in
    subst IsGraph (sym (c.in_ok-put.ensures.ok ∙ ap (λ (g : Nodes). insert_entry nat_cmp g number row) (sym (gained_none g)))) is

pub returns-clause-ok : goal.returns-clause-ok
returns-clause-ok c =
    let g = c.self.inside.nodes.entries in
    let row : NodeRow = new_node c.args.label (Leaf c.args.row) in
    c.in_ok-put.ensures.ok ∙ ap (λ (g : Nodes). insert_entry nat_cmp g (c.greatest-number.result + 1) row) (sym (gained_none g))
    ∙ ap (λ n. insert_entry nat_cmp (gained [] g) (n + 1) row) c.greatest-number.ensures.number
    ∙ ap (λ (h : Nodes). insert_entry nat_cmp (gained [] h) (greatest c.args.self.now + 1) row) c.self.view_is
