use Rattle.std.proofs.Common.{◌≡◌, ℕ, ◌+◌, ◌<◌, ◌≤◌, ◌^◌, ◌∙◌, sym, ap, subst, arith, refl, is_some, true}
use Rattle.std.specs.Ordering.{nat_cmp}
use Rattle.std.specs.BTreeMap.{insert_entry}
use Rattle.tm_tree.specs.declared.node.NodeBody.TheVariants.{Folder}
use Rattle.tm_tree.specs.declared.node.NodeRow.{NodeRow}
use Rattle.tm_graph.specs.Nodes.{IsGraph, Nodes, node, greatest, gained, new_node, MayHold}
use Rattle.tm_graph.proofs.Grown.{none_at, not_named, grown_is, grown_is_graph}
use Rattle.tm_graph.proofs.graph.Graph.add_folder.Goals as goal

pub add_folder_to-requires-clause-not_itself : goal.add_folder_to-requires-clause-not_itself
add_folder_to-requires-clause-not_itself c =
    let g = c.args.self.now in
    let number = c.greatest-number.result + 1 in
    let is : IsGraph g = subst IsGraph c.self.view_is c.self.invariant in
    let above : (q : ℕ) → is_some (node g q) ≡ true → q < number = λ q t. omega (arith, c.greatest-number.ensures.above q t) in
    not_named g c.args.entries number is c.requires.entries above number (none_at g c.args.entries number is c.requires.entries above number (omega arith))

pub invariant_of-self-2 : goal.invariant_of-self-2
invariant_of-self-2 c =
    let g = c.self.inside.nodes.entries in
    let number = c.greatest-number.result + 1 in
    let row : NodeRow = new_node c.args.label (Folder c.args.attrs c.args.entries) in
    let may : MayHold g c.args.entries = subst (λ (g : Nodes). MayHold g c.args.entries) (sym c.self.view_is) c.requires.entries in
    let above : (q : ℕ) → is_some (node g q) ≡ true → q < number = λ q t. omega (arith, c.greatest-number.ensures.above q (subst (λ (g : Nodes). is_some (node g q) ≡ true) c.self.view_is t)) in
    let low : number ≤ 2 ^ 62 = omega (arith, c.requires.low, c.greatest-number.ensures.number) in
    let told = c.in_ok-add_folder_to.ensures in
    subst IsGraph (sym (grown_is g c.args.entries number c.self.invariant may above row refl refl c.add_folder_to.new.nodes.entries told.in_order told.here told.others))
    (grown_is_graph g c.args.entries number c.self.invariant may above row refl refl low)

pub returns-clause-ok : goal.returns-clause-ok
returns-clause-ok c =
    let g = c.self.inside.nodes.entries in
    let number = c.greatest-number.result + 1 in
    let row : NodeRow = new_node c.args.label (Folder c.args.attrs c.args.entries) in
    let may : MayHold g c.args.entries = subst (λ (g : Nodes). MayHold g c.args.entries) (sym c.self.view_is) c.requires.entries in
    let above : (q : ℕ) → is_some (node g q) ≡ true → q < number = λ q t. omega (arith, c.greatest-number.ensures.above q (subst (λ (g : Nodes). is_some (node g q) ≡ true) c.self.view_is t)) in
    let told = c.in_ok-add_folder_to.ensures in
    grown_is g c.args.entries number c.self.invariant may above row refl refl c.add_folder_to.new.nodes.entries told.in_order told.here told.others
    ∙ ap (λ n. insert_entry nat_cmp (gained c.args.entries g) (n + 1) row) c.greatest-number.ensures.number
    ∙ ap (λ (h : Nodes). insert_entry nat_cmp (gained c.args.entries h) (greatest c.args.self.now + 1) row) c.self.view_is
