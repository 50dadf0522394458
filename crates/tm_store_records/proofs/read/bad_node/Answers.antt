use Rattle.std.proofs.Common.{◌≡◌, ◌+◌, ◌^◌, ℕ, Option, Some, List, slice_get, sym, ap, ◌∙◌, subst}
use Rattle.std.specs.Prelude.{IfSome, IfNone}
use Rattle.std.proofs.lemmas.Option.{slice_get-get_or, slice_get_within}
use Rattle.tm_tree.specs.declared.node.NodeRow.{NodeRow}
use Rattle.tm_graph.specs.Nodes.{Nodes}
use Rattle.tm_store_records.specs.declared.snapshot.Snapshot.{Snapshot}
use Rattle.tm_store_records.specs.Found.{roots_of}
use Rattle.tm_store_records.specs.Rules.{IsGoodNode}
use Rattle.tm_store_records.specs.Drafts.{IsFirstBadNode, IsLeastFailing, NodesAreGoodAt}
use Rattle.tm_store_records.proofs.Least.{least_node, all_nodes}
use Rattle.tm_store_records.proofs.read.bad_node.Goals as goal

pub returns-in-Some : goal.returns-in-Some
returns-in-Some c =
    let g = c.args.draft.now.nodes.items in
    let ss = c.args.draft.now.snapshots.items in
    let number = c.args.number in
    let place = c.in-Some.place in
    let e = c.index.result.now in
    let told : IsFirstBadNode c.deref.result.now (roots_of c.deref-2.result.now) number place
    = subst (λ (o : Option ℕ). IfSome o (λ i. IsFirstBadNode c.deref.result.now (roots_of c.deref-2.result.now) number i)) c.in-Some.is c.in_ok-place.ensures.some in
    let first : IsFirstBadNode g (roots_of ss) number place = subst (λ (x : Nodes). IsFirstBadNode x (roots_of ss) number place) c.deref.ensures.value
    (subst (λ (x : List Snapshot). IsFirstBadNode c.deref.result.now (roots_of x) number place) c.deref-2.ensures.value told) in
    let lt = slice_get_within g place first.entry first.is in
    let is : slice_get g place ≡ Some e = slice_get-get_or g place e lt ∙ ap (λ (x : ℕ × NodeRow). Some x) (sym c.index.ensures) in
    subst (λ n. IsLeastFailing (NodesAreGoodAt g (roots_of ss) number) (Some (2 ^ 62 + n))) (sym c.id.view_is) (least_node g (roots_of ss) number place e c.requires.ordered.nodes_rise first is)

pub returns-in-None : goal.returns-in-None
returns-in-None c = all_nodes c.args.draft.now.nodes.items c.deref.result.now c.args.draft.now.snapshots.items c.deref-2.result.now c.args.number c.deref.ensures.value c.deref-2.ensures.value
    (subst (λ (o : Option ℕ). IfNone o ((i : ℕ) (e : ℕ × NodeRow) → slice_get c.deref.result.now i ≡ Some e → IsGoodNode c.deref.result.now (roots_of c.deref-2.result.now) c.args.number i e.0 e.1)) c.in-None.is c.in_ok-place.ensures.none)
