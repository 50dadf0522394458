use Rattle.std.proofs.Common.{rules, sym}
use Rattle.std.proofs.lemmas.Fn.{always_returns_same}
use Rattle.tm_base.specs.Paths.{name_cmp}
use Rattle.tm_tree.specs.declared.node.Child.{Child}
use Rattle.tm_graph.proofs.ChildLemmas.{child_found, child_between, searchable}
use Rattle.tm_graph.proofs.walk.child_named.Goals as goal

pub returns-in-Ok : goal.returns-in-Ok
returns-in-Ok c =
    let es = c.args.children.now in
    let name = c.args.name.now in
    let at = c.in-Ok.ensures.position (λ (child : Child). name_cmp child.name name) (always_returns_same _ _ _ (λ a r after called. search rules)) in
    sym (child_found es name c.in-Ok.place c.index-children-place.result c.requires c.in-Ok.ensures.bound (at c.index-children-place.result))

pub returns-in-Err : goal.returns-in-Err
returns-in-Err c =
    let es = c.args.children.now in
    let name = c.args.name.now in
    let part = c.in-Err.ensures.position (λ (child : Child). name_cmp child.name name) (always_returns_same _ _ _ (λ a r after called. search rules)) in
    sym (child_between es name c.in-Err.field-0 (part (searchable es name c.requires)))
