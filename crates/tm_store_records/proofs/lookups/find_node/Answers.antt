use Rattle.std.proofs.Common.{ℕ, rules, sym}
use Rattle.std.specs.Ordering.{nat_cmp}
use Rattle.std.proofs.lemmas.Fn.{always_returns_same}
use Rattle.tm_tree.specs.declared.node.NodeRow.{NodeRow}
use Rattle.tm_store_records.proofs.Placed.{found, not_found, searchable}
use Rattle.tm_store_records.proofs.lookups.find_node.Goals as goal

pub returns-in-Ok : goal.returns-in-Ok
returns-in-Ok c =
    let g = c.args.nodes.now in
    let n = c.args.number in
    let at = c.in-Ok.ensures.position (λ (e : ℕ × NodeRow). nat_cmp e.0 n) (always_returns_same _ _ _ (λ a r after called. search rules)) in
    let d = c.index-nodes-place.result in
    sym (found g n c.in-Ok.place d c.requires c.in-Ok.ensures.bound (at d))

pub returns-in-Err : goal.returns-in-Err
returns-in-Err c =
    let g = c.args.nodes.now in
    let n = c.args.number in
    let part = c.in-Err.ensures.position (λ (e : ℕ × NodeRow). nat_cmp e.0 n) (always_returns_same _ _ _ (λ a r after called. search rules)) in
    sym (not_found g n c.in-Err.field-0 c.requires (part (searchable g n c.requires)))
