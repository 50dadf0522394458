use Rattle.std.proofs.Common.{◌≡◌, ℕ, true, is_some, Some, sym, ap, ◌∙◌, subst}
use Rattle.std.specs.List.{All}
use Rattle.tm_tree.specs.declared.node.NodeRow.{NodeRow}
use Rattle.tm_graph.specs.Nodes.{Nodes, node}
use Rattle.tm_graph.specs.Growing.{grown}
use Rattle.tm_nodes.specs.Nodes.{IsNodeRow}
use Rattle.tm_store_records.specs.Held.{Held}
use Rattle.tm_store.proofs.store.Store.join.Goals as goal

pub all_records-requires-clause-files : goal.all_records-requires-clause-files
all_records-requires-clause-files c =
    let grows : grown c.args.self.now.nodes c.args.built.nodes c.args.built.root ≡ c.grow.new.self = ap (λ (q : Held). grown q.nodes c.args.built.nodes c.args.built.root) (sym c.self.view_is) ∙ sym c.in_ok-grow.ensures.ok in
    subst (λ (x : Nodes). All (λ b. is_some (node x b.0) ≡ true) c.args.built.blobs) grows c.requires.records.files

pub all_records-requires-clause-rules : goal.all_records-requires-clause-rules
all_records-requires-clause-rules c =
    let grows : grown c.args.self.now.nodes c.args.built.nodes c.args.built.root ≡ c.grow.new.self = ap (λ (q : Held). grown q.nodes c.args.built.nodes c.args.built.root) (sym c.self.view_is) ∙ sym c.in_ok-grow.ensures.ok in
    subst (λ (x : Nodes). (q : ℕ) (row : NodeRow) → node x q ≡ Some row → IsNodeRow row) grows c.requires.records.rules
