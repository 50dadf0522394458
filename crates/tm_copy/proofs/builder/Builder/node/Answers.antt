use Rattle.std.proofs.Common.{ap, ◌∙◌}
use Rattle.tm_tree.specs.declared.node.NodeRow.{NodeRow}
use Rattle.tm_copy.specs.Making.{file_length}
use Rattle.tm_copy.proofs.Making.{node_making}
use Rattle.tm_copy.proofs.builder.Builder.node.Goals as goal

pub invariant_of-self-2 : goal.invariant_of-self-2
invariant_of-self-2 c =
    node_making c.self.inside.label c.self.inside.first c.self.inside.nodes.items c.push_node.new.nodes.items c.self.inside.blobs.items c.next-number.result c.new_row-row.result
    c.in_ok-push_node.ensures.ok (ap (λ (r : NodeRow). file_length r.body) c.new_row-row.ensures ∙ c.requires) c.self.invariant
