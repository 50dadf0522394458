use Rattle.std.proofs.Common.{ap}
use Rattle.tm_tree.specs.declared.node.NodeRow.{NodeRow}
use Rattle.tm_copy.specs.Making.{file_length}
use Rattle.tm_copy.proofs.Making.{file_making}
use Rattle.tm_copy.proofs.builder.Builder.file.Goals as goal

pub invariant_of-self-2 : goal.invariant_of-self-2
invariant_of-self-2 c =
    file_making c.self.inside.label c.self.inside.first c.self.inside.nodes.items c.push_file.new.nodes.items c.self.inside.blobs.items c.push_file.new.blobs.items c.next-number.result c.new_row-row.result c.args.blob
    c.in_ok-push_file.ensures.nodes c.in_ok-push_file.ensures.blobs (ap (λ (r : NodeRow). file_length r.body) c.new_row-row.ensures) c.self.invariant
