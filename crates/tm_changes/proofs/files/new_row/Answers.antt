use Rattle.std.proofs.Common.{Some, sym, subst, arith}
use Rattle.tm_nodes.specs.Items.{IsItemOfSize}
use Rattle.tm_tree.specs.declared.node.LeafRow.TheVariants as leaf
use Rattle.tm_tree.specs.declared.record.ItemBody.TheVariants as body
use Rattle.tm_tree.specs.declared.record.ItemRow.{ItemRow}
use Rattle.tm_changes.proofs.Written.{new_file_is}
use Rattle.tm_changes.proofs.files.new_row.Goals as goal
use Rattle.tm_nodes.proofs.Fields.{name_had}

pub returns-clause-rules : goal.returns-clause-rules
returns-clause-rules c =
    let attrs = sym c.new.ensures in
    subst (λ (row : ItemRow). IsItemOfSize c.args.size row) (λ i. record { parent = c.args.folder; name = Some c.in_ok-name.name; body = body.Leaf (leaf.File (attrs i) c.args.stamp c.args.size) })
    (new_file_is c.args.folder c.in_ok-name.name c.args.moment c.args.stamp c.args.size c.requires.folder (name_had c.in_ok-name.name c.as_bytes.ensures.name) (omega arith) (omega arith))
