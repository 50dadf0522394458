use Rattle.std.proofs.Common.{◌+◌, Some, sym, subst, arith}
use Rattle.tm_base.specs.IsName.{IsName}
use Rattle.tm_tree.specs.declared.record.ItemRow.{ItemRow}
use Rattle.tm_tree.specs.Trees.{last_of}
use Rattle.tm_changes.specs.Placing.{IsNewRow}
use Rattle.tm_changes.proofs.Planning.{new_row}
use Rattle.tm_changes.proofs.creation.creation_of.Goals as goal
use Rattle.tm_nodes.proofs.Fields.{name_had}

pub returns-clause-row : goal.returns-clause-row
returns-clause-row c =
    let called = c.in_ok-name.ensures in
    let named = subst (λ (x : _). IsName x) called (name_had c.in_ok-name.name c.as_bytes.ensures.name) in
    subst (λ (row : ItemRow). IsNewRow row c.args.folder (last_of c.args.path.now) (c.args.drawn + 2)) (λ i. record { parent = c.args.folder; name = Some (sym called i); body = sym c.new_body.ensures i })
    (new_row c.args.path.now c.args.item c.args.folder c.args.date c.args.drawn c.requires.change c.requires.folder named (omega arith) c.requires.drawn.0 c.requires.drawn.1)
