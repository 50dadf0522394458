use Rattle.std.proofs.Common.{[], arith}
use Rattle.tm_changes.proofs.Creating.{new_writes}
use Rattle.tm_changes.proofs.new_items.plan_new.Goals as goal

pub place_edit-requires-clause-number : goal.place_edit-requires-clause-number
place_edit-requires-clause-number c = (c.in-Some.ensures.some (λ _. [])).high

pub returns : goal.returns
returns c = new_writes c.args.volume.now c.rules.ensures.shelved c.args.path.now c.args.item c.args.moment c.in_ok-folder.field-0 c.in_ok-folder.ensures.finds c.in-Some.number c.in_ok-place_edit.field-0
    c.in_ok-place_edit.ensures.place c.in_ok-place_edit.ensures.next c.names.ensures.short (omega arith) c.in-Some.ensures.some

pub unreachable-requires : goal.unreachable-requires
unreachable-requires c = omega (arith, c.in_default.ensures.many, c.in_ok-folder.ensures.fewer)
