use Rattle.std.proofs.Common.{sym, ap, ◌∙◌}
use Rattle.std.specs.Option.{option_copied}
use Rattle.tm_backup.proofs.Basing.{root_of_last, root_of_other, last_found}
use Rattle.tm_backup.proofs.finish.base_of.Goals as goal

pub returns-then-last-id : goal.returns-then-last-id
returns-then-last-id c =
    let s = c.args.store.now in
    let last = c.in_ok-last.last.now in
    root_of_last s c.args.id last (last_found s last c.as_slice.result.now (c.as_slice.ensures ∙ c.snapshots.ensures) (sym c.last.ensures.value ∙ ap option_copied c.in_ok-last.was)) c.if-last-id.true

pub returns-else-last-id : goal.returns-else-last-id
returns-else-last-id c =
    let s = c.args.store.now in
    let last = c.in_ok-last.last.now in
    root_of_other s c.args.id last (last_found s last c.as_slice.result.now (c.as_slice.ensures ∙ c.snapshots.ensures) (sym c.last.ensures.value ∙ ap option_copied c.in_ok-last.was)) c.if-last-id.false
