use Rattle.std.proofs.Common.{◌≡◌, ◌∙◌, ap, sym, Some, None, rules}
use Rattle.std.specs.Ordering.{nat_cmp}
use Rattle.std.specs.BTreeMap.{insert_entry, is_at}
use Rattle.std.specs.Map.{remove_entry}
use Rattle.tm_records.specs.Records.{at}
use Rattle.tm_records.proofs.Maps.{insert_twice, insert_found, remove_inserted, balance_insert}
use Rattle.tm_records.proofs.put.place.Goals as goal

pub returns-in-Ok-None-clause-undo : goal.returns-in-Ok-None-clause-undo
returns-in-Ok-None-clause-undo c =
    let was : at c.args.key c.args.records.now.entries ≡ None = sym (sym c.in-Ok-None.field-0-is ∙ c.in-Ok-None.ensures.old) in
    (tt, ap (remove_entry (is_at (nat_cmp c.args.key))) c.in-Ok-None.ensures.entries ∙ remove_inserted _ _ _ was)

pub returns-in-Ok-None-clause-balance : goal.returns-in-Ok-None-clause-balance
returns-in-Ok-None-clause-balance c =
    balance_insert c.args.records.now.entries _ c.args.key c.args.fresh None c.in-Ok-None.ensures.was_ordered (sym c.in-Ok-None.field-0-is ∙ c.in-Ok-None.ensures.old) c.in-Ok-None.ensures.entries

pub returns-in-Ok-Some-clause-undo : goal.returns-in-Ok-Some-clause-undo
returns-in-Ok-Some-clause-undo c =
    let was : at c.args.key c.args.records.now.entries ≡ Some c.in-Ok-Some.old = sym (sym c.in-Ok-Some.field-0-is ∙ c.in-Ok-Some.ensures.old) in (
      search rules,
      ap (λ es. insert_entry nat_cmp es c.args.key c.in-Ok-Some.old) c.in-Ok-Some.ensures.entries
          ∙ insert_twice c.args.records.now.entries c.args.key c.args.fresh c.in-Ok-Some.old ∙ insert_found c.args.records.now.entries c.args.key c.in-Ok-Some.old c.in-Ok-Some.ensures.was_ordered was,
    )

pub returns-in-Ok-Some-clause-balance : goal.returns-in-Ok-Some-clause-balance
returns-in-Ok-Some-clause-balance c =
    balance_insert c.args.records.now.entries _ c.args.key c.args.fresh (Some c.in-Ok-Some.old) c.in-Ok-Some.ensures.was_ordered (sym c.in-Ok-Some.field-0-is ∙ c.in-Ok-Some.ensures.old) c.in-Ok-Some.ensures.entries
