use Rattle.std.proofs.Common.{rules, ◌<◌, ◌∷◌, [], length, arith, sym, subst}
use Rattle.std.specs.Ordering.{nat_cmp}
use Rattle.std.specs.List.Sorted.{IsStrictlySortedBy}
use Rattle.std.specs.Map.{keys_of}
use Rattle.tm_records.specs.Records.{Records}
use Rattle.tm_records.specs.Removes.{without}
use Rattle.tm_pages.specs.Paged.{lengths}
use Rattle.tm_runs.specs.Marks.{AreHolders}
use Rattle.pages_tests.proofs.Saving.{change_remove, metas_of, change_for, removed_metas, removed_keys}
use Rattle.pages_tests.proofs.table.remove.Goals as goal

pub save-requires-clause-metas : goal.save-requires-clause-metas
save-requires-clause-metas g c = metas_of c.args.table.records.entries c.requires.metas

pub save-requires-clause-change : goal.save-requires-clause-change
save-requires-clause-change g c =
    let es : Records = c.args.table.records.entries in
    let sorted : IsStrictlySortedBy nat_cmp (keys_of es) = search rules in
    let some : 0 < length c.args.table.pages.items = search rules in
    change_for (without (c.args.key ∷ []) es) (c.args.key ∷ []) c.args.table.pages.items c.deref.result.now c.args.table.holders.items c.deref-2.result.now c.deref.ensures.value c.deref-2.ensures.value
    (change_remove es c.args.table.pages.items c.args.table.holders.items c.args.key some c.requires.paged c.requires.keys c.requires.are c.changes_are_by_key.ensures.changes c.changes_are_by_key.ensures.numbers sorted)

pub returns : goal.returns
returns g c = record {
  keys = removed_keys c.args.table.records.entries c.take_out.new.records.entries c.args.key c.take_out.ensures c.requires.keys;
  metas = removed_metas c.args.table.records.entries c.take_out.new.records.entries c.args.key c.take_out.ensures c.requires.metas;
  paged = c.in_ok-held.ensures.held.paged;
  are = subst (λ es. AreHolders es (lengths c.in_ok-held.held.pages.items) c.in_ok-held.held.holders.items) (sym c.take_out.ensures) c.in_ok-held.ensures.held.are;
  used = c.in_ok-held.ensures.held.used;
  are_marks = c.in_ok-held.ensures.marks;
  count = c.save.ensures.count;
  small = omega (arith, c.save.ensures.size, c.requires.small);
}
