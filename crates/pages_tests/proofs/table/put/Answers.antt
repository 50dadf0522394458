use Rattle.std.proofs.Common.{rules, ◌<◌, ◌∷◌, [], length, arith, sym, subst}
use Rattle.std.specs.Ordering.{nat_cmp}
use Rattle.std.specs.BTreeMap.{insert_entry}
use Rattle.tm_records.specs.Records.{Records}
use Rattle.tm_pages.specs.Paged.{lengths}
use Rattle.pages_tests.specs.Tables.{IsChange}
use Rattle.pages_tests.proofs.Saving.{change_put, metas_of, change_for, put_metas, put_keys}
use Rattle.pages_tests.proofs.table.put.Goals as goal

pub save-requires-clause-metas : goal.save-requires-clause-metas
save-requires-clause-metas g c = metas_of c.insert.new.records.entries (put_metas c.args.table.records.entries c.insert.new.records.entries c.args.key c.args.fresh c.in_ok-insert.ensures c.requires.stands.metas c.requires.meta)

pub save-requires-clause-change : goal.save-requires-clause-change
save-requires-clause-change g c =
    let es : Records = c.args.table.records.entries in
    let some : 0 < length c.args.table.pages.items = search rules in
    let change : IsChange (insert_entry nat_cmp es c.args.key c.args.fresh) (lengths c.args.table.pages.items) c.args.table.holders.items (c.args.key ∷ []) =
    change_put es c.args.table.pages.items c.args.table.holders.items c.args.key some c.requires.stands.paged c.requires.stands.keys c.requires.stands.are c.changes_are_by_key.ensures.changes c.changes_are_by_key.ensures.numbers c.args.fresh c.ranges.key.fits in
    change_for c.insert.new.records.entries (c.args.key ∷ []) c.args.table.pages.items c.deref.result.now c.args.table.holders.items c.deref-2.result.now c.deref.ensures.value c.deref-2.ensures.value
    (subst (λ rs. IsChange rs (lengths c.args.table.pages.items) c.args.table.holders.items (c.args.key ∷ [])) (sym c.in_ok-insert.ensures) change)

pub returns : goal.returns
returns g c = record {
  keys = put_keys c.args.table.records.entries c.insert.new.records.entries c.args.key c.args.fresh c.in_ok-insert.ensures c.requires.stands.keys c.ranges.key.fits;
  metas = put_metas c.args.table.records.entries c.insert.new.records.entries c.args.key c.args.fresh c.in_ok-insert.ensures c.requires.stands.metas c.requires.meta;
  paged = c.in_ok-held.ensures.held.paged;
  are = c.in_ok-held.ensures.held.are;
  used = c.in_ok-held.ensures.held.used;
  are_marks = c.in_ok-held.ensures.marks;
  count = c.save.ensures.count;
  small = omega (arith, c.save.ensures.size, c.requires.stands.small);
}
