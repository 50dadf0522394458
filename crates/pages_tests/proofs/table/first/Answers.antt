use Rattle.std.proofs.Common.{◌∙◌, arith, ap}
use Rattle.std.specs.List.{sum}
use Rattle.std.specs.Ordering.{nat_cmp}
use Rattle.std.specs.BTreeMap.{insert_entry}
use Rattle.tm_pages.specs.Paged.{lengths}
use Rattle.pages_tests.proofs.Saving.{first_whole}
use Rattle.pages_tests.proofs.table.first.Goals as goal

pub holders_of-requires-clause-whole : goal.holders_of-requires-clause-whole
holders_of-requires-clause-whole g c =
    ap (λ ps. sum (lengths ps)) c.deref.ensures.value
    ∙ first_whole c.insert.new.records.entries c.args.key c.args.fresh c.in_ok-text.text (sum (lengths c.in_ok-plan.plan.pages.items)) (c.in_ok-insert.ensures ∙ ap (λ rs. insert_entry nat_cmp rs c.args.key c.args.fresh) c.new-records.ensures.empty) c.ranges.key.fits
    c.changes_are_by_key.ensures.numbers c.in_ok-text.ensures (omega (arith, c.in_ok-plan.ensures.long))
