use Rattle.std.proofs.Common.{◌≡◌, ◌<◌, ap, Err, length, drop, ◌+◌, arith}
use Rattle.tm_base.specs.declared.refused.LineFault.TheVariants as fault
use Rattle.tm_tree.specs.Listings.{entries_of, list_rows}
use Rattle.tm_volume.specs.Seen.{tree_on}
use Rattle.tm_machine.proofs.Exits.{err_met}
use Rattle.tm_machine.proofs.ListingLemmas.{entry_at, on_in_order, push_more, row_here}
use Rattle.tm_machine.proofs.listing.push_entries.Goals as goal

pub loop-row-preserved : goal.loop-row-preserved
loop-row-preserved c bytes folder stands is same =
    let i = c.loop-row.row-index in
    let row = c.row-item.result in
    let low : i < length c.args.entries.now = omega arith in
    let t = tree_on c.args.volume.now bytes in
    let here = row_here i row c.args.entries.now (list_rows t c.args.path.now) low c.row-item.is same in
    let e = entry_at t (on_in_order c.args.volume.now bytes) c.args.path.now folder stands is i row here.0 here.1 in
    push_more c.loop-row.rows c.push.new.self _ c.in_ok-line.line (row.name, e.item) (drop i (entries_of t c.args.path.now)) (drop (i + 1) (entries_of t c.args.path.now))
    c.in_ok-push.ensures.ok (c.in_ok-line.ensures.row bytes e.item e.kind_is e.walks) e.next (c.loop-row.invariant bytes folder stands is same)

pub returns-in_err-line-clause-refused : goal.returns-in_err-line-clause-refused
returns-in_err-line-clause-refused c bytes folder stands is same why e_is =
    let i = c.loop-row.row-index in
    let row = c.row-item.result in
    let low : i < length c.args.entries.now = omega arith in
    let t = tree_on c.args.volume.now bytes in
    let here = row_here i row c.args.entries.now (list_rows t c.args.path.now) low c.row-item.is same in
    let e = entry_at t (on_in_order c.args.volume.now bytes) c.args.path.now folder stands is i row here.0 here.1 in
    c.in_err-line.ensures.refused bytes e.item why e.walks (ap Err (err_met c.from_residual.result c.in_err-line.field-0.0 (fault.Refused why) c.from_residual.ensures.1 e_is))
