use Rattle.std.proofs.Common.{◌≡◌, Some, None, length, vec_len, subst, sym, arith}
use Rattle.std.proofs.lemmas.Result.{err_from_is_err_and}
use Rattle.tm_nodes.specs.Readers.{to_end}
use Rattle.tm_nodes.specs.Reading.{next_row_at}
use Rattle.tm_nodes.proofs.Loops.{limit_begins, limit_reads, limit_fails, closes, some_left, none_left}
use Rattle.tm_nodes.proofs.RowLemmas.{row_shorter}
use Rattle.tm_nodes.proofs.rows.take_rows.Goals as goal

pub loop-alloc-init : goal.loop-alloc-init
loop-alloc-init c = (omega (arith, c.new-rows.ensures.len), limit_begins next_row_at (length c.args.bytes.now) _ _ c.args.bytes.now c.new-rows.ensures.len c.new-rows.ensures.items)

pub returns-in_err-row : goal.returns-in_err-row
returns-in_err-row c =
    let p = err_from_is_err_and c.from_residual.result c.from_residual.ensures.1 in
    let some = some_left c.is_empty.result c.loop-alloc.rest.now c.is_empty.ensures c.loop-alloc-test.true in
    rw (p.1, p.2)
    (limit_fails next_row_at c.in_err-row.field-0.0 (length c.args.bytes.now) (vec_len c.loop-alloc.rows) c.loop-alloc.rows.items c.deref.result.now c.loop-alloc.rest.now _ (omega (arith, c.loop-alloc.invariant.0)) c.deref.ensures.value some c.in_err-row.ensures c.loop-alloc.invariant.1)

pub loop-alloc-smaller : goal.loop-alloc-smaller
loop-alloc-smaller c = row_shorter _ c.loop-alloc.rest.now c.in_ok-row.after.now c.in_ok-row.row c.in_ok-row.ensures

pub loop-alloc-preserved : goal.loop-alloc-preserved
loop-alloc-preserved c =
    let some = some_left c.is_empty.result c.loop-alloc.rest.now c.is_empty.ensures c.loop-alloc-test.true in
    let shorter = row_shorter _ c.loop-alloc.rest.now c.in_ok-row.after.now c.in_ok-row.row c.in_ok-row.ensures in (
      omega (arith, c.in_ok-push.ensures.len, c.loop-alloc.invariant.0, shorter),
      limit_reads next_row_at (length c.args.bytes.now) (vec_len c.loop-alloc.rows) _ c.loop-alloc.rows.items c.deref.result.now _ c.loop-alloc.rest.now c.in_ok-row.row c.in_ok-row.after.now _
          (omega (arith, c.loop-alloc.invariant.0)) c.in_ok-push.ensures.len c.deref.ensures.value c.in_ok-push.ensures.items some c.in_ok-row.ensures c.loop-alloc.invariant.1,
    )

pub returns : goal.returns
returns c =
    let none = none_left c.is_empty.result c.loop-alloc.rest.now c.is_empty.ensures c.loop-alloc-test.false in
    subst (λ xs. to_end next_row_at (length c.args.bytes.now) None c.args.bytes.now ≡ Some (xs, c.loop-alloc.rest.now)) (sym c.of.ensures)
    (closes next_row_at _ c.loop-alloc.rows.items c.loop-alloc.rest.now _ none c.loop-alloc.invariant.1)
