use Rattle.std.proofs.Common.{◌≡◌, Some, None, vec_len, subst, sym, arith}
use Rattle.std.proofs.lemmas.Result.{err_from_is_err_and}
use Rattle.tm_nodes.specs.Readers.{to_end}
use Rattle.tm_nodes.specs.Reading.{next_path_at}
use Rattle.tm_nodes.proofs.Loops.{limit_begins, limit_reads, limit_fails, limit_fills, closes, some_left, none_left}
use Rattle.tm_nodes.proofs.path.take_paths.Goals as goal

pub loop-alloc-init : goal.loop-alloc-init
loop-alloc-init c = (omega (arith, c.new-paths.ensures.len), limit_begins next_path_at 256 _ _ c.args.bytes.now c.new-paths.ensures.len c.new-paths.ensures.items)

pub returns-then-len-ge-MAX_FIXED : goal.returns-then-len-ge-MAX_FIXED
returns-then-len-ge-MAX_FIXED c =
    let some = some_left c.is_empty.result c.loop-alloc.rest.now c.is_empty.ensures c.loop-alloc-test.true in
    limit_fills next_path_at 256 (vec_len c.loop-alloc.paths) c.loop-alloc.paths.items c.loop-alloc.rest.now _ (omega arith) some c.loop-alloc.invariant.1

pub returns-in_err-path : goal.returns-in_err-path
returns-in_err-path c =
    let p = err_from_is_err_and c.from_residual.result c.from_residual.ensures.1 in
    let some = some_left c.is_empty.result c.loop-alloc.rest.now c.is_empty.ensures c.loop-alloc-test.true in
    rw (p.1, p.2)
    (limit_fails next_path_at c.in_err-path.field-0.0 256 (vec_len c.loop-alloc.paths) c.loop-alloc.paths.items c.deref.result.now c.loop-alloc.rest.now _ (omega arith) c.deref.ensures.value some c.in_err-path.ensures c.loop-alloc.invariant.1)

pub loop-alloc-preserved : goal.loop-alloc-preserved
loop-alloc-preserved c =
    let some = some_left c.is_empty.result c.loop-alloc.rest.now c.is_empty.ensures c.loop-alloc-test.true in (
      omega (arith, c.in_ok-push.ensures.len),
      limit_reads next_path_at 256 (vec_len c.loop-alloc.paths) _ c.loop-alloc.paths.items c.deref.result.now _ c.loop-alloc.rest.now c.in_ok-path.path c.in_ok-path.after.now _
          (omega arith) c.in_ok-push.ensures.len c.deref.ensures.value c.in_ok-push.ensures.items some c.in_ok-path.ensures c.loop-alloc.invariant.1,
    )

pub returns : goal.returns
returns c =
    let none = none_left c.is_empty.result c.loop-alloc.rest.now c.is_empty.ensures c.loop-alloc-test.false in
    subst (λ xs. to_end next_path_at 256 None c.args.bytes.now ≡ Some (xs, c.loop-alloc.rest.now)) (sym c.of.ensures)
    (closes next_path_at _ c.loop-alloc.paths.items c.loop-alloc.rest.now _ none c.loop-alloc.invariant.1)
