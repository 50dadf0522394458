use Rattle.std.proofs.Common.{◌≡◌, Some, None, ◌+◌, subst, sym}
use Rattle.std.proofs.lemmas.Result.{err_from_is_err_and}
use Rattle.tm_nodes.specs.Readers.{many, Fails}
use Rattle.tm_nodes.specs.Reading.{last_of, next_child_at}
use Rattle.tm_nodes.proofs.Loops.{IsRead, starts, goes_on, fails, ends}
use Rattle.tm_nodes.proofs.node.take_each_child.Goals as goal

pub loop-init : goal.loop-init
loop-init c = subst (λ front. IsRead next_child_at c.args.count 0 front c.args.bytes.now (many next_child_at c.args.count None c.args.bytes.now)) (sym c.new-entries.ensures.items) (starts next_child_at c.args.count c.args.bytes.now)

pub returns-in_err-child : goal.returns-in_err-child
returns-in_err-child c =
    let p = err_from_is_err_and c.from_residual.result c.from_residual.ensures.1 in
    rw (p.1, p.2) (fails next_child_at c.in_err-child.field-0.0 c.args.count c.loop.counter c.loop.entries.items c.loop.rest.now _ c.loop-test.true (subst (λ xs. Fails c.in_err-child.field-0.0 (next_child_at (last_of xs) c.loop.rest.now)) c.deref.ensures.value c.in_err-child.ensures) c.loop.invariant)

pub loop-preserved : goal.loop-preserved
loop-preserved c =
    subst (λ front. IsRead next_child_at c.args.count (c.loop.counter + 1) front c.in_ok-child.after.now (many next_child_at c.args.count None c.args.bytes.now)) (sym c.in_ok-push.ensures.items)
    (goes_on next_child_at c.args.count c.loop.counter c.loop.entries.items c.loop.rest.now c.in_ok-child.child c.in_ok-child.after.now _ c.loop-test.true (subst (λ xs. next_child_at (last_of xs) c.loop.rest.now ≡ Some (c.in_ok-child.child, c.in_ok-child.after.now)) c.deref.ensures.value c.in_ok-child.ensures) c.loop.invariant)

pub returns : goal.returns
returns c = ends next_child_at c.args.count c.loop.counter c.loop.entries.items c.loop.rest.now _ c.loop-test.false c.loop.invariant
