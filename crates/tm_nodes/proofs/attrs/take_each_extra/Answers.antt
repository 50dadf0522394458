use Rattle.std.proofs.Common.{None, ◌+◌, subst, sym, ◌∙◌}
use Rattle.std.proofs.lemmas.Result.{err_from_is_err_and}
use Rattle.tm_base.specs.Paths.{name_cmp}
use Rattle.tm_nodes.specs.Readers.{many}
use Rattle.tm_nodes.specs.Reading.{next_extra_at}
use Rattle.tm_nodes.proofs.Loops.{IsRead, starts, goes_on, fails, ends}
use Rattle.tm_nodes.proofs.Orders.{insert_above}
use Rattle.tm_nodes.proofs.attrs.take_each_extra.Goals as goal

pub loop-init : goal.loop-init
loop-init c = subst (λ front. IsRead next_extra_at c.args.count 0 front c.args.bytes.now (many next_extra_at c.args.count None c.args.bytes.now)) (sym c.new-extras.ensures) (starts next_extra_at c.args.count c.args.bytes.now)

pub returns-in_err-name : goal.returns-in_err-name
returns-in_err-name c =
    let p = err_from_is_err_and c.from_residual.result c.from_residual.ensures.1 in
    rw (p.1, p.2) (fails next_extra_at c.in_err-name.field-0.0 c.args.count c.loop.counter c.loop.extras c.loop.rest.now _ c.loop-test.true c.in_err-name.ensures.read c.loop.invariant)

pub loop-preserved : goal.loop-preserved
loop-preserved c =
    let last = c.in_ok-put.ensures.ok ∙ insert_above name_cmp c.loop.extras c.in_ok-name.name c.in_ok-name.value c.in_ok-name.ensures.above in
    subst (λ front. IsRead next_extra_at c.args.count (c.loop.counter + 1) front c.in_ok-name.after.now (many next_extra_at c.args.count None c.args.bytes.now)) (sym last)
    (goes_on next_extra_at c.args.count c.loop.counter c.loop.extras c.loop.rest.now (c.in_ok-name.name, c.in_ok-name.value) c.in_ok-name.after.now _ c.loop-test.true c.in_ok-name.ensures.read c.loop.invariant)

pub returns : goal.returns
returns c = ends next_extra_at c.args.count c.loop.counter c.loop.extras c.loop.rest.now _ c.loop-test.false c.loop.invariant
