use Rattle.std.proofs.Common.{◌≡◌, None, ◌+◌, length, refl, subst, sym, arith}
use Rattle.std.proofs.lemmas.List.{length_push}
use Rattle.std.proofs.lemmas.Result.{err_from_is_err_and}
use Rattle.tm_nodes.specs.Readers.{many}
use Rattle.tm_nodes.specs.Reading.{name_at}
use Rattle.tm_nodes.proofs.Loops.{IsRead, starts, goes_on, fails, ends}
use Rattle.tm_nodes.proofs.path.take_each_name.Goals as goal

pub loop-init : goal.loop-init
loop-init c =
    let all = many (λ before. name_at) c.args.count None c.args.bytes.now in
    subst (λ front. (length front ≡ 0) × IsRead (λ before. name_at) c.args.count 0 front c.args.bytes.now all) (sym c.root-path.ensures) (refl, starts (λ before. name_at) c.args.count c.args.bytes.now)

pub returns-in_err-name : goal.returns-in_err-name
returns-in_err-name c =
    let p = err_from_is_err_and c.from_residual.result c.from_residual.ensures.1 in
    rw (p.1, p.2) (fails (λ before. name_at) c.in_err-name.field-0.0 c.args.count c.loop.counter c.loop.path c.loop.rest.now _ c.loop-test.true c.in_err-name.ensures c.loop.invariant.1)

pub loop-preserved : goal.loop-preserved
loop-preserved c =
    let all = many (λ before. name_at) c.args.count None c.args.bytes.now in
    let more = goes_on (λ before. name_at) c.args.count c.loop.counter c.loop.path c.loop.rest.now c.in_ok-name.name c.in_ok-name.after.now all c.loop-test.true c.in_ok-name.ensures c.loop.invariant.1 in
    let len = length_push c.loop.path c.in_ok-name.name in
    subst (λ front. (length front ≡ c.loop.counter + 1) × IsRead (λ before. name_at) c.args.count (c.loop.counter + 1) front c.in_ok-name.after.now all) (sym c.in_ok-push.ensures.ok)
    (omega (arith, len, c.loop.invariant.0), more)

pub returns : goal.returns
returns c = ends (λ before. name_at) c.args.count c.loop.counter c.loop.path c.loop.rest.now _ c.loop-test.false c.loop.invariant.1
