use Rattle.std.proofs.Common.{◌≡◌, ◌+◌, refl, ◌∙◌, ap, take, arith}
use Rattle.std.proofs.lemmas.List.{take_all}
use Rattle.tm_gate.specs.Fields.{number}
use Rattle.tm_gate.proofs.Numbers.{number-take_more, number-take-le}
use Rattle.tm_gate.proofs.field.read_number.Goals as goal

pub loop-byte-init : goal.loop-byte-init
unfolding number
loop-byte-init c = record { is = refl; fits = omega arith }

pub returns-in_err-checked_mul : goal.returns-in_err-checked_mul
returns-in_err-checked_mul c =
    let next = number-take_more c.args.bytes.now c.loop-byte.byte-index (omega arith) in
    rw c.from_residual.ensures (λ small. omega (arith, next, number-take-le c.args.bytes.now (c.loop-byte.byte-index + 1), c.loop-byte.invariant.is, c.in_err-checked_mul.ensures))

pub returns-in_err-value : goal.returns-in_err-value
returns-in_err-value c =
    let next = number-take_more c.args.bytes.now c.loop-byte.byte-index (omega arith) in
    rw c.from_residual-in_err-value.ensures (λ small. omega (arith, next, number-take-le c.args.bytes.now (c.loop-byte.byte-index + 1), c.loop-byte.invariant.is, c.in_ok-checked_mul.ensures, c.from.ensures, c.in_err-value.ensures))

pub loop-byte-preserved : goal.loop-byte-preserved
loop-byte-preserved c =
    let next = number-take_more c.args.bytes.now c.loop-byte.byte-index (omega arith) in
    record {
      is = omega (arith, next, c.loop-byte.invariant.is, c.in_ok-checked_mul.ensures, c.from.ensures, c.in_ok-value.ensures);
      fits = omega (arith, c.in_ok-value.ensures);
    }

pub returns : goal.returns
returns c =
    let whole : take c.loop-byte.byte-index c.args.bytes.now ≡ c.args.bytes.now = take_all _ _ (omega arith) in
    let is : c.loop-byte.value ≡ number c.args.bytes.now = c.loop-byte.invariant.is ∙ ap number whole in
    (omega (arith, is), is)
