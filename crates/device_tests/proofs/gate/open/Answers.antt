use Rattle.std.proofs.Common.{◌≡◌, ap, sym, ◌∙◌, Err}
use Rattle.tm_gate.specs.declared.load.GateError.TheVariants.{Unformatted, Fault}
use Rattle.device_tests.proofs.Opening.{at_rest}
use Rattle.device_tests.proofs.gate.open.Goals as goal

pub returns-in-Ok-clause-gate : goal.returns-in-Ok-clause-gate
returns-in-Ok-clause-gate g c told =
    at_rest c.args.side _ _ _ c.in-Ok.gate.named (c.in_ok-sync.ensures.ok told) (c.load_gate.ensures.steps told) (c.in-Ok.ensures.gate told).selected

pub returns-else-blocks-lt3-clause-gate : goal.returns-else-blocks-lt3-clause-gate
returns-else-blocks-lt3-clause-gate g c told =
    let same : c.load_gate.result ≡ Err (Unformatted c.in-Err-Unformatted.named) = c.in-Err-Unformatted.is ∙ ap (λ e. Err e) c.in-Err-Unformatted.field-0-is in
    let is = (c.load_gate.ensures.unformatted told c.if-blocks-lt3.false (λ fault. let both : Err (Unformatted c.in-Err-Unformatted.named) ≡ Err Fault = sym same ∙ fault in cc) c.in-Err-Unformatted.named).0 same in
    at_rest c.args.side _ _ _ c.in-Err-Unformatted.named (c.in_ok-sync.ensures.ok told) (c.load_gate.ensures.steps told) is.selected
