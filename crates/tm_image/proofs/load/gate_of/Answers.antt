use Rattle.std.proofs.Common.{◌≡◌, ⊎_elim, ◌<◌, ◌≤◌, ◌∙◌, ap, sym, subst, Err}
use Rattle.std.proofs.lemmas.Bool.{cases_lt}
use Rattle.tm_world.specs.Outside.{disk}
use Rattle.tm_world.specs.Log.{now}
use Rattle.tm_world.specs.declared.cause.Cause.TheVariants.{Slot}
use Rattle.tm_gate.specs.Load.{IsBadGate}
use Rattle.tm_gate.specs.declared.load.GateError.TheVariants.{Unformatted, BadSlot, Fault}
use Rattle.tm_image.proofs.Formatting.{lacks_from}
use Rattle.tm_image.proofs.load.gate_of.Goals as goal

pub returns-in-Err-Unformatted-clause-unformatted : goal.returns-in-Err-Unformatted-clause-unformatted
returns-in-Err-Unformatted-clause-unformatted g c told = λ is least.
    let same : c.load_gate.result ≡ Err (Unformatted c.in-Err-Unformatted.field-0-0) = c.in-Err-Unformatted.is ∙ ap (λ e. Err e) c.in-Err-Unformatted.field-0-is in
    lacks_from _ _ ((c.load_gate.ensures.unformatted told least (λ fault. let both : Err (Unformatted c.in-Err-Unformatted.field-0-0) ≡ Err Fault = sym same ∙ fault in cc) c.in-Err-Unformatted.field-0-0).0 same)

pub returns-in-Err-BadSlot-clause-bad : goal.returns-in-Err-BadSlot-clause-bad
returns-in-Err-BadSlot-clause-bad g c told = λ cause place is.
    let p = c.in-Err-BadSlot.place in
    let res : c.load_gate.result ≡ Err (BadSlot p) = c.in-Err-BadSlot.is ∙ ap (λ e. Err e) c.in-Err-BadSlot.field-0-is in
    let least : 3 ≤ c.args.blocks = ⊎_elim (λ (lt : c.args.blocks < 3). absurd (let both : Err (Unformatted 0) ≡ Err (BadSlot p) = sym (c.load_gate.ensures.small lt) ∙ res in cc)) (λ (le : 3 ≤ c.args.blocks). le) (cases_lt c.args.blocks 3) in
    let bad = (c.load_gate.ensures.bad told least (λ fault. let both : Err (BadSlot p) ≡ Err Fault = sym res ∙ fault in cc) p).0 res in
    let causes : cause ≡ Slot = cc in
    let places : p ≡ place = cc in
    (causes, subst (IsBadGate c.args.side c.args.blocks (disk c.args.side (now (g.W.World.log c.args.world.now))).bytes) places bad)
