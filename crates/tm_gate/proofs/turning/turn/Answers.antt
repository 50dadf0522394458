use Rattle.tm_gate.proofs.Calls.{leaves_now}
use Rattle.tm_gate.proofs.turning.turn.Goals as goal

pub returns-in_err-name_other-clause-leaves : goal.returns-in_err-name_other-clause-leaves
returns-in_err-name_other-clause-leaves g c told = leaves_now c.args.side _ _ _ _ _ _ _ c.to_slot-slot.ensures (c.requires.gate told) (c.name_other.ensures.any_moment told)

pub returns-clause-leaves : goal.returns-clause-leaves
returns-clause-leaves g c told = leaves_now c.args.side _ _ _ _ _ _ _ c.to_slot-slot.ensures (c.requires.gate told) (c.name_other.ensures.any_moment told)
