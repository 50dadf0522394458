use Rattle.tm_gate.proofs.Stopping.{one_is_whole}
use Rattle.tm_gate.proofs.laws.one_slot_is_whole.Goals as goal

pub returns : goal.returns
returns c = one_is_whole
