use Rattle.tm_gate.proofs.Roots.{one_root}
use Rattle.tm_gate.proofs.laws.slots_spell_one.Goals as goal

pub returns : goal.returns
returns c = one_root
