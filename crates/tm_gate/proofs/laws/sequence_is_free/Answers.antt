use Rattle.tm_gate.proofs.Roots.{IsRoot-after_root}
use Rattle.tm_gate.proofs.laws.sequence_is_free.Goals as goal

pub returns : goal.returns
returns c = IsRoot-after_root
