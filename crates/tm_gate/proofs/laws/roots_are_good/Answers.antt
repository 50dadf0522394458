use Rattle.tm_gate.proofs.Roots.{good_from_root, has_magic}
use Rattle.tm_gate.proofs.laws.roots_are_good.Goals as goal

pub returns : goal.returns
returns c side blocks root fits is = (has_magic root, good_from_root side blocks root fits is)
