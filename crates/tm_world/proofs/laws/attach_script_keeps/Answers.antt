use Rattle.tm_world.proofs.Keeping.{attach_script_keeps}
use Rattle.tm_world.proofs.laws.attach_script_keeps.Goals as goal

pub returns : goal.returns
returns c = attach_script_keeps
