use Rattle.tm_copy.proofs.Finishes.{base_goes_down}
use Rattle.tm_copy.proofs.laws.base_goes_down.Goals as goal

pub returns : goal.returns
returns c = base_goes_down
