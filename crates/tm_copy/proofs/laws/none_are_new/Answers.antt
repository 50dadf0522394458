use Rattle.tm_copy.proofs.Finishes.{none_are_new}
use Rattle.tm_copy.proofs.laws.none_are_new.Goals as goal

pub returns : goal.returns
returns c = none_are_new
