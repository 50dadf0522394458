use Rattle.tm_copy.proofs.Telling.{agreeing_tell}
use Rattle.tm_copy.proofs.laws.agreeing_tell.Goals as goal

pub returns : goal.returns
returns c = agreeing_tell
