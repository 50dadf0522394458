use Rattle.tm_exclude.proofs.Viewing.{view_is_tested}
use Rattle.tm_exclude.proofs.laws.view_is_tested.Goals as goal

pub returns : goal.returns
returns c = view_is_tested
