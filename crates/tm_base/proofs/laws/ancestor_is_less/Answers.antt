use Rattle.tm_base.proofs.PathLemmas.{ancestor_less}
use Rattle.tm_base.proofs.laws.ancestor_is_less.Goals as goal

pub returns : goal.returns
returns c = ancestor_less
