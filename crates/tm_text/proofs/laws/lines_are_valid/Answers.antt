use Rattle.tm_text.proofs.BoundsLemmas.{script_valid}
use Rattle.tm_text.proofs.laws.lines_are_valid.Goals as goal

pub returns : goal.returns
returns c = λ script lines bytes p. script_valid script lines bytes p
