use Rattle.tm_text.proofs.OneMeaningLemmas.{first_bad_outside}
use Rattle.tm_text.proofs.laws.bad_is_outside.Goals as goal

pub returns : goal.returns
returns c = λ script n lines b p. first_bad_outside script n lines b p
