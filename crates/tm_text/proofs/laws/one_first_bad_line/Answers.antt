use Rattle.tm_text.proofs.OneMeaningLemmas.{first_bad_one}
use Rattle.tm_text.proofs.laws.one_first_bad_line.Goals as goal

pub returns : goal.returns
returns c = λ script m n p q. first_bad_one script m n p q
