use Rattle.tm_text.proofs.OneMeaningLemmas.{spell_one}
use Rattle.tm_text.proofs.laws.one_meaning.Goals as goal

pub returns : goal.returns
returns c = λ script x y p q. spell_one _ x y p q
