use Rattle.tm_base.proofs.DayLemmas.{moment_text_one}
use Rattle.tm_base.proofs.laws.moment_texts_differ.Goals as goal

pub returns : goal.returns
returns c = moment_text_one
