use Rattle.tm_text.specs.Words.{IsItem}
use Rattle.tm_text.proofs.OneWordLemmas.{store_path_one}
use Rattle.tm_text.proofs.words.item.Goals as goal

pub returns : goal.returns
unfolding IsItem
returns c = λ x is. c.in_default.not-Item x (store_path_one.one _ _ _ c.in_ok-item.ensures is)
