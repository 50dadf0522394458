use Rattle.tm_text.specs.Words.{IsSnapshot}
use Rattle.tm_text.proofs.OneWordLemmas.{store_path_one}
use Rattle.tm_text.proofs.words.snapshot.Goals as goal

pub returns : goal.returns
unfolding IsSnapshot
returns c = λ x is. c.in_default.not-Snapshot x (store_path_one.one _ _ _ c.in_ok-snapshot.ensures is)
