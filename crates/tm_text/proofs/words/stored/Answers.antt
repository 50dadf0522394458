use Rattle.tm_text.specs.Words.{IsStored}
use Rattle.tm_text.specs.declared.place.Stored.TheVariants as stored
use Rattle.tm_text.proofs.OneWordLemmas.{store_path_one}
use Rattle.tm_text.proofs.words.stored.Goals as goal

pub returns : goal.returns
unfolding IsStored
returns c =
    λ x. elim x as (λ s. IsStored c.args.word.now s → ⊥) [
      | stored.Snapshot s ↦ λ is. c.in_default.not-Snapshot s (store_path_one.one _ _ _ c.in_ok-snapshot.ensures is)
      | stored.Item i ↦ λ is. c.in_default.not-Item i (store_path_one.one _ _ _ c.in_ok-snapshot.ensures is)
    ]
