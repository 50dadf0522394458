use Rattle.tm_store_records.proofs.Telling.{text_told}
use Rattle.tm_store_records.proofs.laws.text_is_told.Goals as goal

pub returns : goal.returns
returns c = λ records number machine sorted kept good.
    text_told c.spellings_are_found.ensures.snapshots c.spellings_are_found.ensures.nodes records number sorted kept good machine c.spellings_are_found.ensures.machines
