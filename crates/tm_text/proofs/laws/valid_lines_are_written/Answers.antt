use Rattle.tm_text.proofs.WrittenLemmas.{script_of}
use Rattle.tm_text.proofs.laws.valid_lines_are_written.Goals as goal

pub returns : goal.returns
returns c = λ line v. script_of line v
