use Rattle.tm_copy.proofs.Naming.{rows_stand_in}
use Rattle.tm_copy.proofs.laws.rows_stand_in.Goals as goal

pub returns : goal.returns
returns c = rows_stand_in
