use Rattle.tm_snapshot.proofs.Finishing.{finishing}
use Rattle.tm_snapshot.proofs.Telling.{need_told}
use Rattle.tm_snapshot.proofs.laws.need_is_told.Goals as goal

pub returns : goal.returns
returns c = λ h built date volume id mark may. need_told (finishing h built date volume id mark may c.spellings_are_found.ensures.nodes) c.text_is_told.ensures (c.puts_grow.ensures.grow h built date volume id mark may) c.table_is_told.ensures
