use Rattle.tm_snapshot.proofs.Finishing.{finishing}
use Rattle.tm_snapshot.proofs.Keeping.{are_grown}
use Rattle.tm_snapshot.proofs.Finished.{is_completed, is_stored}
use Rattle.tm_snapshot.proofs.laws.puts_grow.Goals as goal

pub returns-clause-grow : goal.returns-clause-grow
returns-clause-grow c = λ h built date volume id mark may. are_grown (finishing h built date volume id mark may c.spellings_are_found.ensures.nodes) c.spellings_are_read_again.ensures.nodes c.spellings_are_read_again.ensures.snapshots

pub returns-clause-completed : goal.returns-clause-completed
returns-clause-completed c = λ h built date volume id mark records bytes may is. is_completed (finishing h built date volume id mark may c.spellings_are_found.ensures.nodes) records is bytes

pub returns-clause-stored : goal.returns-clause-stored
returns-clause-stored c = λ h built date volume id mark records bytes may is. is_stored (finishing h built date volume id mark may c.spellings_are_found.ensures.nodes) records is bytes
