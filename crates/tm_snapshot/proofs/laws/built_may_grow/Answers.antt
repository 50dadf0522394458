use Rattle.tm_snapshot.proofs.Finishing.{finishing, joining}
use Rattle.tm_snapshot.proofs.Joined.{may_join}
use Rattle.tm_snapshot.proofs.Fitting.{have_records}
use Rattle.tm_snapshot.proofs.laws.built_may_grow.Goals as goal

pub returns-clause-joins : goal.returns-clause-joins
returns-clause-joins c = λ h built date volume id mark may. may_join (joining (finishing h built date volume id mark may c.spellings_are_found.ensures.nodes))

pub returns-clause-records : goal.returns-clause-records
returns-clause-records c = λ h built date volume id mark may. have_records (finishing h built date volume id mark may c.spellings_are_found.ensures.nodes)
