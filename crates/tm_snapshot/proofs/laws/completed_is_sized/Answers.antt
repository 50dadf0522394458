use Rattle.tm_snapshot.proofs.Sized.{completed_sized}
use Rattle.tm_snapshot.proofs.laws.completed_is_sized.Goals as goal

pub returns : goal.returns
returns c = λ h built date volume id mark bytes whole is_built most. completed_sized h built whole is_built c.spellings_are_found.ensures.nodes most c.held_files.ensures bytes date volume id mark c.sizes_are_told.ensures
