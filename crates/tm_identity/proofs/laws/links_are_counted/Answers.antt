use Rattle.tm_identity.proofs.Counted.{links_counted}
use Rattle.tm_identity.proofs.laws.links_are_counted.Goals as goal

pub returns : goal.returns
returns c = links_counted
