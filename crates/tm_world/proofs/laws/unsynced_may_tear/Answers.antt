use Rattle.tm_world.proofs.Tearing.{unsynced_may_tear}
use Rattle.tm_world.proofs.laws.unsynced_may_tear.Goals as goal

pub returns : goal.returns
returns c = unsynced_may_tear
