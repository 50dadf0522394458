use Rattle.tm_testing.proofs.Stable.{stable}
use Rattle.tm_testing.proofs.device.attach_stable.Goals as goal

pub returns-clause-stable : goal.returns-clause-stable
returns-clause-stable g c told = stable c.args.side (g.W.World.log c.attach.new.world) (g.W.World.log c.sync.new.self) (c.in_ok-sync.ensures.ok told)
