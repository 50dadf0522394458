use Rattle.tm_fileworld.proofs.world.FileWorldWorld.read.Goals as goal

pub returns-clause-counts : goal.returns-clause-counts
returns-clause-counts g c = rw c.part.ensures at c.count.ensures.counts
