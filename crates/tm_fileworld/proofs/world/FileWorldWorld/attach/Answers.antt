-- Attaching itself counts nothing.
use Rattle.tm_fileworld.proofs.world.FileWorldWorld.attach.Goals as goal

pub returns-clause-never_less : goal.returns-clause-never_less
returns-clause-never_less g c = rw c.attach_part-done.ensures.faults at c.count.ensures.never_less

pub returns-clause-cause : goal.returns-clause-cause
returns-clause-cause g c = rw c.attach_part-done.ensures.faults at c.count.ensures.cause

pub returns-clause-counts : goal.returns-clause-counts
returns-clause-counts g c = rw c.attach_part-done.ensures.faults at c.count.ensures.counts
