use Rattle.tm_text.proofs.tmutil.tmutil_line.Goals as goal

pub returns-in-AddExclusion : goal.returns-in-AddExclusion
returns-in-AddExclusion c = rw c.in-AddExclusion.is c.add_exclusion.ensures

pub returns-in-RemoveExclusion : goal.returns-in-RemoveExclusion
returns-in-RemoveExclusion c = rw c.in-RemoveExclusion.is c.remove_exclusion.ensures
