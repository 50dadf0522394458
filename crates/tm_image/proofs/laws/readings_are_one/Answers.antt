use Rattle.tm_image.proofs.Readings.{one_reading, reads_or_lacks, reads_or_fails, fails_or_lacks, one_failure}
use Rattle.tm_image.proofs.laws.readings_are_one.Goals as goal

pub returns-clause-reading : goal.returns-clause-reading
returns-clause-reading c = one_reading

pub returns-clause-formatted : goal.returns-clause-formatted
returns-clause-formatted c = reads_or_lacks

pub returns-clause-whole : goal.returns-clause-whole
returns-clause-whole c = reads_or_fails

pub returns-clause-checked : goal.returns-clause-checked
returns-clause-checked c = fails_or_lacks

pub returns-clause-failure : goal.returns-clause-failure
returns-clause-failure c = one_failure
