use Rattle.std.proofs.Common.{refl}
use Rattle.tm_image.proofs.Standing.{stands_reads}
use Rattle.tm_image.proofs.laws.standing_is_read.Goals as goal

pub returns-clause-left : goal.returns-clause-left
returns-clause-left c = stands_reads

pub returns-clause-itself : goal.returns-clause-itself
returns-clause-itself c m d sound settled room stands = stands_reads m d sound settled room stands (record { count = d.count; bytes = d.bytes }) (record { count = refl; stable = λ b tight. refl })
