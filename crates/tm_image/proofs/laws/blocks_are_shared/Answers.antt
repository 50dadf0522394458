use Rattle.std.proofs.Common.{arith}
use Rattle.tm_blockmap.proofs.Counting.{marks_sum}
use Rattle.tm_image.proofs.Owning.{counted}
use Rattle.tm_image.proofs.Preparing.{table_is}
use Rattle.tm_image.proofs.laws.blocks_are_shared.Goals as goal

pub returns-clause-table : goal.returns-clause-table
returns-clause-table c = table_is

pub returns-clause-shared : goal.returns-clause-shared
returns-clause-shared c m blobs sound are = omega (arith, counted m.used m.layout blobs m.records (λ b. omega (arith, are b, sound.owners b)), marks_sum m.used sound.marks)
