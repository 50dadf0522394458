use Rattle.std.proofs.Common.{◌*◌}
use Rattle.tm_chain.proofs.Parts.{part_of}
use Rattle.tm_chain.proofs.blob.part_of_bytes.Goals as goal

pub returns-clause-part : goal.returns-clause-part
returns-clause-part c = part_of 4096 (4096 * c.args.k) _ c.args.bytes.now c.min.ensures
