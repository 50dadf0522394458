use Rattle.std.proofs.Common.{◌*◌}
use Rattle.tm_chain.proofs.Parts.{part_of}
use Rattle.tm_chain.proofs.write.part_of_text.Goals as goal

pub returns-clause-part : goal.returns-clause-part
returns-clause-part c = part_of 4092 (4092 * c.args.k) _ c.args.text.now c.min.ensures
