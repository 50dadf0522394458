use Rattle.std.proofs.Common.{arith}
use Rattle.std.proofs.lemmas.Grind.{common_steps}
use Rattle.tm_nodes.specs.Readers.{and_then, only_if}
use Rattle.tm_nodes.specs.Reading.{target_at}
use Rattle.tm_nodes.proofs.Fields.{is_target-is}
use Rattle.tm_nodes.proofs.field.take_target.Goals as goal

pub returns-then-not-is_target : goal.returns-then-not-is_target
unfolding target_at and_then only_if
returns-then-not-is_target c = let same = is_target-is c.in_ok-part.part.now c.is_target.result c.is_target.ensures in grind (arith, common_steps)

pub returns : goal.returns
unfolding target_at and_then only_if
returns c = let same = is_target-is c.in_ok-part.part.now c.is_target.result c.is_target.ensures in grind (arith, common_steps)
