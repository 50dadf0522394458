use Rattle.std.proofs.Common.{take}
use Rattle.tm_index.specs.Folders.{numbers_in}
use Rattle.tm_changes.specs.Depths.{AreBelow}
use Rattle.tm_changes.proofs.moving.below.Given as goal

abbrev pub invariant-loop-number : goal.invariant-loop-number
invariant-loop-number l = AreBelow (numbers_in l.numbers) (take l.number-index l.level) l.next.items
