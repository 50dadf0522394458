use Rattle.std.proofs.Common.{◌≡◌, take}
use Rattle.tm_image.specs.Commit.{released_len}
use Rattle.tm_image.proofs.prepare.count_released.Given as goal

abbrev pub invariant-loop-undo : goal.invariant-loop-undo
invariant-loop-undo l = l.count ≡ released_len (take l.undo-index l.log)
