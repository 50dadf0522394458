use Rattle.std.proofs.Common.{◌≡◌, length}
use Rattle.tm_world.specs.declared.world.Side.{Side}
use Rattle.tm_memworld.specs.World.{blocks_of}
use Rattle.tm_memworld.proofs.tests.failed.Given as goal

abbrev pub invariant-loop-i : goal.invariant-loop-i
invariant-loop-i l = record { blocks : (side : Side) → blocks_of l.world side ≡ 4; six : length l.failed ≡ 6 }
