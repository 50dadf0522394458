use Rattle.tm_world.specs.declared.world.Side.{Side}
use Rattle.pages_tests.specs.Tables.{HasPages}
use Rattle.pages_tests.proofs.table.after.Given as goal

abbrev pub invariant-loop-step : goal.invariant-loop-step
invariant-loop-step g l = HasPages l.table (g.W.World.blocks l.world Side.Volume)
