use Rattle.std.proofs.Common.{ℕ, ap, ◌∙◌}
use Rattle.tm_world.specs.declared.world.Side.{Side}
use Rattle.tm_fileworld.proofs.world.tests.block_of.Goals as goal

pub returns-in-Ok : goal.returns-in-Ok
returns-in-Ok g c = ap (λ (f : Side → ℕ). f c.args.side) c.read.ensures.blocks ∙ c.requires.blocks

pub returns-in-Err : goal.returns-in-Err
returns-in-Err g c = ap (λ (f : Side → ℕ). f c.args.side) c.read.ensures.blocks ∙ c.requires.blocks
