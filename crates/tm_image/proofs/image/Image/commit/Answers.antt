use Rattle.tm_world.proofs.Going.{Runs-none}
use Rattle.tm_image.proofs.image.Image.commit.Goals as goal

pub returns-in-Err-clause-any_moment : goal.returns-in-Err-clause-any_moment
returns-in-Err-clause-any_moment g c told = Runs-none c.args.self.now.side _ (g.W.World.log c.args.world.now)
