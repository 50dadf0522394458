use Rattle.tm_run.proofs.SayLemmas.{said_beside, said_part, said_whole, speaks_at}
use Rattle.tm_run.proofs.output.say.Goals as goal

pub returns-clause-said : goal.returns-clause-said
returns-clause-said g c told =
    let says = c.say.ensures.says told in
    said_whole (g.W.World.log c.args.world.now) (g.W.World.log c.say.new.self) c.args.text.now says.0 c.say.result says.1 says.2

pub returns-clause-cut : goal.returns-clause-cut
returns-clause-cut g c told =
    let says = c.say.ensures.says told in
    said_part (g.W.World.log c.args.world.now) (g.W.World.log c.say.new.self) c.args.text.now says.0 says.2

pub returns-clause-pair : goal.returns-clause-pair
returns-clause-pair g c told =
    let says = c.say.ensures.says told in
    said_beside (g.W.World.log c.args.world.now) (g.W.World.log c.say.new.self) c.args.text.now says.0 says.2

pub returns-clause-any_moment : goal.returns-clause-any_moment
returns-clause-any_moment g c told =
    let says = c.say.ensures.says told in
    speaks_at (g.W.World.log c.args.world.now) (g.W.World.log c.say.new.self) c.args.text.now says.0 says.2
