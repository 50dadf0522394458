use Rattle.tm_run.proofs.PathLemmas.{side_moment}
use Rattle.tm_run.proofs.laws.sides_are_paths.Goals as goal

pub returns : goal.returns
returns c vb zb lines h is p q create start here now at on = side_moment c.commits_end.ensures.opening vb zb lines h is p q create start here now at on
