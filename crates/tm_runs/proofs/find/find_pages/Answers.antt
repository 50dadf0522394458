use Rattle.tm_runs.proofs.Touching.{all_touched}
use Rattle.tm_runs.proofs.find.find_pages.Goals as goal

pub returns-clause-touched : goal.returns-clause-touched
returns-clause-touched c = all_touched c.args.holders.now c.find_first-from.result c.find_end-to.result c.args.key c.requires.rise c.find_end-to.ensures.inside c.find_first-from.ensures.last c.find_end-to.ensures.behind c.find_end-to.ensures.first
