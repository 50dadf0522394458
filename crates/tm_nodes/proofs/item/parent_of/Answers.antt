use Rattle.tm_nodes.proofs.KindLemmas.{parent_stands}
use Rattle.tm_nodes.proofs.item.parent_of.Goals as goal

pub returns-in-Ok-clause-item : goal.returns-in-Ok-clause-item
returns-in-Ok-clause-item c row rules spelled = let same = c.in-Ok.ensures.read row.parent rules.parent (parent_stands c.args.meta.now row spelled) in cc

pub returns-in-Err-clause-item : goal.returns-in-Err-clause-item
returns-in-Err-clause-item c row rules spelled = let same = c.in-Err.ensures.read row.parent rules.parent (parent_stands c.args.meta.now row spelled) in absurd cc
