use Rattle.tm_volume_records.proofs.Keys.{if_none_from, if_some_from}
use Rattle.tm_volume_records.proofs.check.first_from.Goals as goal

pub returns-clause-none : goal.returns-clause-none
returns-clause-none c = if_none_from c.key_from.result c.args.least c.args.image.now.records c.key_from.ensures

pub returns-clause-some : goal.returns-clause-some
returns-clause-some c = if_some_from c.key_from.result c.args.least c.args.image.now.records c.total.ensures.sound.rising c.key_from.ensures
