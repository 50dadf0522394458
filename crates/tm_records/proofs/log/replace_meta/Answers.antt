use Rattle.tm_records.proofs.Maps.{with_meta_is}
use Rattle.tm_records.proofs.log.replace_meta.Goals as goal

pub returns-clause-entries : goal.returns-clause-entries
returns-clause-entries c = with_meta_is c.args.records.now.entries c.args.key _ c.args.meta c.replace-old.ensures.old _ _ _ c.replace-old.ensures.entries c.replace.ensures.entries
