use Rattle.tm_journal.proofs.Keeping.{none_kept}
use Rattle.tm_journal.proofs.journal.Journal.new.Goals as goal

pub invariant_of-result : goal.invariant_of-result
invariant_of-result c = none_kept c.args.capacity c.new.result.items c.requires c.new.ensures.items
