use Rattle.tm_journal.proofs.Keeping.{none_kept}
use Rattle.tm_journal.proofs.journal.Journal.lose.Goals as goal

pub invariant_of-self : goal.invariant_of-self
invariant_of-self c = none_kept c.self.inside.capacity c.clear.new.self.items c.self.invariant.in_order.some c.clear.ensures.items
