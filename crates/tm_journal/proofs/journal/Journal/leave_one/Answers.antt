use Rattle.tm_journal.proofs.Keeping.{root_kept}
use Rattle.tm_journal.proofs.journal.Journal.leave_one.Goals as goal

pub invariant_of-self : goal.invariant_of-self
invariant_of-self c = root_kept c.self.inside.capacity c.args.id c.args.flags c.root-path.result c.clear.new.self.items c.self.invariant.in_order.some c.root-path.ensures c.clear.ensures.items
