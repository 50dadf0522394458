use Rattle.std.proofs.Common.{subst}
use Rattle.tm_journal.specs.Journals.{JournalState, IsInOrder}
use Rattle.tm_journal.proofs.journal.Journal.rules.Goals as goal

pub returns : goal.returns
returns c = subst (λ (s : JournalState). IsInOrder s.capacity s.rows) c.self.view_is c.self.invariant.in_order
