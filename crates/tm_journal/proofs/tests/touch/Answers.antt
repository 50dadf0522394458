use Rattle.std.proofs.Common.{◌<◌, All, sym, subst}
use Rattle.tm_journal.proofs.KeepableLemmas.{below_next}
use Rattle.tm_journal.proofs.tests.touch.Goals as goal

pub returns-clause-below : goal.returns-clause-below
returns-clause-below c =
    subst (λ l. All (λ row. row.id < c.args.next) l) (sym c.add.ensures.rows)
    (below_next c.args.journal.now.capacity c.args.next c.args.journal.now.rows (record { id = c.args.id; path = c.args.path; flags = c.args.flags }) c.requires.below c.requires.above)
