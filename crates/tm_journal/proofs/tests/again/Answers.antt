use Rattle.std.proofs.Common.{◌≡◌, Bool, true, false, List, nat_lt, if◌then◌else◌, ◌==◌, sym, subst, rules}
use Rattle.tm_tree.specs.declared.rows.Row.{Row}
use Rattle.tm_journal.specs.declared.since.Since.TheVariants.{Rows, Lost}
use Rattle.tm_journal.specs.Rows.{rows_above}
use Rattle.tm_journal.specs.Journals.{IsInOrder, rows_since}
use Rattle.tm_journal.proofs.Keeping.{filter_in_order}
use Rattle.tm_journal.proofs.tests.again.Goals as goal

rows_are : (b : Bool) (rows above : List Row) → Rows rows ≡ (if b then Rows above else Lost) → rows ≡ above
rows_are true rows above e = cc
rows_are false rows above e = cc

pub from_rows-requires : goal.from_rows-requires
from_rows-requires c =
    let told : Rows c.in-Rows.rows ≡ rows_since c.args.journal.now.generation c.args.journal.now.rows (record { generation = c.generation.result; cursor = 0 }) = search rules in
    subst (λ l. IsInOrder c.args.capacity l) (sym (rows_are (c.generation.result == c.args.journal.now.generation) c.in-Rows.rows (rows_above 0 c.args.journal.now.rows) told))
    (subst (λ n. IsInOrder n (rows_above 0 c.args.journal.now.rows)) (sym c.requires) (filter_in_order c.args.journal.now.capacity (λ row. nat_lt 0 row.id) c.args.journal.now.rows c.rules.ensures))
