use Rattle.std.proofs.Common.{◌≡◌, ◌++◌, ◌==◌, true, if◌then◌else◌, nat_lt, option_to_list, ap, sym, ◌∙◌, rules}
use Rattle.tm_journal.specs.declared.since.Since.TheVariants.{Rows, Lost}
use Rattle.tm_journal.specs.Rows.{rows_above}
use Rattle.tm_journal.specs.Journals.{JournalState}
use Rattle.tm_journal.proofs.Keeping.{sorted_out}
use Rattle.tm_journal.proofs.journal.Journal.since.Goals as goal

pub returns : goal.returns
returns c =
    let cursor = c.args.mark.now.cursor in
    let same : (c.args.mark.now.generation == c.args.self.now.generation) ≡ true = search rules in
    let rows : c.of.result ≡ rows_above cursor c.args.self.now.rows =
    c.of.ensures
    ∙ sorted_out (λ row. nat_lt cursor row.id) (option_to_list c.self.inside.root ++ c.self.inside.rows.items) c.in_ok-rows.rows.items c.self.invariant.in_order.rising c.in_ok-rows.ensures.0 c.in_ok-rows.ensures.1
    ∙ ap (λ (s : JournalState). rows_above cursor s.rows) c.self.view_is in
    ap Rows rows ∙ sym (ap (λ b. if b then Rows (rows_above cursor c.args.self.now.rows) else Lost) same)
