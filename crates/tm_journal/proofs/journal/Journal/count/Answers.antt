use Rattle.std.proofs.Common.{◌≡◌, ◌+◌, length, ap, ◌∙◌, rules}
use Rattle.tm_journal.specs.Journals.{JournalState}
use Rattle.tm_journal.proofs.Keeping.{none_count, some_count}
use Rattle.tm_journal.proofs.journal.Journal.count.Goals as goal

pub returns-in-None : goal.returns-in-None
returns-in-None c =
    let own : c.len.result ≡ length c.self.inside.rows.items = search rules in
    own ∙ none_count c.self.inside.root c.self.inside.rows.items c.in-None.is ∙ ap (λ (s : JournalState). length s.rows) c.self.view_is

pub returns-in-Some : goal.returns-in-Some
returns-in-Some c =
    let own : c.len-in-Some.result ≡ length c.self.inside.rows.items = search rules in
    ap (λ n. n + 1) own ∙ some_count c.self.inside.root _ c.self.inside.rows.items c.in-Some.is ∙ ap (λ (s : JournalState). length s.rows) c.self.view_is
