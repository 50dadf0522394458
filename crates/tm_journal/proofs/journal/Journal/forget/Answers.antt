use Rattle.std.proofs.Common.{not, filter, option_to_list, ap, ◌∙◌}
use Rattle.tm_journal.specs.Rows.{replaces}
use Rattle.tm_journal.specs.Journals.{JournalState}
use Rattle.tm_journal.proofs.Keeping.{forgotten_kept, forgotten_are}
use Rattle.tm_journal.proofs.journal.Journal.forget.Goals as goal

pub invariant_of-self : goal.invariant_of-self
invariant_of-self c =
    forgotten_kept c.self.inside.capacity c.args.touch.now (option_to_list c.self.inside.root) c.self.inside.rows.items (option_to_list c.forget_root.new.root) c.forget.new.rows.items
    c.forget_root.ensures c.forget.ensures.items c.self.invariant

pub returns-clause-rows : goal.returns-clause-rows
returns-clause-rows c =
    forgotten_are c.args.touch.now (option_to_list c.self.inside.root) c.self.inside.rows.items (option_to_list c.forget_root.new.root) c.forget.new.rows.items c.forget_root.ensures c.forget.ensures.items
    ∙ ap (λ (s : JournalState). filter (λ row. not (replaces c.args.touch.now row)) s.rows) c.self.view_is
