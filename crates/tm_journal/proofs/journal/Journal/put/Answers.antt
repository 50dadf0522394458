use Rattle.std.proofs.Common.{◌<◌, [], ◌∷◌, ◌++◌, All, length, option_to_list, sym, subst, ap, ◌∙◌}
use Rattle.tm_journal.specs.Journals.{JournalState}
use Rattle.tm_journal.proofs.Keeping.{inserted_kept, put_are}
use Rattle.tm_journal.proofs.journal.Journal.put.Goals as goal

pub invariant_of-self : goal.invariant_of-self
invariant_of-self c =
    let few = subst (λ (s : JournalState). length s.rows < s.capacity) (sym c.self.view_is) c.requires.few in
    let above = subst (λ (s : JournalState). All (λ other. other.id < c.args.row.id) s.rows) (sym c.self.view_is) c.requires.above in
    inserted_kept c.self.inside.capacity (option_to_list c.self.inside.root) c.self.inside.rows.items c.put.new.rows.items c.args.row c.self.invariant few above c.put.ensures.items c.put.ensures.by_path

pub returns-clause-rows : goal.returns-clause-rows
returns-clause-rows c =
    let above = subst (λ (s : JournalState). All (λ other. other.id < c.args.row.id) s.rows) (sym c.self.view_is) c.requires.above in
    put_are (option_to_list c.self.inside.root) c.self.inside.rows.items c.put.new.rows.items c.args.row above c.put.ensures.items
    ∙ ap (λ (s : JournalState). s.rows ++ c.args.row ∷ []) c.self.view_is
