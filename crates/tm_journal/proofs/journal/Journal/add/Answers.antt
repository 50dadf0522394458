use Rattle.std.proofs.Common.{◌<◌, All, not, sym, subst}
use Rattle.std.proofs.lemmas.List.Elements.{All-filter}
use Rattle.tm_journal.specs.Rows.{replaces}
use Rattle.tm_journal.proofs.journal.Journal.add.Goals as goal

pub put-requires-clause-above : goal.put-requires-clause-above
put-requires-clause-above c =
    subst (λ l. All (λ other. other.id < c.args.id) l) (sym c.forget.ensures.rows)
    (All-filter (λ row. not (replaces (record { id = c.args.id; path = c.args.path; flags = c.args.flags }) row)) (λ other. other.id < c.args.id) c.args.self.now.rows c.requires.above)
