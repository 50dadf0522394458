use Rattle.std.proofs.Common.{◌≡◌, sym, subst, rules}
use Rattle.std.specs.List.{insert}
use Rattle.tm_journal.specs.Kept.{IsByPath}
use Rattle.tm_journal.proofs.ByPath.{by_path_insert}
use Rattle.tm_journal.proofs.kept.put.Goals as goal

pub returns-clause-by_path : goal.returns-clause-by_path
returns-clause-by_path c =
    let place = c.first_from-place.result in
    let put : c.insert.new.self.items ≡ insert c.args.rows.now.items place c.args.row = search rules in
    subst IsByPath (sym put)
    (subst (λ l. IsByPath (insert l place c.args.row)) c.deref.ensures.value
    (by_path_insert c.deref.result.now place c.args.row (subst IsByPath (sym c.deref.ensures.value) c.requires.by_path) c.first_from-place.ensures.within c.first_from-place.ensures.parts.0 c.first_from-place.ensures.parts.1))
